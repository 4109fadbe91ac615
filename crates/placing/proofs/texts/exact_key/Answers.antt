-- `placing::texts::exact_key` meets its contract. Assumes nothing.
use Prim.Native.Nat.{ℕ}
use mathlib.Core.Path.{sym, ap, ◌∙◌}
use Rattle.format.specs.Kind.{may_be_key}
use Rattle.placing.proofs.TextLaws as laws
use Rattle.placing.proofs.texts.exact_key.Goals as goal

pub returns : goal.returns
returns c =
    laws.exact_key _ c.exact.result (sym (c.may_be_key.ensures ∙ ap (λ (b : ℕ). may_be_key b) (c.in_ok-first.ensures.item.3.1 0)) ∙ c.if-not-may_be_key.false)
    c.exact.ensures
