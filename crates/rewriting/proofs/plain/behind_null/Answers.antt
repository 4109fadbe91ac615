-- `rewriting::plain::behind_null` meets its contract. Assumes nothing.
use mathlib.Core.Path.{sym, ◌∙◌}
use Rattle.rewriting.proofs.PlainTokens as plain
use Rattle.rewriting.proofs.plain.behind_null.Goals as goal

pub returns : goal.returns
returns c = plain.if-passed c.then_some.ensures (λ e. plain.plain-null _ _ c.requires (sym c.byte_is.ensures ∙ e))
