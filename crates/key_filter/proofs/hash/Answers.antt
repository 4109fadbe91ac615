-- `key_filter::hash` meets its contract. Assumes nothing.
use mathlib.Core.Path.{sym, ap, ◌∙◌}
use Prim.Native.Nat.{ℕ}
use Rattle.key_filter.specs.Hash.{mixed, spread, int_hash}
use Rattle.key_filter.proofs.Hashing as hashing
use Rattle.key_filter.proofs.hash.Goals as goal

pub returns-then-has_text : goal.returns-then-has_text
returns-then-has_text c = c.text_hash.ensures ∙ sym (hashing.words-text _ _ _ (sym c.has_text.ensures ∙ c.if-has_text.true))

pub returns : goal.returns
unfolding int_hash
returns c = let key = c.args.key in
    c.spread.ensures
    ∙ ap spread (c.mixed.ensures ∙ ap (λ (h : ℕ). mixed h key.content) c.start.ensures)
    ∙ sym (hashing.words-int _ _ _ (sym c.has_text.ensures ∙ c.if-has_text.false))
