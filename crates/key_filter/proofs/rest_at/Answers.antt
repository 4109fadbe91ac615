-- `key_filter::rest_at` meets its contract. Assumes nothing.
use mathlib.Core.Path.{sym, ◌∙◌}
use Rattle.key_filter.specs.Hash.{half_of}
use Rattle.key_filter.proofs.Hashing as hashing
use Rattle.key_filter.proofs.rest_at.Goals as goal

pub returns-then-count-ge4 : goal.returns-then-count-ge4
returns-then-count-ge4 c = let at = c.args in
    c.halves_at.ensures ∙ sym (hashing.rest-long at.source.now at.at at.count c.requires.0 c.if-count-ge4.true)

pub returns : goal.returns
unfolding half_of
returns c = let at = c.args in
    c.half.ensures.value ∙ sym (hashing.rest-short at.source.now at.at at.count c.requires.0 c.if-count-ge4.false c.requires.1)
