-- `key_filter::half_at` meets its contract. Assumes nothing.
use mathlib.Core.Path.{sym, ◌∙◌}
use Rattle.key_filter.specs.Hash.{half_of}
use Rattle.key_filter.proofs.Hashing as hashing
use Rattle.key_filter.proofs.half_at.Goals as goal

pub returns : goal.returns
unfolding half_of
returns c = (c.half.ensures.value ∙ sym (hashing.half_is c.args.source.now c.args.at), c.half.ensures.fits)
