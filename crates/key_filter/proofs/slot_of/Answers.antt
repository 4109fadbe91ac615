-- `key_filter::slot_of` meets its contract. Assumes nothing.
use mathlib.Core.Path.{refl}
use Rattle.key_filter.specs.Filter.{slot_of}
use Rattle.key_filter.proofs.Marking as marking
use Rattle.key_filter.proofs.slot_of.Goals as goal

pub returns : goal.returns
unfolding slot_of
returns c = (refl, marking.slot_in c.args.count c.args.number c.requires)
