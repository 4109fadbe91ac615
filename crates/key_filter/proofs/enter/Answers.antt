-- `key_filter::enter` meets its contract. Assumes nothing.
use native.Mathlib.Omega.{arith}
use Rattle.key_filter.proofs.Marking as marking
use Rattle.key_filter.proofs.enter.Goals as goal

pub returns-then-count-eq0 : goal.returns-then-count-eq0
returns-then-count-eq0 c = marking.entered-none _ _ c.if-count-eq0.true

pub returns : goal.returns
returns c = marking.entered_in _ _ _ _ _ c.slot_of-one.ensures.0 c.slot_of-two.ensures.0 (omega (arith, c.if-count-eq0.false)) c.mask_of-mask.ensures
