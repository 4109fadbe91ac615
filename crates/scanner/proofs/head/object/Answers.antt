-- `scanner::head::object` meets its contract. Assumes nothing.
use mathlib.Core.Path.{refl}
use Rattle.scanner.proofs.Numbers.{exits, found_of, answered}
use Rattle.scanner.proofs.Heads as heads
use Rattle.scanner.proofs.head.object.Goals as goal

pub returns-in_err-name : goal.returns-in_err-name
returns-in_err-name c = answered (exits c.from_residual.ensures.1 refl (heads.object_not _ _ _ _ c.quoted.ensures.scans c.in_err-name.was))

pub returns-in_err-pairs : goal.returns-in_err-pairs
returns-in_err-pairs c = let name = found_of c.quoted.ensures.scans c.in_ok-name.was in
    answered (exits c.from_residual-in_err-pairs.ensures.1 refl (heads.object-count _ _ _ name _ _ c.count.ensures.scans c.in_err-pairs.was))

pub returns : goal.returns
returns c = let name = found_of c.quoted.ensures.scans c.in_ok-name.was in
    answered (heads.object-is _ _ _ name _ (found_of c.count.ensures.scans c.in_ok-pairs.was))
