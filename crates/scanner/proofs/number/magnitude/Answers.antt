-- `scanner::number::magnitude` meets its contract. Assumes nothing.
use mathlib.Core.Path.{refl}
use Rattle.scanner.proofs.Numbers.{exits, found_of, magnitude_not, magnitude_open, magnitude-is}
use Rattle.scanner.proofs.number.magnitude.Goals as goal

pub returns-in_err-run : goal.returns-in_err-run
returns-in_err-run c = exits c.from_residual.ensures.1 refl (magnitude_not c.args.negative _ c.digits.ensures c.in_err-run.was)

pub returns-in_err-expect : goal.returns-in_err-expect
returns-in_err-expect c =
    let is = found_of c.digits.ensures c.in_ok-run.was in
    exits c.from_residual-in_err-expect.ensures.1 c.in_err-expect.ensures.1 (magnitude_open _ _ c.args.negative _ _ is c.in_err-expect.ensures.0)

pub returns : goal.returns
returns c = let is = found_of c.digits.ensures c.in_ok-run.was in
    magnitude-is _ _ c.args.negative _ _ is _ c.from.ensures (c.in_ok-expect.ensures.0)
