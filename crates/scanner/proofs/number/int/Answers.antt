-- `scanner::number::int` meets its contract. Assumes nothing.
use Rattle.scanner.proofs.Numbers.{exits, int_open, int-front, answered}
use Rattle.scanner.proofs.number.int.Goals as goal

pub returns-in_err-expect : goal.returns-in_err-expect
returns-in_err-expect c =
    answered (exits c.from_residual.ensures.1 c.in_err-expect.ensures.1 (int_open _ _ c.in_err-expect.ensures.0))

pub returns : goal.returns
returns c = answered (int-front _ _ (c.in_ok-expect.ensures.0) _ c.sign_at-front.ensures _ c.magnitude.ensures)
