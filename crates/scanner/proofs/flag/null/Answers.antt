-- `scanner::flag::null` meets its contract. Assumes nothing.
use Rattle.scanner.proofs.Flags as flags
use Rattle.scanner.proofs.Numbers.{exits, answered}
use Rattle.scanner.proofs.flag.null.Goals as goal

pub returns-in_err-expect : goal.returns-in_err-expect
returns-in_err-expect c =
    answered (exits c.from_residual.ensures.1 c.in_err-expect.ensures.1 (flags.null_open _ _ c.in_err-expect.ensures.0))

pub returns : goal.returns
returns c = answered (flags.null_is _ _ (c.in_ok-expect.ensures.0))
