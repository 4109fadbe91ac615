-- `scanner::head::array` meets its contract. Assumes nothing.
use Rattle.scanner.proofs.Numbers.{exits, answered}
use Rattle.scanner.proofs.Heads as heads
use Rattle.scanner.proofs.head.array.Goals as goal

pub returns-in_err-expect : goal.returns-in_err-expect
returns-in_err-expect c =
    answered (exits c.from_residual.ensures.1 c.in_err-expect.ensures.1 (heads.array_colon _ _ c.in_err-expect.ensures.0))

pub returns : goal.returns
returns c = answered (heads.array-is _ _ _ (c.in_ok-expect.ensures.0) c.count.ensures.scans)
