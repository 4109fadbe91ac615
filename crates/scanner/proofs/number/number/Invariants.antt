-- `scanner::number::number` meets its contract. Assumes nothing.
use Prim.Native.Nat.{◌+◌, ◌-◌}
use Rattle.scanner.proofs.Numbers.{DigitsFrom}
use Rattle.scanner.proofs.number.number.Given as goal

abbrev pub invariant-loop-scan : goal.invariant-loop-scan
invariant-loop-scan l = DigitsFrom l.source l.at l.from

abbrev pub decreases-loop-scan : goal.decreases-loop-scan
decreases-loop-scan l = l.at + 1 - l.from
