-- `decimal::run_at` meets its contract. The invariant: what was read and the run from `next` on are the run from `at` on. Assumes nothing.
use Rattle.std.proofs.Common.{◌-◌, length}
use Rattle.decimal.proofs.Runs.{Scanned}
use Rattle.decimal.proofs.run_at.Given as goal

abbrev pub invariant-loop-digit : goal.invariant-loop-digit
invariant-loop-digit l = Scanned l.cap l.source l.at l.next l.value

abbrev pub decreases-loop-digit : goal.decreases-loop-digit
decreases-loop-digit l = length l.source - l.next
