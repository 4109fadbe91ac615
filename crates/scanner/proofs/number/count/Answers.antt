-- `scanner::number::count` meets its contract. Assumes nothing.
use mathlib.Core.Path.{refl, sym, ◌∙◌}
use native.Mathlib.Omega.{arith}
use lib.Dec.{lit<}
use Rattle.bytes_at.proofs.BytesAt.{pair-there}
use Rattle.scanner.proofs.Numbers.{exits, found_of, count_not, count_open, count-is, answered}
use Rattle.scanner.proofs.number.count.Goals as goal

pub returns-in_err-run : goal.returns-in_err-run
returns-in_err-run c = answered (exits c.from_residual.ensures.1 refl (count_not c.number.ensures c.in_err-run.was))

pub returns-then-not-bytes_are : goal.returns-then-not-bytes_are
returns-then-not-bytes_are c = answered (count_open _ _ _ (found_of c.number.ensures c.in_ok-run.was) (sym c.bytes_are.ensures ∙ c.if-not-bytes_are.true))

pub overflow_add-result : goal.overflow_add-result
overflow_add-result c = omega (arith, pair-there _ _ _ _ (sym c.bytes_are.ensures ∙ c.if-not-bytes_are.false) (lit< tt))

pub returns : goal.returns
returns c = answered (count-is _ _ _ (found_of c.number.ensures c.in_ok-run.was) (sym c.bytes_are.ensures ∙ c.if-not-bytes_are.false))
