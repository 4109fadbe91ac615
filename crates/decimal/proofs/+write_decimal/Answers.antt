use Rattle.std.proofs.Common.{arith}
use Rattle.decimal.proofs.Stores.{stored_small, stored_short, stored_large}
use Rattle.decimal.proofs.+write_decimal.Goals as goal

pub returns-then-n-lt10 : goal.returns-then-n-lt10
returns-then-n-lt10 t c = stored_small _ _ _ _ c.if-n-lt10.true c.put.ensures

pub overflow_add-result : goal.overflow_add-result
overflow_add-result t c = omega (arith, stored_short c.write_decimal-high.ensures (omega arith))

pub returns : goal.returns
returns t c = stored_large _ _ _ _ _ _ c.if-n-lt10.false c.write_decimal-high.ensures c.put-2.ensures
