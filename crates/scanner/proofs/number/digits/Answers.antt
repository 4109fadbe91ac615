-- `scanner::number::digits` meets its contract. Assumes nothing.
use Rattle.scanner.proofs.Numbers.{digits-none, digits-over, digits_are}
use Rattle.scanner.proofs.number.digits.Goals as goal

pub returns-then-next-at : goal.returns-then-next-at
returns-then-next-at c = digits-none _ _ _ _ c.run_at-run.ensures c.if-next-at.true

pub returns-then-top-value : goal.returns-then-top-value
returns-then-top-value c = digits-over _ _ _ _ c.run_at-run.ensures c.if-next-at.false c.if-top-value.true

pub returns : goal.returns
returns c = digits_are _ _ _ _ c.run_at-run.ensures c.if-next-at.false c.if-top-value.false
