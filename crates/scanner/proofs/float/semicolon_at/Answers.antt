-- `scanner::float::semicolon_at` meets its contract. Assumes nothing.
use Rattle.scanner.proofs.Floats as floats
use Rattle.scanner.proofs.float.semicolon_at.Goals as goal

pub loop-i-preserved : goal.loop-i-preserved
loop-i-preserved c = floats.passed-more _ _ _ c.loop-i.invariant c.loop-i-test.true c.if-source-i-eq59.false
