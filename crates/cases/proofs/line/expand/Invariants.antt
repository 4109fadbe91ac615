-- Each bracket leaves less of the text.
use Rattle.std.proofs.Common.{length}
use Rattle.cases.proofs.line.expand.Given as goal

abbrev pub decreases-loop-before : goal.decreases-loop-before
decreases-loop-before l = length l.rest
