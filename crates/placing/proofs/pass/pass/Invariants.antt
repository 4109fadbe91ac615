-- `placing::pass::pass` meets its contract. Assumes nothing.
use Prim.Native.Nat.{◌-◌}
use lib.ListN.{length}
use Rattle.placing.proofs.Passes as passes
use Rattle.placing.proofs.pass.pass.Given as goal

abbrev pub invariant-loop-text : goal.invariant-loop-text
invariant-loop-text l = passes.Passing l.source l.from l.nodes l.at l.passed l.opened l.closed

abbrev pub decreases-loop-text : goal.decreases-loop-text
decreases-loop-text l = length l.source - l.at
