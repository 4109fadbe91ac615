-- `rewriting::stretch::stretch` meets its contract. Assumes nothing.
use Prim.Native.Nat.{◌-◌}
use Rattle.rewriting.specs.Stretches.{Keeps}
use Rattle.rewriting.proofs.stretch.stretch.Given as goal

abbrev pub invariant-loop-at : goal.invariant-loop-at
invariant-loop-at l = Keeps l.change l.table l.source l.first l.from l.to l.at l.node

abbrev pub decreases-loop-at : goal.decreases-loop-at
decreases-loop-at l = l.to - l.at
