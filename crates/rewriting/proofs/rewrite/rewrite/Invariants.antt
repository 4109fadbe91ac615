-- `rewriting::rewrite::rewrite` meets its contract. Assumes nothing.
use Prim.Native.Nat.{◌-◌}
use lib.ListN.{length}
use Rattle.rewriting.proofs.Rewritten as rewritten
use Rattle.rewriting.proofs.rewrite.rewrite.Given as goal

abbrev pub invariant-loop-at : goal.invariant-loop-at
invariant-loop-at l = rewritten.Rewriting l.table l.source l.from l.to l.change l.initial.out l.kept l.behind l.next l.out

abbrev pub decreases-loop-at : goal.decreases-loop-at
decreases-loop-at l = length l.source - l.behind
