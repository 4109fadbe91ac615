-- `placing::target::carried` meets its contract. Assumes nothing.
use mathlib.Core.Path.{◌≡◌}
use Prim.Native.Nat.{◌≤◌}
use Rattle.placing.specs.Words.{carriers}
use Rattle.placing.proofs.target.carried.Given as goal

abbrev pub invariant-loop-i : goal.invariant-loop-i
invariant-loop-i l = (l.taken ≡ carriers l.table l.first l.i) × (l.taken ≤ l.i)
