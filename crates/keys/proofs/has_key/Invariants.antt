-- `keys::has_key` meets its contract. Assumes nothing.
use Prim.Native.Nat.{◌-◌}
use Rattle.keys.specs.KeyWords.{key_said}
use Rattle.keys.proofs.Chains as chains
use Rattle.keys.proofs.has_key.Given as goal

abbrev pub invariant-loop-i : goal.invariant-loop-i
invariant-loop-i l = chains.Left l.of_array l.source l.table (key_said l.of_array l.other l.key) l.first l.end l.i

abbrev pub decreases-loop-i : goal.decreases-loop-i
decreases-loop-i l = l.last - l.i
