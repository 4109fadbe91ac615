-- `key_filter::mixed_text` meets its contract. Assumes nothing.
use Prim.Native.Nat.{◌+◌}
use mathlib.Core.Path.{◌≡◌}
use lib.ListN.{take, drop}
use Rattle.key_filter.specs.Hash.{mixed_text}
use Rattle.key_filter.proofs.mixed_text.Given as goal

abbrev pub invariant-loop-left : goal.invariant-loop-left
invariant-loop-left l =
    (l.at + l.left ≡ l.offset + l.size)
    × (mixed_text l.hash (take l.left (drop l.at l.source)) ≡ mixed_text l.start (take l.size (drop l.offset l.source)))

abbrev pub decreases-loop-left : goal.decreases-loop-left
decreases-loop-left l = l.left
