-- The pairs from a place on. Assumes nothing.
use Prim.Native.Nat.{ℕ, zero, suc}
use Rattle.format.specs.Tree.{none, pair}
use Rattle.format.specs.Syntax.{Values}

abbrev pub after : (place : ℕ) → Values → Values
after zero ps = ps
after (suc p) none = none
after (suc p) (pair k v ps) = after p ps
