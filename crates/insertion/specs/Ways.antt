-- Where an array stands in a plan, by the grammar alone: the way down to it.
use Rattle.std.specs.Prelude.{◌≡◌, [], ◌∷◌, ℕ, zero, suc, ◌+◌}
use Rattle.format.specs.Tree.{branch, pair, TreePath, nodes}
use Rattle.format.specs.Syntax.{array, Key, Head, Value, Values}

mutual
  -- the array whose node has this index, nodes being counted from the value's own on, with its path and its pairs: the value at hand, or in its pairs
  pub data WayTo : Value → (node : ℕ) → TreePath → Values → Type 0 where
    found : (h : Head) (ps : Values) → h.container ≡ array → WayTo (branch h ps) zero [] ps
    inside : (h : Head) {ps qs : Values} {i q : ℕ} {a : TreePath} → WayIn ps i q a qs → WayTo (branch h ps) (suc i) (q ∷ a) qs

  -- in the value at a place, nodes being counted from the first key's on: that of the first pair, or of a later one
  pub data WayIn : Values → (node place : ℕ) → TreePath → Values → Type 0 where
    first : (k : Key) {v : Value} (ps : Values) {qs : Values} {i : ℕ} {a : TreePath} → WayTo v i a qs → WayIn (pair k v ps) (suc i) zero a qs
    later : (k : Key) (v : Value) {ps qs : Values} {i j q : ℕ} {a : TreePath} → j ≡ nodes v + i → WayIn ps i q a qs
        → WayIn (pair k v ps) (suc j) (suc q) a qs
