-- Trees of leaves, references and branches of pairs, over what keys, leaves, heads of branches and references are.
-- A plan's syntax and its meaning are both such trees.
use Rattle.std.specs.Prelude.{List, [], ◌∷◌, ◌++◌, map, Bool, true, false, ℕ, suc, ◌+◌}

mutual
  pub data Tree (K L H R : Type 0) : Type 0 where
    leaf : L → Tree K L H R
    ref : R → Tree K L H R
    branch : H → Pairs K L H R → Tree K L H R

  -- "A pair is a key, then a value."
  pub data Pairs (K L H R : Type 0) : Type 0 where
    none : Pairs K L H R
    pair : K → Tree K L H R → Pairs K L H R → Pairs K L H R

-- "A value's path is the list of the places of the pairs that lead down to it; the plan's own is empty."
abbrev pub TreePath : Type 0
TreePath = List ℕ

module _ {K L H R : Type 0} where
  abbrev pub count : Pairs K L H R → ℕ
  count none = 0
  count (pair k v ps) = suc (count ps)

  -- nodes "in order of letters met, keys included": one for each value and each key
  abbrev mutual
    pub nodes : Tree K L H R → ℕ
    nodes (leaf l) = 1
    nodes (ref r) = 1
    nodes (branch h ps) = suc (nodes_in ps)

    pub nodes_in : Pairs K L H R → ℕ
    nodes_in none = 0
    nodes_in (pair k v ps) = suc (nodes v + nodes_in ps)

-- 1 or nothing, as a number and as a list
abbrev pub one : Bool → ℕ
one true = 1
one false = 0

abbrev pub only : {A : Type 0} → Bool → A → List A
only true a = a ∷ []
only false a = []

-- "How values are numbered": every value takes an ordinal, but for the references that `own` leaves out; a branch before its contents
module _ {K L H R : Type 0} (own : R → Bool) where
  abbrev mutual
    pub ordinals : Tree K L H R → ℕ
    ordinals (leaf l) = 1
    ordinals (ref r) = one (own r)
    ordinals (branch h ps) = suc (ordinals_in ps)

    pub ordinals_in : Pairs K L H R → ℕ
    ordinals_in none = 0
    ordinals_in (pair k v ps) = ordinals v + ordinals_in ps

  -- the paths of the values that take an ordinal, in the order of their ordinals; pairs from place `q` on
  abbrev mutual
    pub paths : Tree K L H R → List TreePath
    paths (leaf l) = [] ∷ []
    paths (ref r) = only (own r) []
    paths (branch h ps) = [] ∷ paths_in 0 ps

    pub paths_in : (q : ℕ) → Pairs K L H R → List TreePath
    paths_in q none = []
    paths_in q (pair k v ps) = map (λ (a : TreePath). q ∷ a) (paths v) ++ paths_in (suc q) ps

-- each part mapped
module _ {K L H R K' L' H' R' : Type 0} (fk : K → K') (fl : L → L') (fh : H → H') (fr : R → R') where
  abbrev mutual
    pub map_tree : Tree K L H R → Tree K' L' H' R'
    map_tree (leaf l) = leaf (fl l)
    map_tree (ref r) = ref (fr r)
    map_tree (branch h ps) = branch (fh h) (map_pairs ps)

    pub map_pairs : Pairs K L H R → Pairs K' L' H' R'
    map_pairs none = none
    map_pairs (pair k v ps) = pair (fk k) (map_tree v) (map_pairs ps)
