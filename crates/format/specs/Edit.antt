-- "Inserting", on a plan's syntax: one pair put into one array, and the references behind it renumbered.
use Rattle.std.specs.Prelude.{List, [], ◌∷◌, Bool, true, false, ℕ, zero, suc, ◌+◌, leb}
use Rattle.format.specs.Tree.{Tree, leaf, ref, branch, Pairs, none, pair, TreePath, ordinals, map_tree}
use Rattle.format.specs.Syntax.{Key, Scalar, Head, Reference, Value, own}
use Rattle.format.specs.Canonical.{shortest}

-- ---- any tree

module _ {K L H R : Type 0} where
  -- one pair more, at a place
  abbrev pub put_pair : (place : ℕ) → K → Tree K L H R → Pairs K L H R → Pairs K L H R
  put_pair zero k v ps = pair k v ps
  put_pair (suc p) k v none = pair k v none
  put_pair (suc p) k v (pair j u ps) = pair j u (put_pair p k v ps)

  -- the value at a place changed
  abbrev pub at_place : (place : ℕ) → (Tree K L H R → Tree K L H R) → Pairs K L H R → Pairs K L H R
  at_place q f none = none
  at_place zero f (pair k v ps) = pair k (f v) ps
  at_place (suc q) f (pair k v ps) = pair k v (at_place q f ps)

  -- the container at a path changed: its head by `g`, its pairs by `f`
  abbrev pub at_path : (H → H) → (Pairs K L H R → Pairs K L H R) → TreePath → Tree K L H R → Tree K L H R
  at_path g f [] (leaf l) = leaf l
  at_path g f [] (ref r) = ref r
  at_path g f [] (branch h ps) = branch (g h) (f ps)
  at_path g f (q ∷ a) (leaf l) = leaf l
  at_path g f (q ∷ a) (ref r) = ref r
  at_path g f (q ∷ a) (branch h ps) = branch h (at_place q (at_path g f a) ps)

  -- the pairs before a place
  abbrev pub upto : (place : ℕ) → Pairs K L H R → Pairs K L H R
  upto zero ps = none
  upto (suc p) none = none
  upto (suc p) (pair k v ps) = pair k v (upto p ps)

  -- the keys of pairs
  abbrev pub keys : Pairs K L H R → List K
  keys none = []
  keys (pair k v ps) = k ∷ keys ps

-- "the numbers taken by values whose letters stand before the new pair"
module _ {K L H R : Type 0} (own : R → Bool) where
  -- those in the pairs before a place
  abbrev pub ordinals_upto : (place : ℕ) → Pairs K L H R → ℕ
  ordinals_upto zero ps = 0
  ordinals_upto (suc p) none = 0
  ordinals_upto (suc p) (pair k v ps) = ordinals own v + ordinals_upto p ps

  -- those in the pairs before a place, and a part of those in the value there
  abbrev pub ordinals_within : (place : ℕ) → (Tree K L H R → ℕ) → Pairs K L H R → ℕ
  ordinals_within q f none = 0
  ordinals_within zero f (pair k v ps) = f v
  ordinals_within (suc q) f (pair k v ps) = ordinals own v + ordinals_within q f ps

  -- those before a place in the container at a path
  abbrev pub ordinals_before : TreePath → (place : ℕ) → Tree K L H R → ℕ
  ordinals_before [] p (leaf l) = 0
  ordinals_before [] p (ref r) = 0
  ordinals_before [] p (branch h ps) = suc (ordinals_upto p ps)
  ordinals_before (q ∷ a) p (leaf l) = 0
  ordinals_before (q ∷ a) p (ref r) = 0
  ordinals_before (q ∷ a) p (branch h ps) = suc (ordinals_within q (ordinals_before a p) ps)

-- ---- a plan's syntax

-- "Let k be 1 plus the numbers taken by values whose letters stand before the new pair."
abbrev pub new_ordinal : TreePath → (place : ℕ) → Value → ℕ
new_ordinal a p v = suc (ordinals_before own a p v)

-- "Each reference naming t with t ≥ k is rewritten as t + 1, shortest form; other references keep their bytes."
abbrev pub raised : (k : ℕ) → Reference → Reference
raised k r = elim (leb k r.named) [ true ↦ record { kind = r.kind; spelling = shortest; named = suc r.named } | false ↦ r ]

abbrev pub renumbered : (k : ℕ) → Value → Value
renumbered k v = map_tree (λ j. j) (λ x. x) (λ h. h) (raised k) v

-- "The array's count is written in shortest form."
abbrev pub count_shortest : Head → Head
count_shortest h = record { container = h.container; spelling = shortest }

-- "the bytes written are the old ones with three changes: the array's count, the number of each reference with t ≥ k, and key text then
-- value text put in": their syntax
unfoldable pub insert : TreePath → (place : ℕ) → Key → Scalar → Value → Value
insert a p k x v = renumbered (new_ordinal a p v) (at_path count_shortest (put_pair p k (leaf x)) a v)
