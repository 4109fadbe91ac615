-- What a service that writes a plan writes, or its first refusal.
use Rattle.std.specs.Prelude.{List, [], ◌∷◌, Bool, true, false, not, ◌&&◌, ℕ, zero, suc, ◌+◌, ◌-◌, leb, ltb, length}
use Rattle.format.specs.Tree.{leaf, ref, branch, none, pair, TreePath, count, nodes}
use Rattle.format.specs.Syntax.{Key, Scalar, Value, Values, print}
use Rattle.format.specs.Limits.{source_limit, depth_limit, Terms, unseen}
use Rattle.format.specs.Keys.{has_key}
use Rattle.format.specs.Answer.{Answer, ok, refused, ◌>>=◌, require}
use Rattle.format.specs.Read.{setting, is_array, read_key, read_value, read}
use Rattle.format.specs.Canonical.{canonical}
use Rattle.format.specs.Edit.{keys, insert}

-- 14: "bytes to write exceed the output's length or 65,536"
abbrev pub fits_in : (room size : ℕ) → Bool
fits_in room size = leb size room && leb size source_limit

abbrev pub with_room : (room : ℕ) → (bytes : List ℕ) → Answer (List ℕ)
with_room room bytes = do
  _ ← require (fits_in room (length bytes)) 14 0
  ok bytes

-- ---- retyping

-- "Retyping: reading, then 14."
unfoldable pub canonical_bytes : Terms → (room : ℕ) → (source : List ℕ) → Answer (List ℕ)
canonical_bytes terms room source = do
  v ← read terms source
  with_room room (print (canonical v))

-- ---- inserting

-- an array of a plan: its path, and its pairs
pub record Site : Type 0 where
  pub path : TreePath
  pub pairs : Values

abbrev pub under : (place : ℕ) → Site → Site
under q s = record { path = q ∷ s.path; pairs = s.pairs }

-- the array whose node has an index, nodes being counted from the value's or the first key's on; 11: "index names no `a` node"
abbrev mutual
  pub array_at : (node : ℕ) → Value → Answer Site
  array_at i (leaf x) = refused 11 0
  array_at i (ref r) = refused 11 0
  array_at zero (branch h ps) = require (is_array h.container) 11 0 >>= λ u. ok (record { path = []; pairs = ps })
  array_at (suc i) (branch h ps) = array_in i 0 ps

  -- in pairs, the first of which has this place
  pub array_in : (node place : ℕ) → Values → Answer Site
  array_in i q none = refused 11 0
  array_in zero q (pair k v ps) = refused 11 0
  array_in (suc i) q (pair k v ps) = elim (ltb i (nodes v)) [ true ↦ array_at i v >>= λ s. ok (under q s) | false ↦ array_in (i - nodes v) (suc q) ps ]

-- 13: "The key text is exactly one i or s, the value text exactly one plain value (N, b, i, d or s), nothing after it, by the grammar above with its ranges."
abbrev pub exactly : {A : Type 0} → Answer (A × List ℕ) → Answer A
exactly (ok (x, [])) = ok x
exactly (ok (x, b ∷ s)) = refused 13 0
exactly (refused n p) = refused 13 0

-- a text is one node
abbrev pub one_node : Terms
one_node = record { capacity = 1 }

unfoldable pub key_of : List ℕ → Answer Key
key_of text = exactly (read_key (setting one_node text) true [] 0 text)

abbrev pub plain : Value → Answer Scalar
plain (leaf x) = ok x
plain (ref r) = refused 13 0
plain (branch h ps) = refused 13 0

unfoldable pub scalar_of : List ℕ → Answer Scalar
scalar_of text = exactly (read_value (setting one_node text) 1 unseen 0 text) >>= plain

-- an insertion that only the room for bytes can still refuse: the plan given, the array, the key and the value
pub record Insertion : Type 0 where
  pub plan : Value
  pub site : Site
  pub key : Key
  pub value : Scalar

-- "Inserting: reading, 11, 12, 13, 9 (new key present), 8 (array at depth 64), 7 (two more nodes), 14; here 9, 8 and 7 have position 0.": up to 14
unfoldable pub insertion_of : Terms → (source : List ℕ) → (node place : ℕ) → (key value : List ℕ) → Answer Insertion
insertion_of terms source node place key value = do
  v ← read terms source
  site ← array_at node v
  _ ← require (leb place (count site.pairs)) 12 0
  k ← key_of key
  x ← scalar_of value
  _ ← require (not (has_key k (keys site.pairs))) 9 0
  _ ← require (ltb (suc (length site.path)) depth_limit) 8 0
  _ ← require (leb (nodes v + 2) terms.capacity) 7 0
  ok (record { plan = v; site = site; key = k; value = x })

-- the syntax of the plan to write
abbrev pub inserted_plan : (place : ℕ) → Insertion → Value
inserted_plan place i = insert i.site.path place i.key i.value i.plan

-- and 14
unfoldable pub insert_bytes : Terms → (room : ℕ) → (source : List ℕ) → (node place : ℕ) → (key value : List ℕ) → Answer (List ℕ)
insert_bytes terms room source node place key value = do
  i ← insertion_of terms source node place key value
  with_room room (print (inserted_plan place i))
