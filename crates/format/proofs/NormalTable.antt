-- The table of canonical text is its plan's but for text offsets. Assumes nothing.
use mathlib.Core.Path.{◌≡◌, refl, sym, ap, ap₂, ◌∙◌}
use mathlib.Core.List.{List, [], ◌∷◌, ◌++◌, map, map-append}
use Prim.Native.Nat.{ℕ, suc, ◌+◌, ◌-◌}
use lib.ListN.{get_or}
use Rattle.format.specs.Kind.{Kind}
use Rattle.format.specs.Tree.{leaf, ref, branch, none, pair, count, nodes, nodes_in, ordinals}
use Rattle.format.specs.Syntax.{int_key, string_key, null, bool, int, float, string, array, object, map_container, Key, Scalar, Container, Value, Values}
use Rattle.format.specs.Syntax.{own}
use lib.IntN.{ℤ}
use Rattle.format.specs.Table.{Node, word, single, key_node, scalar_node, branch_node, table, table_in, indices, indices_in, target_of, table_of, without_offset}
use Rattle.format.specs.Table.{pairs_offset, value_offset, next_offset}
use Rattle.format.specs.Canonical.{shortest_quoted, canonical_key, canonical_scalar, canonical_head, canonical_reference, canonical}
use Rattle.format.proofs.Maps.{nodes_in-map}
use Rattle.format.proofs.NormalForm.{int_same, canonical_pairs, count-canonical, ordinals-canonical, nodes-canonical}

int-node : (n i : ℕ) (a b : ℤ) → a ≡ b → without_offset (single Kind.int n (word a) 0 i) ≡ without_offset (single Kind.int n (word b) 0 i)
int-node n i a b e = ap (λ (x : ℤ). without_offset (single Kind.int n (word x) 0 i)) e

key-node : (o o' i : ℕ) (k : Key) → without_offset (key_node o' i (canonical_key k)) ≡ without_offset (key_node o i k)
key-node o o' i (int_key x) = int-node 0 i _ _ (int_same x)
key-node o o' i (string_key q) = refl

scalar-node : (o o' i n : ℕ) (x : Scalar) → without_offset (scalar_node o' i n (canonical_scalar x)) ≡ without_offset (scalar_node o i n x)
scalar-node o o' i n null = refl
scalar-node o o' i n (bool b) = refl
scalar-node o o' i n (int x) = int-node n i _ _ (int_same x)
scalar-node o o' i n (float t) = refl
scalar-node o o' i n (string q) = refl

branch-node : (o o' n : ℕ) (c : Container) (pairs e : ℕ)
    → without_offset (branch_node o' n (map_container shortest_quoted c) pairs e) ≡ without_offset (branch_node o n c pairs e)
branch-node o o' n array pairs e = refl
branch-node o o' n (object q) pairs e = refl

module _ (to : ℕ → ℕ) where
  mutual
    unfolding canonical

    table-canonical : (v : Value) (o o' i n : ℕ) → map without_offset (table to o' i n (canonical v)) ≡ map without_offset (table to o i n v)
    table-canonical (leaf x) o o' i n = ap (λ (y : Node). y ∷ []) (scalar-node o o' i n x)
    table-canonical (ref r) o o' i n = refl
    table-canonical (branch h ps) o o' i n = ap₂ {C = List Node} ◌∷◌
        (ap₂ (λ (p m : ℕ). without_offset (branch_node o' n (map_container shortest_quoted h.container) p (i + suc m))) (count-canonical ps)
        (nodes_in-map canonical_key canonical_scalar canonical_head canonical_reference ps)
        ∙ branch-node o o' n h.container (count ps) (i + suc (nodes_in ps)))
        (table_in-canonical ps (pairs_offset o h (count ps)) _ (suc i) (suc n))

    table_in-canonical : (ps : Values) (o o' i n : ℕ) → map without_offset (table_in to o' i n (canonical_pairs ps)) ≡ map without_offset (table_in to o i n ps)
    table_in-canonical none o o' i n = refl
    table_in-canonical (pair k v ps) o o' i n =
        let vs : List Node = table to (value_offset o k) (suc i) n v in
        let rest : List Node = table_in to (next_offset o k v) (suc (i + nodes v)) (n + ordinals own v) ps in
        let next : ℕ = next_offset o' (canonical_key k) (canonical v) in
        ap₂ {C = List Node} ◌∷◌ (key-node o o' i k)
        (map-append without_offset (table to _ (suc i) n (canonical v))
        (table_in to next (suc (i + nodes (canonical v))) (n + ordinals own (canonical v)) (canonical_pairs ps))
        ∙ ap₂ ◌++◌ (table-canonical v (value_offset o k) _ (suc i) n)
        (ap₂ (λ (a b : ℕ). map without_offset (table_in to next (suc (i + a)) (n + b) (canonical_pairs ps))) (nodes-canonical v) (ordinals-canonical v)
        ∙ table_in-canonical ps (next_offset o k v) next (suc (i + nodes v)) (n + ordinals own v))
        ∙ sym (map-append without_offset vs rest))

mutual
  unfolding canonical

  indices-canonical : (v : Value) (i : ℕ) → indices i (canonical v) ≡ indices i v
  indices-canonical (leaf x) i = refl
  indices-canonical (ref r) i = refl
  indices-canonical (branch h ps) i = ap {B = List ℕ} (λ l. i ∷ l) (indices_in-canonical ps (suc i))

  indices_in-canonical : (ps : Values) (i : ℕ) → indices_in i (canonical_pairs ps) ≡ indices_in i ps
  indices_in-canonical none i = refl
  indices_in-canonical (pair k v ps) i =
      ap₂ ◌++◌ (indices-canonical v (suc i)) (ap (λ (m : ℕ). indices_in (suc (i + m)) (canonical_pairs ps)) (nodes-canonical v)
      ∙ indices_in-canonical ps (suc (i + nodes v)))

-- Demand 2: "reading that gives the same table but for text offsets"
pub canonical-table : (v : Value) → map without_offset (table_of (canonical v)) ≡ map without_offset (table_of v)
unfolding table_of
canonical-table v =
    ap (λ (is : List ℕ). map without_offset (table (λ n. get_or is (n - 1) 0) 0 0 1 (canonical v))) (indices-canonical v 0)
    ∙ table-canonical (target_of v) v 0 0 0 1
