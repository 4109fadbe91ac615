-- What `table-says` says leaves no choice of a text's offset. Assumes nothing.
use mathlib.Core.Path.{◌≡◌, refl, sym, ◌∙◌, subst}
use mathlib.Core.List.{List, [], ◌∷◌}
use Prim.Native.Nat.{ℕ, suc, ◌+◌, ◌≤◌, ◌<◌}
use native.Mathlib.Omega.{arith}
use lib.Dec.{T}
use Rattle.decimal.specs.Digits.{decimal, decimal_in}
use Rattle.decimal.proofs.Decide.{below, above, order}
use Rattle.format.specs.Bytes.{bytes}
use Rattle.format.specs.Kind.{Kind, tag, has_text}
use Rattle.format.specs.Tree.{leaf, ref, branch, none, pair, count, nodes, nodes_in, ordinals}
use Rattle.format.specs.Syntax.{int_key, string_key, null, bool, int, float, string, array, object, unsigned, RefKind, object_ref, variable_ref, ref_kind, Key}
use Rattle.format.specs.Syntax.{Scalar, Container, Value, Values, own, write, print}
use Rattle.format.specs.Canonical.{shortest}
use Rattle.format.specs.Table.{Node, single, key_node, scalar_node, branch_node, target_of, table_of, value_offset}
use Rattle.format.specs.Meaning.{meaning}
use Rattle.format.specs.Shows.{node_at, Shows, TextBehind, PlacedKey, PlacedScalar, PlacedContainer, Placed, PlacedIn, Says}
use Rattle.format.proofs.Places.{InTable, PairsInTable, node-is, contents_in, key-is, first_in, others_in, whole, offsets_stand}

-- any rows `ns` beside a table's
module _ (source : List ℕ) (ns rows : List Node) (to : ℕ → ℕ) where
  abbrev SameOffset : ℕ → Type 0
  SameOffset j = T (has_text (node_at rows j).tag) → (node_at ns j).content ≡ (node_at rows j).content

  text_same : (i : ℕ) (b t : List ℕ) → TextBehind source ns i b t → TextBehind source rows i b t → SameOffset i
  text_same i b t p q h = p.offset ∙ sym q.offset

  no_text : (i : ℕ) (x : Node) → node_at rows i ≡ x → (T (has_text x.tag) → ⊥) → SameOffset i
  no_text i x e f h = absurd (f (subst (λ (y : Node). T (has_text y.tag)) e h))

  key-same : (k : Key) (o i : ℕ) (b : List ℕ) → node_at rows i ≡ key_node o i k → PlacedKey source ns i b k → PlacedKey source rows i b k → SameOffset i
  key-same (int_key x) o i b e p q = no_text i _ e (λ h. h)
  key-same (string_key t) o i b e p q = text_same i _ _ p q

  scalar-same : (x : Scalar) (o i n : ℕ) (b : List ℕ) → node_at rows i ≡ scalar_node o i n x → PlacedScalar source ns i b x → PlacedScalar source rows i b x
      → SameOffset i
  scalar-same null o i n b e p q = no_text i _ e (λ h. h)
  scalar-same (bool c) o i n b e p q = no_text i _ e (λ h. h)
  scalar-same (int x) o i n b e p q = no_text i _ e (λ h. h)
  scalar-same (float t) o i n b e p q = text_same i _ _ p q
  scalar-same (string t) o i n b e p q = text_same i _ _ p q

  reference-no-text : (k : RefKind) → T (has_text (tag (ref_kind k))) → ⊥
  reference-no-text object_ref h = h
  reference-no-text variable_ref h = h

  container-same : (c : Container) (o i n pairs end : ℕ) (b : List ℕ) → node_at rows i ≡ branch_node o n c pairs end → PlacedContainer source ns i b c
      → PlacedContainer source rows i b c → SameOffset i
  container-same array o i n pairs end b e p q = no_text i _ e (λ h. h)
  container-same (object t) o i n pairs end b e p q = text_same i _ _ p q

  mutual
    same : (v : Value) (o i n : ℕ) (b : List ℕ) → InTable rows to o i n v → Placed source ns i b v → Placed source rows i b v
        → (j : ℕ) → i ≤ j → j < i + nodes v → SameOffset j
    same (leaf x) o i n b t p q j l u = subst SameOffset (omega arith) (scalar-same x o i n b (node-is rows to (leaf x) o i n t) p q)
    same (ref r) o i n b t p q j l u = subst SameOffset (omega arith) (no_text i _ (node-is rows to (ref r) o i n t) (reference-no-text r.kind))
    same (branch h ps) o i n b t p q j l u = elim (order i j) [
      | below m ↦ same_in ps _ (suc i) (suc n) _ (contents_in rows to o i n h ps t) p.1 q.1 j (omega arith) (omega arith)
      | above m ↦ subst SameOffset (omega arith)
          (container-same h.container o i n (count ps) (i + suc (nodes_in ps)) b (node-is rows to (branch h ps) o i n t) p.0 q.0)
    ]

    same_in : (ps : Values) (o i n : ℕ) (b : List ℕ) → PairsInTable rows to o i n ps → PlacedIn source ns i b ps → PlacedIn source rows i b ps
        → (j : ℕ) → i ≤ j → j < i + nodes_in ps → SameOffset j
    same_in none o i n b t p q j l u = absurd (omega arith)
    same_in (pair k v ps) o i n b t p q j l u = elim (order i j) [
      | below m ↦ elim (order j (suc (i + nodes v))) [
        | below w ↦ same v (value_offset o k) (suc i) n _ (first_in rows to o i n k v ps t) p.1 q.1 j (omega arith) (omega arith)
        | above w ↦ same_in ps _ (suc (i + nodes v)) (n + ordinals own v) _ (others_in rows to o i n k v ps t) p.2 q.2 j w (omega arith)
      ]
      | above m ↦ subst SameOffset (omega arith) (key-same k o i b (key-is rows to o i n k v ps t) p.0 q.0)
    ]

-- rows that say what the table says have its offset for each text
pub one-offset : (v : Value) (ns : List Node) → Says (print v) ns v → (i : ℕ) → i < nodes v → T (has_text (node_at (table_of v) i).tag)
    → (node_at ns i).content ≡ (node_at (table_of v) i).content
unfolding table_of
one-offset v ns s i u = same (print v) ns (table_of v) (target_of v) v 0 0 1 [] (whole v) s.placed (offsets_stand v) i (omega arith) (omega arith)

-- ---- two plans where the same bytes stand elsewhere too
abbrev text : List ℕ → Value
text t = leaf (string (record { spelling = shortest; text = t }))

abbrev at : ℕ → Value → Values → Values
at n v ps = pair (int_key (record { sign = unsigned; zeros = 0; magnitude = n })) v ps

abbrev twice : Value
twice = branch (record { container = array; spelling = shortest }) (at 0 (text (bytes "a")) (at 1 (text (bytes "a")) none))

pub empty-printed : print (text []) ≡ bytes "s:0:\"\";"
unfolding write decimal decimal_in
empty-printed = refl

pub twice-printed : print twice ≡ bytes "a:2:{i:0;s:1:\"a\";i:1;s:1:\"a\";}"
unfolding write decimal decimal_in
twice-printed = refl

-- by its bytes alone an empty text would stand anywhere; it stands behind its quote
pub empty-shown : (o : ℕ) → Shows (print (text [])) (single Kind.string 1 o 0 0 ∷ []) 0 (meaning (text []))
unfolding meaning
empty-shown o = (record { tag = refl; size = refl; link = refl; end = refl }, omega arith, refl)

pub empty-text : (ns : List Node) → ((node_at ns 0).content ≡ 5 → ⊥) → Says (print (text [])) ns (text []) → ⊥
unfolding decimal decimal_in
empty-text ns other s = other s.placed.offset

-- neither of two equal texts stands where the other does
pub equal_texts : (ns : List Node) → (node_at ns 2).content ≡ (node_at ns 4).content → Says (print twice) ns twice → ⊥
unfolding write decimal decimal_in
equal_texts ns e s =
    let first : (node_at ns 2).content ≡ 14 = s.placed.1.1.offset in
    let second : (node_at ns 4).content ≡ 26 = s.placed.1.2.1.offset in
    omega arith
