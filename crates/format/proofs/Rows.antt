-- Laws of the table as a list: what stands where, and a node for each value and key. Assumes nothing.
use mathlib.Core.Path.{◌≡◌, refl, sym, ap, ap₂, ◌∙◌}
use mathlib.Core.List.{List, [], ◌∷◌, ◌++◌}
use Prim.Native.Nat.{ℕ, suc, ◌+◌}
use native.Mathlib.Nat.{add-zero}
use native.Mathlib.Numerals.{add-one}
use lib.ListN.{length, get_or, drop, length-append}
use lib.Seq.{get_or-drop, drop-drop, drop_at}
use Rattle.format.specs.Tree.{leaf, ref, branch, none, pair, count, nodes, nodes_in, ordinals}
use Rattle.format.specs.Syntax.{null, bool, int, float, string, array, object, Scalar, Container, Value, Values, own}
use Rattle.format.specs.Table.{Node, scalar_node, branch_node, table, table_in, pairs_offset, value_offset, next_offset}

-- ---- what stands at an index of a list
module _ {A : Type 0} where
  pub at_first : (l : List A) (i : ℕ) (x : A) (rest : List A) (d : A) → drop i l ≡ x ∷ rest → get_or l i d ≡ x
  at_first l i x rest d e = ap (λ (n : ℕ). get_or l n d) (sym (add-zero i)) ∙ sym (get_or-drop i l 0 d) ∙ ap (λ (m : List A). get_or m 0 d) e

  pub at_after : (l : List A) (i : ℕ) (xs rest : List A) (n : ℕ) → drop i l ≡ xs ++ rest → length xs ≡ n → drop (i + n) l ≡ rest
  at_after l i xs rest n e h = sym (drop-drop n i l) ∙ ap (drop n) e ∙ drop_at xs rest n h

  pub at_next : (l : List A) (i : ℕ) (x : A) (rest : List A) → drop i l ≡ x ∷ rest → drop (suc i) l ≡ rest
  at_next l i x rest e = ap (λ (n : ℕ). drop n l) (sym (add-one i)) ∙ at_after l i (x ∷ []) rest 1 e refl

-- ---- a node for each value and each key
module _ (to : ℕ → ℕ) where
  mutual
    pub table-length : (v : Value) (o i n : ℕ) → length (table to o i n v) ≡ nodes v
    table-length (leaf x) o i n = refl
    table-length (ref r) o i n = refl
    table-length (branch h ps) o i n = ap suc (table_in-length ps (pairs_offset o h (count ps)) (suc i) (suc n))

    pub table_in-length : (ps : Values) (o i n : ℕ) → length (table_in to o i n ps) ≡ nodes_in ps
    table_in-length none o i n = refl
    table_in-length (pair k v ps) o i n =
        ap suc (length-append (table to (value_offset o k) (suc i) n v) (table_in to (next_offset o k v) (suc (i + nodes v)) (n + ordinals own v) ps)
        ∙ ap₂ ◌+◌ (table-length v (value_offset o k) (suc i) n) (table_in-length ps (next_offset o k v) (suc (i + nodes v)) (n + ordinals own v)))

-- words 1 and 5
pub record Carries (x : Node) (n e : ℕ) : Type 0 where
  pub ordinal : x.ordinal ≡ n
  pub end : x.end ≡ e

pub scalar-carries : (o i n : ℕ) (x : Scalar) → Carries (scalar_node o i n x) n (suc i)
scalar-carries o i n null = record { ordinal = refl; end = refl }
scalar-carries o i n (bool b) = record { ordinal = refl; end = refl }
scalar-carries o i n (int x) = record { ordinal = refl; end = refl }
scalar-carries o i n (float t) = record { ordinal = refl; end = refl }
scalar-carries o i n (string q) = record { ordinal = refl; end = refl }

pub branch-carries : (o n : ℕ) (c : Container) (pairs e : ℕ) → Carries (branch_node o n c pairs e) n e
branch-carries o n array pairs e = record { ordinal = refl; end = refl }
branch-carries o n (object q) pairs e = record { ordinal = refl; end = refl }
