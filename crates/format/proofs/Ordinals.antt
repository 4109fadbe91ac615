-- The numbers taken: 1, 2, 3 … in table order, each by one node. Assumes nothing.
use mathlib.Core.Path.{◌≡◌, refl, sym, ap, ap₂, ◌∙◌}
use mathlib.Core.List.{List, [], ◌∷◌, ◌++◌, nil≢cons, head-eq_of_cons-eq, tail-eq_of_cons-eq}
use mathlib.Core.Bool.{Bool, true, false}
use Prim.Native.Nat.{ℕ, zero, suc, ◌+◌, ◌≤◌, ◌<◌}
use native.Mathlib.Nat.{add-zero, zero-add, suc-add}
use native.Mathlib.Omega.{arith}
use lib.ListN.{get_or}
use lib.Dec.{eqb, eqb→eq}
use borrow.Author.Tests.{ne_eqb, eq-eqb}
use Rattle.decimal.proofs.Decide.{Test, passed, failed, test, T_of}
use Rattle.format.specs.Tree.{leaf, ref, branch, none, pair, count, nodes, nodes_in, ordinals, ordinals_in, one}
use Rattle.format.specs.Syntax.{int_key, string_key, Key, Value, Values, own}
use Rattle.format.specs.Table.{Node, key_node, scalar_node, branch_node, taken, ref_node, table, table_in, target_of, table_of, pairs_offset, value_offset}
use Rattle.format.specs.Table.{next_offset}
use Rattle.format.specs.Shows.{ordinals_of, up_from, node_at}
use Rattle.format.proofs.Rows.{scalar-carries, branch-carries}

-- ---- the ordinals taken
ordinal-some : (x : Node) (ns : List Node) → 1 ≤ x.ordinal → ordinals_of (x ∷ ns) ≡ x.ordinal ∷ ordinals_of ns
ordinal-some x ns h = rw (ne_eqb x.ordinal 0 (λ e. omega arith), ordinals_of)

ordinal-none : (x : Node) (ns : List Node) → x.ordinal ≡ 0 → ordinals_of (x ∷ ns) ≡ ordinals_of ns
ordinal-none x ns h = rw (eq-eqb x.ordinal 0 h, ordinals_of)

ordinals-append : (xs ys : List Node) → ordinals_of (xs ++ ys) ≡ ordinals_of xs ++ ordinals_of ys
ordinals-append [] ys = refl
ordinals-append (x ∷ xs) ys = go (test (eqb x.ordinal 0)) (ordinals-append xs ys)
  where
    go : Test (eqb x.ordinal 0) → ordinals_of (xs ++ ys) ≡ ordinals_of xs ++ ordinals_of ys → ordinals_of (x ∷ (xs ++ ys)) ≡ ordinals_of (x ∷ xs) ++ ordinals_of ys
    go (passed t) e = rw (t, ordinals_of) e
    go (failed t) e = rw (t, ordinals_of) (ap {B = List ℕ} (λ l. x.ordinal ∷ l) e)

pub up-append : (n a b : ℕ) → up_from n (a + b) ≡ up_from n a ++ up_from (n + a) b
up-append n zero b = ap₂ up_from (sym (add-zero n)) (zero-add b)
up-append n (suc a) b = ap (up_from n) (suc-add a b)
    ∙ ap {B = List ℕ} (λ l. n ∷ l) (up-append (suc n) a b ∙ ap (λ (m : ℕ). up_from (suc n) a ++ up_from m b) (omega arith))

pub up_at : (n c k d : ℕ) → k < c → get_or (up_from n c) k d ≡ n + k
up_at n zero k d h = absurd (omega arith)
up_at n (suc c) zero d h = omega arith
up_at n (suc c) (suc k) d h = up_at (suc n) c k d (omega arith) ∙ omega arith

key-ordinal : (o i : ℕ) (k : Key) → (key_node o i k).ordinal ≡ 0
key-ordinal o i (int_key x) = refl
key-ordinal o i (string_key q) = refl

taken-ordinals : (b : Bool) (x : Node) (n : ℕ) → x.ordinal ≡ taken b n → 1 ≤ n → ordinals_of (x ∷ []) ≡ up_from n (one b)
taken-ordinals true x n e h = ordinal-some x [] (omega arith) ∙ ap (λ (m : ℕ). m ∷ []) e
taken-ordinals false x n e h = ordinal-none x [] e

-- "Each value takes the next number, from 1, when its letter is met."
module _ (to : ℕ → ℕ) where
  mutual
    pub table-ordinals : (v : Value) (o i n : ℕ) → 1 ≤ n → ordinals_of (table to o i n v) ≡ up_from n (ordinals own v)
    table-ordinals (leaf x) o i n h = taken-ordinals true (scalar_node o i n x) n (scalar-carries o i n x).ordinal h
    table-ordinals (ref r) o i n h = taken-ordinals (own r) (ref_node (to r.named) i n r) n refl h
    table-ordinals (branch b ps) o i n h =
        let e : ℕ = i + suc (nodes_in ps) in
        let o' : ℕ = pairs_offset o b (count ps) in
        let first : (branch_node o n b.container (count ps) e).ordinal ≡ n = (branch-carries o n b.container (count ps) e).ordinal in
        ordinal-some (branch_node o n b.container (count ps) e) (table_in to o' (suc i) (suc n) ps) (omega arith)
        ∙ ap₂ {C = List ℕ} ◌∷◌ first (table_in-ordinals ps o' (suc i) (suc n) (omega arith))

    pub table_in-ordinals : (ps : Values) (o i n : ℕ) → 1 ≤ n → ordinals_of (table_in to o i n ps) ≡ up_from n (ordinals_in own ps)
    table_in-ordinals none o i n h = refl
    table_in-ordinals (pair k v ps) o i n h =
        let vs : List Node = table to (value_offset o k) (suc i) n v in
        let rest : List Node = table_in to (next_offset o k v) (suc (i + nodes v)) (n + ordinals own v) ps in
        ordinal-none (key_node o i k) (vs ++ rest) (key-ordinal o i k) ∙ ordinals-append vs rest
        ∙ ap₂ ◌++◌ (table-ordinals v (value_offset o k) (suc i) n h)
        (table_in-ordinals ps (next_offset o k v) (suc (i + nodes v)) (n + ordinals own v) (omega arith))
        ∙ sym (up-append n (ordinals own v) (ordinals_in own ps))

-- "Each value takes the next number, from 1, when its letter is met." The words 1 that are not 0 are 1, 2, 3 … in table order.
pub ordinals_in_order : (v : Value) → ordinals_of (table_of v) ≡ up_from 1 (ordinals own v)
unfolding table_of
ordinals_in_order v = table-ordinals (target_of v) v 0 0 1 (omega arith)

-- ---- one node carries an ordinal
data Step (x : Node) (rows : List Node) (n : ℕ) : Type 0 where
  passes : x.ordinal ≡ 0 → (c : ℕ) → ordinals_of rows ≡ up_from n c → Step x rows n
  takes : x.ordinal ≡ n → (c : ℕ) → ordinals_of rows ≡ up_from (suc n) c → Step x rows n

takes_one : (x : Node) (rows : List Node) (n c : ℕ) → x.ordinal ∷ ordinals_of rows ≡ up_from n c → Step x rows n
takes_one x rows n zero e = absurd (nil≢cons (sym e))
takes_one x rows n (suc c) e = takes (head-eq_of_cons-eq e) c (tail-eq_of_cons-eq e)

step : (x : Node) (rows : List Node) (n c : ℕ) → ordinals_of (x ∷ rows) ≡ up_from n c → Step x rows n
step x rows n c e = go (test (eqb x.ordinal 0))
  where
    go : Test (eqb x.ordinal 0) → Step x rows n
    go (passed t) = passes (eqb→eq x.ordinal 0 (T_of t)) c (rw (t, ordinals_of) at e)
    go (failed t) = takes_one x rows n c (rw (t, ordinals_of) at e)

later : (rows : List Node) (n c i : ℕ) → ordinals_of rows ≡ up_from n c → 1 ≤ (node_at rows i).ordinal → n ≤ (node_at rows i).ordinal
later [] n c i e h = absurd (omega arith)
later (x ∷ rows) n c zero e h = go (step x rows n c e)
  where
    go : Step x rows n → n ≤ x.ordinal
    go (passes z d s) = absurd (omega arith)
    go (takes z d s) = omega arith
later (x ∷ rows) n c (suc i) e h = go (step x rows n c e) (λ m d s. later rows m d i s h)
  where
    go : Step x rows n → ((m d : ℕ) → ordinals_of rows ≡ up_from m d → m ≤ (node_at rows i).ordinal) → n ≤ (node_at rows i).ordinal
    go (passes z d s) r = r n d s
    go (takes z d s) r = let k = r (suc n) d s in omega arith

-- the node that carries an ordinal is the only one
once : (rows : List Node) (n c i j : ℕ) → ordinals_of rows ≡ up_from n c → 1 ≤ (node_at rows i).ordinal → (node_at rows i).ordinal ≡ (node_at rows j).ordinal → i ≡ j
once [] n c i j e h s = absurd (omega arith)
once (x ∷ rows) n c zero zero e h s = refl
once (x ∷ rows) n c zero (suc j) e h s = go (step x rows n c e)
  where
    go : Step x rows n → zero ≡ suc j
    go (passes z d t) = absurd (omega arith)
    go (takes z d t) = absurd (omega (arith, later rows (suc n) d j t (omega arith)))
once (x ∷ rows) n c (suc i) zero e h s = go (step x rows n c e)
  where
    go : Step x rows n → suc i ≡ zero
    go (passes z d t) = absurd (omega arith)
    go (takes z d t) = absurd (omega (arith, later rows (suc n) d i t h))
once (x ∷ rows) n c (suc i) (suc j) e h s = go (step x rows n c e) (λ m d t. once rows m d i j t h s)
  where
    go : Step x rows n → ((m d : ℕ) → ordinals_of rows ≡ up_from m d → i ≡ j) → suc i ≡ suc j
    go (passes z d t) r = ap suc (r n d t)
    go (takes z d t) r = ap suc (r (suc n) d t)

-- "index of the node named": no other node has that number in word 1
pub one_carrier : (v : Value) (i j : ℕ) → 1 ≤ (node_at (table_of v) i).ordinal → (node_at (table_of v) i).ordinal ≡ (node_at (table_of v) j).ordinal → i ≡ j
one_carrier v i j h e = once (table_of v) 1 (ordinals own v) i j (ordinals_in_order v) h e
