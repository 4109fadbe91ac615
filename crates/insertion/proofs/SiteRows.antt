-- Where the array of a node stands in the table and in the bytes. Assumes nothing.
use mathlib.Core.Path.{◌≡◌, refl, sym, ap, ap₂, ◌∙◌, subst}
use mathlib.Core.Logic.{◌⊎◌, inl, inr}
use mathlib.Core.List.{List, [], ◌∷◌, ◌++◌}
use mathlib.Core.Bool.{Bool, true, false}
use Prim.Native.Nat.{ℕ, zero, suc, ◌+◌, ◌-◌, ◌≤◌, ◌<◌}
use native.Mathlib.Omega.{arith}
use lib.Dec.{ltb}
use lib.ListN.{length, drop}
use borrow.Author.Tests.{ltb-true, ltb-false}
use Rattle.format.specs.Bytes.{byte}
use Rattle.format.specs.Kind.{Kind, tag}
use Rattle.format.specs.Tree.{leaf, ref, branch, none, pair, count, nodes, TreePath, nodes_in, ordinals}
use Rattle.format.specs.Syntax.{int_key, string_key, null, bool, int, float, string, array, object, RefKind, object_ref, variable_ref, Key, Scalar, Container}
use Rattle.format.specs.Syntax.{ref_kind, Value, Values, own, write, write_pairs, print}
use Rattle.format.specs.Limits.{number_limit, depth_limit}
use Rattle.format.specs.Fits.{Sound, SoundIn, Limited, LimitedIn, Shallow, ShallowIn, Valid}
use Rattle.format.specs.Answer.{Answer, ok, refused, ◌>>=◌, require}
use Rattle.format.specs.Read.{is_array}
use Rattle.format.specs.Table.{Node, key_node, scalar_node, branch_node, table_in, target_of, table_of, pairs_offset, value_offset, next_offset}
use Rattle.format.specs.Shows.{node_at, pair_at, follow}
use Rattle.format.specs.Edit.{ordinals_upto, ordinals_within, ordinals_before, new_ordinal}
use Rattle.format.specs.Writing.{Site, under, array_at, array_in}
use Rattle.format.proofs.Answers.{refused-same, not_both, bind-refused}
use Rattle.format.proofs.Rows.{at_first}
use Rattle.format.proofs.Places.{InTable, PairsInTable, contents_in, first_in, others_in, contents_text, value-text, others-text, whole}
use Rattle.format.proofs.Tables.{end_is}
use Rattle.insertion.specs.Ways.{WayTo, found, inside, WayIn, first, later}
use Rattle.insertion.proofs.Arrays.{locates, nodes-inside}

-- ---- the array's row, the rows of its pairs and their bytes
module _ (rows : List Node) (to : ℕ → ℕ) (source : List ℕ) where
  -- the array of these pairs at node `at`; `n` is the next ordinal where a part of the plan begins, of which `before p` are taken before place p
  record ArrayRows (at n : ℕ) (before : ℕ → ℕ) (ps : Values) : Type 0 where
    ordinal : ℕ
    offset : ℕ
    rest : List Node
    row : drop at rows ≡ branch_node 0 ordinal array (count ps) (at + suc (nodes_in ps)) ∷ (table_in to offset (suc at) (suc ordinal) ps ++ rest)
    new : (p : ℕ) → n + before p ≡ suc (ordinal + ordinals_upto own p ps)
    after : List ℕ
    text : drop offset source ≡ write_pairs ps (byte "}" ∷ after)
    some : n ≤ ordinal

  -- the same, for a part of the plan that begins earlier
  earlier : {at m n : ℕ} {f g : ℕ → ℕ} {ps : Values} → m ≤ n → ((p : ℕ) → m + g p ≡ n + f p) → ArrayRows at n f ps → ArrayRows at m g ps
  earlier h e s =
      record {
        ordinal = s.ordinal;
        offset = s.offset;
        rest = s.rest;
        row = s.row;
        new = λ p. e p ∙ s.new p;
        after = s.after;
        text = s.text;
        some = omega (arith, s.some);
      }

  mutual
    unfolding write

    stands : {v : Value} {j : ℕ} {a : TreePath} {qs : Values} → WayTo v j a qs → (o i n at : ℕ) → at ≡ i + j → (r : List ℕ) → InTable rows to o i n v
        → drop o source ≡ write v r
        → ArrayRows at n (λ p. ordinals_before own a p v) qs
    stands (found h ps c) o i n at e r t x =
        let a : i ≡ at = omega arith in
        subst (λ (m : ℕ). ArrayRows m n (λ p. suc (ordinals_upto own p ps)) ps) a (record {
          ordinal = n;
          offset = pairs_offset o h (count ps);
          rest = t.rest;
          row =
              t.here ∙ ap (λ (d : Container). branch_node o n d (count ps) (i + suc (nodes_in ps)) ∷
              (table_in to (pairs_offset o h (count ps)) (suc i) (suc n) ps ++ t.rest)) c;
          new = λ p. omega arith;
          after = r;
          text = contents_text source o h (count ps) (write_pairs ps (byte "}" ∷ r)) x;
          some = omega arith;
        })
    stands (inside h {ps} w) o i n at e r t x =
        earlier (omega arith) (λ p. omega arith)
        (stands_in w (pairs_offset o h (count ps)) (suc i) (suc n) at (omega arith) (byte "}" ∷ r) (contents_in rows to o i n h ps t)
        (contents_text source o h (count ps) (write_pairs ps (byte "}" ∷ r)) x))

    stands_in : {ps : Values} {j q : ℕ} {a : TreePath} {qs : Values} → WayIn ps j q a qs → (o i n at : ℕ) → at ≡ i + j → (r : List ℕ)
        → PairsInTable rows to o i n ps → drop o source ≡ write_pairs ps r
        → ArrayRows at n (λ p. ordinals_within own q (ordinals_before own a p) ps) qs
    stands_in (first k {v} ps w) o i n at e r t x =
        stands w (value_offset o k) (suc i) n at (omega arith) (write_pairs ps r) (first_in rows to o i n k v ps t)
        (value-text source o k (write v (write_pairs ps r)) x)
    stands_in (later k v {ps} d w) o i n at e r t x =
        earlier (omega arith) (λ p. omega arith)
        (stands_in w (next_offset o k v) (suc (i + nodes v)) (n + ordinals own v) at (omega arith) r (others_in rows to o i n k v ps t)
        (others-text source o k v (write_pairs ps r) x))

pub record InPlan (v : Value) (node : ℕ) (s : Site) : Type 0 where
  -- the array's own
  pub ordinal : ℕ
  -- of its first pair in the print
  pub offset : ℕ
  pub rest : List Node
  pub rows : drop node (table_of v) ≡ branch_node 0 ordinal array (count s.pairs) (node + suc (nodes_in s.pairs)) ∷
      (table_in (target_of v) offset (suc node) (suc ordinal) s.pairs ++ rest)
  pub new : (p : ℕ) → new_ordinal s.path p v ≡ suc (ordinal + ordinals_upto own p s.pairs)
  pub after : List ℕ
  pub text : drop offset (print v) ≡ write_pairs s.pairs (byte "}" ∷ after)
  pub some : 1 ≤ ordinal

pub in_plan : (v : Value) (node : ℕ) (s : Site) → WayTo v node s.path s.pairs → InPlan v node s
unfolding table_of
in_plan v node s way =
    let w = stands (table_of v) (target_of v) (print v) way 0 0 1 node (omega arith) [] (whole v) refl in
    record {
      ordinal = w.ordinal;
      offset = w.offset;
      rest = w.rest;
      rows = w.row;
      new = λ p. omega (arith, w.new p);
      after = w.after;
      text = w.text;
      some = w.some;
    }

-- ---- the array's path leads to its node
module _ (rows : List Node) (to : ℕ → ℕ) where
  mutual
    leads : {v : Value} {j : ℕ} {a : TreePath} {qs : Values} → WayTo v j a qs → (o i n at : ℕ) → at ≡ i + j → InTable rows to o i n v → follow rows i a ≡ at
    leads (found h ps c) o i n at e t = omega arith
    leads (inside h {ps} {q = q} w) o i n at e t =
        leads_in w (pairs_offset o h (count ps)) (suc i) (suc n) at (omega arith) (suc i) 0 q (omega arith) (contents_in rows to o i n h ps t) refl

    -- in pairs that begin at node i, with the pair at place b of those that begin at node `start`
    leads_in : {ps : Values} {j q : ℕ} {a : TreePath} {qs : Values} → WayIn ps j q a qs → (o i n at : ℕ) → at ≡ i + j → (start b m : ℕ) → b + q ≡ m
        → PairsInTable rows to o i n ps → pair_at rows start b ≡ i
        → follow rows (suc (pair_at rows start m)) a ≡ at
    leads_in (first k {v} ps {a = a} w) o i n at e start b m d t f =
        ap (λ (c : ℕ). follow rows (suc (pair_at rows start c)) a) {x = m} {y = b} (omega arith) ∙ ap (λ (c : ℕ). follow rows (suc c) a) f
        ∙ leads w (value_offset o k) (suc i) n at (omega arith) (first_in rows to o i n k v ps t)
    leads_in (later k v {ps} g w) o i n at e start b m d t f =
        leads_in w (next_offset o k v) (suc (i + nodes v)) (n + ordinals own v) at (omega arith) start (suc b) m (omega arith) (others_in rows to o i n k v ps t)
        (ap (λ (c : ℕ). (node_at rows (suc c)).end) f ∙ end_is rows to v (value_offset o k) (suc i) n (first_in rows to o i n k v ps t) ∙ omega arith)

pub site-followed : (v : Value) (node : ℕ) (s : Site) → WayTo v node s.path s.pairs → follow (table_of v) 0 s.path ≡ node
unfolding table_of
site-followed v node s way = leads (table_of v) (target_of v) way 0 0 1 node (omega arith) (whole v)

-- ---- the node of every array has one
no_key : (o i : ℕ) (k : Key) → (key_node o i k).tag ≡ tag Kind.array → ⊥
no_key o i (int_key x) e = omega arith
no_key o i (string_key q) e = omega arith

no-scalar : (o i n : ℕ) (x : Scalar) → (scalar_node o i n x).tag ≡ tag Kind.array → ⊥
no-scalar o i n null e = omega arith
no-scalar o i n (bool b) e = omega arith
no-scalar o i n (int x) e = omega arith
no-scalar o i n (float t) e = omega arith
no-scalar o i n (string q) e = omega arith

no-reference : (k : RefKind) → tag (ref_kind k) ≡ tag Kind.array → ⊥
no-reference object_ref e = omega arith
no-reference variable_ref e = omega arith

container-at : (c : Container) (o n pairs end : ℕ) (ps : Values) → (branch_node o n c pairs end).tag ≡ tag Kind.array
    → (s : Site) × ((require (is_array c) 11 0 >>= λ u. ok (record { path = []; pairs = ps })) ≡ ok s)
container-at array o n pairs end ps e = (record { path = []; pairs = ps }, refl)
container-at (object q) o n pairs end ps e = absurd (omega arith)

module _ (rows : List Node) (to : ℕ → ℕ) where
  tag_is : (i at : ℕ) {x : Node} {more : List Node} → at ≡ i + 0 → drop i rows ≡ x ∷ more → (node_at rows at).tag ≡ tag Kind.array → x.tag ≡ tag Kind.array
  tag_is i at {x} {more} e d h = ap (λ (y : Node). y.tag) (sym (at_first rows i x more _ d)) ∙ ap (λ (m : ℕ). (node_at rows m).tag) {y = at} (omega arith) ∙ h

  pick : (v : Value) (ps : Values) (j q : ℕ) (b : Bool) → ltb j (nodes v) ≡ b → (j < nodes v → (s : Site) × (array_at j v ≡ ok s))
      → (nodes v ≤ j → (s : Site) × (array_in (j - nodes v) (suc q) ps ≡ ok s))
      → (s : Site) × ((elim b [ true ↦ array_at j v >>= λ s. ok (under q s) | false ↦ array_in (j - nodes v) (suc q) ps ]) ≡ ok s)
  pick v ps j q true t f g = let a = f (ltb-true j (nodes v) t) in (under q a.0, rw a.1)
  pick v ps j q false t f g = g (ltb-false j (nodes v) t)

  mutual
    array-at : (v : Value) (o i n j at : ℕ) → at ≡ i + j → InTable rows to o i n v → j < nodes v → (node_at rows at).tag ≡ tag Kind.array
        → (s : Site) × (array_at j v ≡ ok s)
    array-at (leaf x) o i n zero at e t h a = absurd (no-scalar o i n x (tag_is i at e t.here a))
    array-at (leaf x) o i n (suc j) at e t h a = absurd (omega arith)
    array-at (ref r) o i n zero at e t h a = absurd (no-reference r.kind (tag_is i at e t.here a))
    array-at (ref r) o i n (suc j) at e t h a = absurd (omega arith)
    array-at (branch b ps) o i n zero at e t h a = container-at b.container o n (count ps) (i + suc (nodes_in ps)) ps (tag_is i at e t.here a)
    array-at (branch b ps) o i n (suc j) at e t h a =
        array_in_lem ps (pairs_offset o b (count ps)) (suc i) (suc n) j 0 at (omega arith) (contents_in rows to o i n b ps t) (omega arith) a

    array_in_lem : (ps : Values) (o i n j q at : ℕ) → at ≡ i + j → PairsInTable rows to o i n ps → j < nodes_in ps → (node_at rows at).tag ≡ tag Kind.array
        → (s : Site) × (array_in j q ps ≡ ok s)
    array_in_lem none o i n j q at e t h a = absurd (omega arith)
    array_in_lem (pair k v ps) o i n zero q at e t h a = absurd (no_key o i k (tag_is i at e t.here a))
    array_in_lem (pair k v ps) o i n (suc j) q at e t h a = pick v ps j q (ltb j (nodes v)) refl
        (λ l. array-at v (value_offset o k) (suc i) n j at (omega arith) (first_in rows to o i n k v ps t) l a)
        (λ l. array_in_lem ps (next_offset o k v) (suc (i + nodes v)) (n + ordinals own v) (j - nodes v) (suc q) at (omega arith) (others_in rows to o i n k v ps t)
        (omega arith) a)

-- ---- a refusal is 11 at 0
eleven : {A : Type 0} (n p : ℕ) → ◌≡◌ {A = Answer A} (refused 11 0) (refused n p) → (n ≡ 11) × (p ≡ 0)
eleven n p e = let s = refused-same e in (sym s.0, sym s.1)

not_array : (c : Container) (s : Site) (n p : ℕ) → (require (is_array c) 11 0 >>= λ u. ok s) ≡ refused n p → (n ≡ 11) × (p ≡ 0)
not_array array s n p e = absurd (not_both (sym e))
not_array (object q) s n p e = eleven n p e

either : (v : Value) (ps : Values) (j q n p : ℕ) (b : Bool) → (array_at j v ≡ refused n p → (n ≡ 11) × (p ≡ 0))
    → (array_in (j - nodes v) (suc q) ps ≡ refused n p → (n ≡ 11) × (p ≡ 0))
    → ◌≡◌ {A = Answer Site} (elim b [ true ↦ array_at j v >>= λ s. ok (under q s) | false ↦ array_in (j - nodes v) (suc q) ps ]) (refused n p)
    → (n ≡ 11) × (p ≡ 0)
either v ps j q n p true f g e = go (bind-refused (array_at j v) _ n p e)
  where
    go : (array_at j v ≡ refused n p) ⊎ ((x : Site) × (array_at j v ≡ ok x) × (ok (under q x) ≡ refused n p)) → (n ≡ 11) × (p ≡ 0)
    go (inl h) = f h
    go (inr h) = absurd (not_both (sym h.2))
either v ps j q n p false f g e = g e

mutual
  refused-at : (v : Value) (j n p : ℕ) → array_at j v ≡ refused n p → (n ≡ 11) × (p ≡ 0)
  refused-at (leaf x) j n p e = eleven n p e
  refused-at (ref r) j n p e = eleven n p e
  refused-at (branch h ps) zero n p e = not_array h.container (record { path = []; pairs = ps }) n p e
  refused-at (branch h ps) (suc j) n p e = refused_in ps j 0 n p e

  refused_in : (ps : Values) (j q n p : ℕ) → array_in j q ps ≡ refused n p → (n ≡ 11) × (p ≡ 0)
  refused_in none j q n p e = eleven n p e
  refused_in (pair k v ps) zero q n p e = eleven n p e
  refused_in (pair k v ps) (suc j) q n p e =
      either v ps j q n p (ltb j (nodes v)) (λ h. refused-at v j n p h) (λ h. refused_in ps (j - nodes v) (suc q) n p h) e

-- 11: "index names no `a` node"
pub no-array : (v : Value) (node n p : ℕ) → array_at node v ≡ refused n p
    → (n ≡ 11) × (p ≡ 0) × (node < nodes v → (node_at (table_of v) node).tag ≡ tag Kind.array → ⊥)
unfolding table_of
no-array v node n p e =
    let r = refused-at v node n p e in
    (r.0, r.1, λ h t. let a = array-at (table_of v) (target_of v) v 0 0 1 node node (omega arith) (whole v) h t in not_both (sym e ∙ a.1))

pub refuses-array : (v : Value) (node : ℕ) → (node < nodes v → (node_at (table_of v) node).tag ≡ tag Kind.array → ⊥) → array_at node v ≡ refused 11 0
refuses-array v node f = by (array_at node v) refl
  where
    by : (a : Answer Site) → array_at node v ≡ a → a ≡ refused 11 0
    by (ok s) e =
        let way = locates v node s e in
        absurd (f (omega (arith, nodes-inside way)) (ap (λ (y : Node). y.tag) (at_first (table_of v) node _ _ _ (in_plan v node s way).rows)))
    by (refused n p) e = let r = refused-at v node n p e in ap₂ refused r.0 r.1

-- ---- what a valid plan says of the array's pairs
pub record ValidPairs (ps : Values) : Type 0 where
  pub sound : SoundIn array [] ps
  pub limited : LimitedIn ps
  pub most : count ps ≤ number_limit

mutual
  valid-pairs : {v : Value} {j : ℕ} {a : TreePath} {qs : Values} → WayTo v j a qs → Sound v → Limited v → ValidPairs qs
  valid-pairs (found h ps c) s l = record { sound = rw c at s.1; limited = l.1; most = l.0 }
  valid-pairs (inside h w) s l = valid-pairs_in w h.container [] s.1 l.1

  valid-pairs_in : {ps : Values} {j q : ℕ} {a : TreePath} {qs : Values} → WayIn ps j q a qs → (c : Container) (earlier : List Key) → SoundIn c earlier ps
      → LimitedIn ps → ValidPairs qs
  valid-pairs_in (first k ps w) c js s l = valid-pairs w s.3 l.0
  valid-pairs_in (later k v e w) c js s l = valid-pairs_in w c (k ∷ js) s.4 l.1

pub site-valid : (v : Value) (node : ℕ) (s : Site) → Valid v → WayTo v node s.path s.pairs → ValidPairs s.pairs
site-valid v node s f way = valid-pairs way f.sound f.limited

-- ---- the array's nodes are the plan's
pub site-inside : (v : Value) (node : ℕ) (s : Site) → WayTo v node s.path s.pairs → node + suc (nodes_in s.pairs) ≤ nodes v
site-inside v node s way = nodes-inside way

-- ---- and it stands no deeper than the plan may
mutual
  depth_most : {v : Value} {j : ℕ} {a : TreePath} {qs : Values} → WayTo v j a qs → (d : ℕ) → Shallow d v → suc (length a) ≤ d
  depth_most (found h ps c) d s = s.0
  depth_most (inside h w) d s = omega (arith, depth_most_in w (d - 1) s.1)

  depth_most_in : {ps : Values} {j q : ℕ} {a : TreePath} {qs : Values} → WayIn ps j q a qs → (d : ℕ) → ShallowIn d ps → suc (length a) ≤ d
  depth_most_in (first k ps w) d s = depth_most w d s.0
  depth_most_in (later k v e w) d s = depth_most_in w d s.1

pub site_depth : (v : Value) (node : ℕ) (s : Site) → Valid v → WayTo v node s.path s.pairs → suc (length s.path) ≤ depth_limit
site_depth v node s f way = depth_most way depth_limit f.shallow
