-- Where the parts of a value stand: its nodes in the table, its texts in the bytes. Assumes nothing.
use mathlib.Core.Path.{◌≡◌, refl, sym, ap, ◌∙◌}
use mathlib.Core.List.{List, [], ◌∷◌, ◌++◌, append_assoc, append-nil}
use Prim.Native.Nat.{ℕ, suc, ◌+◌}
use native.Mathlib.Omega.{arith}
use lib.ListN.{length, take, drop, length-append}
use lib.Seq.{take-append_seam}
use Rattle.format.specs.Kind.{Kind, tag}
use Rattle.format.specs.Tree.{leaf, ref, branch, none, pair, count, nodes, nodes_in, ordinals}
use Rattle.format.specs.Syntax.{int_key, string_key, null, bool, int, float, string, array, object, Container, Spelling, Quoted, Key, Scalar, Head, Value}
use Rattle.format.specs.Syntax.{Values, own, write_number, write_quoted, write_key, write_scalar, write_container, write, write_pairs, print}
use Rattle.format.specs.Table.{Node, text_offset, key_node, scalar_node, branch_node, ref_node, table, table_in, target_of, table_of, pairs_offset, value_offset}
use Rattle.format.specs.Table.{next_offset}
use Rattle.format.specs.Shows.{node_at, up_to_text, TextBehind, PlacedKey, PlacedScalar, PlacedContainer, Placed, PlacedIn}
use Rattle.format.proofs.Fronts.{number-front, number-length, key-front, container-front, write-front}
use Rattle.format.proofs.Rows.{at_first, at_after, at_next, table-length}

-- ---- nodes
module _ (rows : List Node) (to : ℕ → ℕ) where
  -- the nodes of a value stand in the table from its index on
  pub record InTable (o i n : ℕ) (v : Value) : Type 0 where
    pub rest : List Node
    pub here : drop i rows ≡ table to o i n v ++ rest

  pub record PairsInTable (o i n : ℕ) (ps : Values) : Type 0 where
    pub rest : List Node
    pub here : drop i rows ≡ table_in to o i n ps ++ rest

  abbrev pub first_node : (o i n : ℕ) → Value → Node
  first_node o i n (leaf x) = scalar_node o i n x
  first_node o i n (ref r) = ref_node (to r.named) i n r
  first_node o i n (branch h ps) = branch_node o n h.container (count ps) (i + suc (nodes_in ps))

  pub node-is : (v : Value) (o i n : ℕ) → InTable o i n v → node_at rows i ≡ first_node o i n v
  node-is (leaf x) o i n t = at_first rows i (scalar_node o i n x) t.rest _ t.here
  node-is (ref r) o i n t = at_first rows i (ref_node (to r.named) i n r) t.rest _ t.here
  node-is (branch h ps) o i n t = at_first rows i (first_node o i n (branch h ps)) _ _ t.here

  pub contents_in : (o i n : ℕ) (h : Head) (ps : Values) → InTable o i n (branch h ps)
      → PairsInTable (pairs_offset o h (count ps)) (suc i) (suc n) ps
  contents_in o i n h ps t = record { rest = t.rest; here = at_next rows i (branch_node o n h.container (count ps) (i + suc (nodes_in ps))) _ t.here }

  module _ (o i n : ℕ) (k : Key) (v : Value) (ps : Values) (t : PairsInTable o i n (pair k v ps)) where
    abbrev values : List Node
    values = table to (value_offset o k) (suc i) n v

    abbrev others : List Node
    others = table_in to (next_offset o k v) (suc (i + nodes v)) (n + ordinals own v) ps

    values-here : drop (suc i) rows ≡ values ++ (others ++ t.rest)
    values-here = at_next rows i (key_node o i k) ((values ++ others) ++ t.rest) t.here ∙ append_assoc values others t.rest

    pub key-is : node_at rows i ≡ key_node o i k
    key-is = at_first rows i (key_node o i k) ((values ++ others) ++ t.rest) _ t.here

    pub first_in : InTable (value_offset o k) (suc i) n v
    first_in = record { rest = others ++ t.rest; here = values-here }

    pub others_in : PairsInTable (next_offset o k v) (suc (i + nodes v)) (n + ordinals own v) ps
    others_in =
        let e : suc (i + nodes v) ≡ suc i + nodes v = omega arith in
        record {
          rest = t.rest;
          here = ap (λ (j : ℕ). drop j rows) e
              ∙ at_after rows (suc i) values (others ++ t.rest) (nodes v) values-here (table-length to v (value_offset o k) (suc i) n);
        }

-- ---- bytes
module _ (source : List ℕ) where
  pub contents_text : (o : ℕ) (h : Head) (n : ℕ) (r : List ℕ) → drop o source ≡ write_container h.container (write_number h.spelling n (58 ∷ 123 ∷ r))
      → drop (pairs_offset o h n) source ≡ r
  contents_text o h n r e =
      let c : Container = h.container in
      let w : Spelling = h.spelling in
      let xs : List ℕ = write_container c (write_number w n []) in
      at_after source (o + length xs) (58 ∷ 123 ∷ []) r 2
      (at_after source o xs (58 ∷ 123 ∷ r) (length xs) (e ∙ ap (write_container c) (number-front w n [] (58 ∷ 123 ∷ r))
      ∙ container-front c (write_number w n []) (58 ∷ 123 ∷ r)) refl) refl

  pub value-text : (o : ℕ) (k : Key) (r : List ℕ) → drop o source ≡ write_key k r → drop (value_offset o k) source ≡ r
  value-text o k r e = at_after source o (write_key k []) r (length (write_key k [])) (e ∙ key-front k [] r) refl

  pub others-text : (o : ℕ) (k : Key) (v : Value) (r : List ℕ) → drop o source ≡ write_key k (write v r) → drop (next_offset o k v) source ≡ r
  others-text o k v r e =
      at_after source o (write_key k (write v [])) r (length (write_key k (write v []))) (e ∙ ap (write_key k) (write-front v [] r) ∙ key-front k (write v []) r)
      refl

  pub quoted_text_lem : (o b : ℕ) (q : Quoted) (r : List ℕ) → drop o source ≡ b ∷ 58 ∷ write_quoted q r
      → take (length q.text) (drop (text_offset o q) source) ≡ q.text
  quoted_text_lem o b q r e =
      let t : List ℕ = q.text in
      let num : List ℕ = write_number q.spelling (length t) [] in
      let sum : text_offset o q ≡ o + (2 + length num) + 2 = omega arith in
      let inside : drop (text_offset o q) source ≡ t ++ (34 ∷ r) =
      ap (λ (j : ℕ). drop j source) sum
      ∙ at_after source (o + (2 + length num)) (58 ∷ 34 ∷ []) (t ++ (34 ∷ r)) 2
      (at_after source o (b ∷ 58 ∷ num) (58 ∷ 34 ∷ t ++ (34 ∷ r)) (2 + length num)
      (e ∙ ap {B = List ℕ} (λ x. b ∷ 58 ∷ x) (number-front q.spelling (length t) [] (58 ∷ 34 ∷ t ++ (34 ∷ r)))) (omega arith)) refl in
      rw inside (take-append_seam t (34 ∷ r))

-- ---- texts: word 2 is where each stands
module _ (source : List ℕ) where
  -- a part stands at o, behind all these bytes
  record Stands (o : ℕ) (before part : List ℕ) : Type 0 where
    counted : o ≡ length before
    here : source ≡ before ++ part

  past : (o m : ℕ) (b xs part r : List ℕ) → Stands o b part → part ≡ xs ++ r → m ≡ o + length xs → Stands m (b ++ xs) r
  past o m b xs part r s e c =
      record {
        counted = c ∙ ap (λ (n : ℕ). n + length xs) s.counted ∙ sym (length-append b xs);
        here = s.here ∙ ap (λ (x : List ℕ). b ++ x) e ∙ sym (append_assoc b xs r);
      }

  past_quote : (o : ℕ) (k : Kind) (b : List ℕ) (q : Quoted) (r : List ℕ) → Stands o b (tag k ∷ 58 ∷ write_quoted q r)
      → Stands (text_offset o q) (b ++ up_to_text k q) (q.text ++ (34 ∷ r))
  past_quote o k b q r s =
      let w : Spelling = q.spelling in
      let n : ℕ = length q.text in
      let long = number-length w n (58 ∷ 34 ∷ []) in
      let short = number-length w n [] in
      past o (text_offset o q) b (up_to_text k q) (tag k ∷ 58 ∷ write_quoted q r) (q.text ++ (34 ∷ r)) s
      (ap {B = List ℕ} (λ x. tag k ∷ 58 ∷ x) (number-front w n (58 ∷ 34 ∷ []) (q.text ++ (34 ∷ r)))) (omega arith)

  past_head : (o : ℕ) (b : List ℕ) (h : Head) (n : ℕ) (r : List ℕ)
      → Stands o b (write_container h.container (write_number h.spelling n (58 ∷ 123 ∷ r)))
      → Stands (pairs_offset o h n) (b ++ write_container h.container (write_number h.spelling n (58 ∷ 123 ∷ []))) r
  past_head o b h n r s =
      let c : Container = h.container in
      let w : Spelling = h.spelling in
      let xs : List ℕ = write_container c (write_number w n (58 ∷ 123 ∷ [])) in
      let split : xs ≡ write_container c (write_number w n []) ++ (58 ∷ 123 ∷ []) =
      ap (write_container c) (number-front w n [] (58 ∷ 123 ∷ [])) ∙ container-front c (write_number w n []) (58 ∷ 123 ∷ []) in
      let sum : length xs ≡ length (write_container c (write_number w n [])) + 2 =
      ap length split ∙ length-append (write_container c (write_number w n [])) (58 ∷ 123 ∷ []) in
      past o (pairs_offset o h n) b xs (write_container c (write_number w n (58 ∷ 123 ∷ r))) r s
      (ap (write_container c) (number-front w n (58 ∷ 123 ∷ []) r) ∙ container-front c (write_number w n (58 ∷ 123 ∷ [])) r) (omega (arith, sum))

  module _ (rows : List Node) (to : ℕ → ℕ) where
    behind : (i : ℕ) (x : Node) (b t r : List ℕ) → node_at rows i ≡ x → Stands x.content b (t ++ r) → TextBehind source rows i b t
    behind i x b t r e s =
        record {
          offset = ap (λ (y : Node). y.content) e ∙ s.counted;
          stands = rw (s.here ∙ sym (append_assoc b t r)) (take-append_seam (b ++ t) r);
        }

    key-placed : (k : Key) (o i : ℕ) (b r : List ℕ) → node_at rows i ≡ key_node o i k → Stands o b (write_key k r) → PlacedKey source rows i b k
    key-placed (int_key x) o i b r e s = tt
    key-placed (string_key q) o i b r e s = behind i _ _ q.text _ e (past_quote o Kind.string b q (59 ∷ r) s)

    scalar-placed : (x : Scalar) (o i n : ℕ) (b r : List ℕ) → node_at rows i ≡ scalar_node o i n x → Stands o b (write_scalar x r)
        → PlacedScalar source rows i b x
    scalar-placed null o i n b r e s = tt
    scalar-placed (bool c) o i n b r e s = tt
    scalar-placed (int x) o i n b r e s = tt
    scalar-placed (float t) o i n b r e s =
        behind i _ _ t (59 ∷ r) e (past o (o + 2) b (100 ∷ 58 ∷ []) (100 ∷ 58 ∷ t ++ (59 ∷ r)) (t ++ (59 ∷ r)) s refl refl)
    scalar-placed (string q) o i n b r e s = behind i _ _ q.text _ e (past_quote o Kind.string b q (59 ∷ r) s)

    container-placed : (c : Container) (o i n pairs end : ℕ) (b r : List ℕ) → node_at rows i ≡ branch_node o n c pairs end → Stands o b (write_container c r)
        → PlacedContainer source rows i b c
    container-placed array o i n pairs end b r e s = tt
    container-placed (object q) o i n pairs end b r e s = behind i _ _ q.text _ e (past_quote o Kind.object b q (58 ∷ r) s)

    mutual
      unfolding write

      placed : (v : Value) (o i n : ℕ) (b r : List ℕ) → InTable rows to o i n v → Stands o b (write v r) → Placed source rows i b v
      placed (leaf x) o i n b r t s = scalar-placed x o i n b r (node-is rows to (leaf x) o i n t) s
      placed (ref x) o i n b r t s = tt
      placed (branch h ps) o i n b r t s = (
        container-placed h.container o i n (count ps) (i + suc (nodes_in ps)) b _ (node-is rows to (branch h ps) o i n t) s,
        placed_in ps _ (suc i) (suc n) _ (125 ∷ r) (contents_in rows to o i n h ps t) (past_head o b h (count ps) (write_pairs ps (125 ∷ r)) s),
      )

      placed_in : (ps : Values) (o i n : ℕ) (b r : List ℕ) → PairsInTable rows to o i n ps → Stands o b (write_pairs ps r) → PlacedIn source rows i b ps
      placed_in none o i n b r t s = tt
      placed_in (pair k v ps) o i n b r t s = (
        key-placed k o i b (write v (write_pairs ps r)) (key-is rows to o i n k v ps t) s,
        placed v (value_offset o k) (suc i) n _ (write_pairs ps r) (first_in rows to o i n k v ps t)
            (past o (value_offset o k) b (write_key k []) _ (write v (write_pairs ps r)) s (key-front k [] (write v (write_pairs ps r))) refl),
        placed_in ps (next_offset o k v) (suc (i + nodes v)) (n + ordinals own v) _ r (others_in rows to o i n k v ps t)
            (past o (next_offset o k v) b (write_key k (write v [])) _ (write_pairs ps r) s
            (ap (write_key k) (write-front v [] (write_pairs ps r)) ∙ key-front k (write v []) (write_pairs ps r)) refl),
      )

-- ---- the whole table
pub whole : (v : Value) → InTable (table (target_of v) 0 0 1 v) (target_of v) 0 0 1 v
whole v = record { rest = []; here = sym (append-nil (table (target_of v) 0 0 1 v)) }

-- "offset of the text", "offset of the class name": word 2 is where it stands
pub offsets_stand : (v : Value) → Placed (print v) (table_of v) 0 [] v
unfolding table_of
offsets_stand v = placed (print v) (table_of v) (target_of v) v 0 0 1 [] [] (whole v) (record { counted = refl; here = refl })
