-- The table says the meaning, each reference resolved. Assumes nothing.
use mathlib.Core.Path.{◌≡◌, refl, sym, ap, ap₂, ◌∙◌, subst}
use mathlib.Core.List.{List, [], ◌∷◌, ◌++◌, map, map-append, append_assoc}
use mathlib.Core.Bool.{Bool, true, false}
use Prim.Native.Nat.{ℕ, suc, ◌+◌, ◌-◌, ◌≤◌, ◌<◌}
use native.Mathlib.Omega.{arith}
use lib.ListN.{length, get_or, drop, get_or-map, take-append-drop}
use lib.Seq.{take-append_seam, drop-append_seam}
use Rattle.format.specs.Kind.{Kind, tag}
use Rattle.format.specs.Tree.{leaf, ref, branch, none, pair, TreePath, count, nodes, nodes_in, only, one, ordinals, ordinals_in, paths, paths_in, map_tree}
use Rattle.format.specs.Tree.{map_pairs}
use Rattle.format.specs.Syntax.{int_key, string_key, null, bool, int, float, string, array, object, map_container, Literal, Quoted, Key, Scalar, Container}
use Rattle.format.specs.Syntax.{RefKind, object_ref, variable_ref, ref_kind, Reference, Value, Values, own, print}
use Rattle.format.specs.Canonical.{shortest}
use Rattle.format.specs.Keys.{integer, key_meaning}
use Rattle.format.specs.Fits.{IntFits, KeyFits, ScalarFits, Sound, SoundIn, Valid}
use Rattle.format.specs.Meaning.{meaning, scalar_meaning, head_meaning, reference_meaning}
use Rattle.format.specs.Table.{Node, word, key_node, scalar_node, branch_node, taken, ref_node, table, indices, indices_in, target_of, table_of, pairs_offset}
use Rattle.format.specs.Table.{value_offset, next_offset}
use Rattle.format.specs.Shows.{integer_of, Pattern, up_from, node_at, pair_at, follow, Row, WithOrdinal, Text, ShowsKey, ShowsScalar, ShowsHead, Taking}
use Rattle.format.specs.Shows.{ShowsReference, Shows, ShowsIn, TextBehind, PlacedKey, PlacedScalar, PlacedContainer, Placed, PlacedIn, Says}
use Rattle.format.proofs.Words.{word_back}
use Rattle.format.proofs.Maps.{Refs, RefsIn, refs_map, count_map, nodes_in-map}
use Rattle.format.proofs.OneText.{Taken, refs_taken}
use Rattle.format.proofs.Rows.{scalar-carries, branch-carries}
use Rattle.format.proofs.Ordinals.{up-append, up_at}
use Rattle.format.proofs.Places.{InTable, PairsInTable, first_node, node-is, contents_in, key-is, first_in, others_in, whole, offsets_stand}

module _ (rows : List Node) (to : ℕ → ℕ) where
  first-end : (v : Value) (o i n : ℕ) → (first_node rows to o i n v).end ≡ i + nodes v
  first-end (leaf x) o i n = (scalar-carries o i n x).end ∙ omega arith
  first-end (ref r) o i n = omega arith
  first-end (branch h ps) o i n = (branch-carries o n h.container (count ps) (i + suc (nodes_in ps))).end

  -- word 5: "index of the first node after this one and all it holds"
  pub end_is : (v : Value) (o i n : ℕ) → InTable rows to o i n v → (node_at rows i).end ≡ i + nodes v
  end_is v o i n t = ap (λ (x : Node). x.end) (node-is rows to v o i n t) ∙ first-end v o i n

  -- ---- following the paths of the numbered values leads to the nodes that carry the numbers
  map-only : (b : Bool) (i : ℕ) → map (follow rows i) (only b []) ≡ only b i
  map-only true i = refl
  map-only false i = refl

  map-through : (i q : ℕ) (xs : List TreePath) → map (follow rows i) (map (λ (a : TreePath). q ∷ a) xs) ≡ map (follow rows (suc (pair_at rows (suc i) q))) xs
  map-through i q [] = refl
  map-through i q (x ∷ xs) = ap {B = List ℕ} (λ l. follow rows (suc (pair_at rows (suc i) q)) x ∷ l) (map-through i q xs)

  mutual
    paths_lead : (v : Value) (o i n : ℕ) → InTable rows to o i n v → map (follow rows i) (paths own v) ≡ indices i v
    paths_lead (leaf x) o i n t = refl
    paths_lead (ref r) o i n t = map-only (own r) i
    paths_lead (branch h ps) o i n t = ap {B = List ℕ} (λ l. i ∷ l)
        (paths_in_lead ps (pairs_offset o h (count ps)) i (suc i) 0 (suc n) (contents_in rows to o i n h ps t) refl)

    -- of the pairs of the value at node i, those from place q on, which begin at node j
    paths_in_lead : (ps : Values) (o i j q n : ℕ) → PairsInTable rows to o j n ps → pair_at rows (suc i) q ≡ j
        → map (follow rows i) (paths_in own q ps) ≡ indices_in j ps
    paths_in_lead none o i j q n t e = refl
    paths_in_lead (pair k v ps) o i j q n t e =
        let f = first_in rows to o j n k v ps t in
        let next : pair_at rows (suc i) (suc q) ≡ suc (j + nodes v) =
        ap (λ (m : ℕ). (node_at rows (suc m)).end) e ∙ end_is v (value_offset o k) (suc j) n f ∙ omega arith in
        map-append (follow rows i) (map (λ (a : TreePath). q ∷ a) (paths own v)) (paths_in own (suc q) ps)
        ∙ ap₂ ◌++◌ (map-through i q (paths own v) ∙ ap (λ (m : ℕ). map (follow rows (suc m)) (paths own v)) e ∙ paths_lead v (value_offset o k) (suc j) n f)
        (paths_in_lead ps (next_offset o k v) i (suc (j + nodes v)) (suc q) (n + ordinals own v) (others_in rows to o j n k v ps t) next)

  -- ---- the nodes at the indices carry the ordinals
  abbrev ordinal_at : ℕ → ℕ
  ordinal_at i = (node_at rows i).ordinal

  only-ordinal : (b : Bool) (i n : ℕ) → ordinal_at i ≡ taken b n → map ordinal_at (only b i) ≡ up_from n (one b)
  only-ordinal true i n e = ap (λ (m : ℕ). m ∷ []) e
  only-ordinal false i n e = refl

  mutual
    indices_carry : (v : Value) (o i n : ℕ) → InTable rows to o i n v → map ordinal_at (indices i v) ≡ up_from n (ordinals own v)
    indices_carry (leaf x) o i n t = only-ordinal true i n (ap (λ (y : Node). y.ordinal) (node-is rows to (leaf x) o i n t) ∙ (scalar-carries o i n x).ordinal)
    indices_carry (ref r) o i n t = only-ordinal (own r) i n (ap (λ (y : Node). y.ordinal) (node-is rows to (ref r) o i n t))
    indices_carry (branch h ps) o i n t =
        ap₂ {C = List ℕ} ◌∷◌ (ap (λ (y : Node). y.ordinal) (node-is rows to (branch h ps) o i n t)
        ∙ (branch-carries o n h.container (count ps) (i + suc (nodes_in ps))).ordinal)
        (indices_in_carry ps (pairs_offset o h (count ps)) (suc i) (suc n) (contents_in rows to o i n h ps t))

    indices_in_carry : (ps : Values) (o i n : ℕ) → PairsInTable rows to o i n ps → map ordinal_at (indices_in i ps) ≡ up_from n (ordinals_in own ps)
    indices_in_carry none o i n t = refl
    indices_in_carry (pair k v ps) o i n t =
        map-append ordinal_at (indices (suc i) v) (indices_in (suc (i + nodes v)) ps)
        ∙ ap₂ ◌++◌ (indices_carry v (value_offset o k) (suc i) n (first_in rows to o i n k v ps t))
        (indices_in_carry ps (next_offset o k v) (suc (i + nodes v)) (n + ordinals own v) (others_in rows to o i n k v ps t))
        ∙ sym (up-append n (ordinals own v) (ordinals_in own ps))

  -- ---- what the nodes show
  row_is : (i : ℕ) (k : Kind) (x : Node) → node_at rows i ≡ x → x.tag ≡ tag k → Row rows i k x.size x.link x.end
  row_is i k x e t =
      record {
        tag = ap (λ (y : Node). y.tag) e ∙ t;
        size = ap (λ (y : Node). y.size) e;
        link = ap (λ (y : Node). y.link) e;
        end = ap (λ (y : Node). y.end) e;
      }

  ordinal-is : (i : ℕ) (x : Node) → node_at rows i ≡ x → ordinal_at i ≡ x.ordinal
  ordinal-is i x e = ap (λ (y : Node). y.ordinal) e

  content-is : (i : ℕ) (x : Node) → node_at rows i ≡ x → (node_at rows i).content ≡ x.content
  content-is i x e = ap (λ (y : Node). y.content) e

  with_ordinal : (i : ℕ) (x : Node) → node_at rows i ≡ x → 1 ≤ x.ordinal → WithOrdinal rows i
  with_ordinal i x e h = let o = ordinal-is i x e in omega arith

  -- what a reference needs, where `env` gives the paths of the ordinals
  record Resolved (env : List TreePath) (r : Reference) : Type 0 where
    leads : to r.named ≡ follow rows 0 (get_or env (r.named - 1) [])
    carries : ordinal_at (to r.named) ≡ r.named
    least : 1 ≤ r.named

module _ (source : List ℕ) (rows : List Node) (to : ℕ → ℕ) where
  -- a text that stands behind other bytes, at the offset that is their length
  text-shown : (i : ℕ) (b t : List ℕ) → TextBehind source rows i b t → Text source rows i t
  text-shown i b t p =
      let rest : List ℕ = drop (length (b ++ t)) source in
      let split : source ≡ b ++ (t ++ rest) =
      sym (take-append-drop (length (b ++ t)) source) ∙ ap (λ (x : List ℕ). x ++ rest) p.stands ∙ append_assoc b t rest in
      let here : drop (node_at rows i).content source ≡ t ++ rest =
      ap (λ (j : ℕ). drop j source) p.offset ∙ ap (drop (length b)) split ∙ drop-append_seam b (t ++ rest) in
      rw here (take-append_seam t rest)

  int-shown : (i : ℕ) (x : Literal) → (node_at rows i).content ≡ word (integer x) → IntFits x → Pattern rows i (integer x)
  int-shown i x e f = (e, ap integer_of e ∙ word_back x f)

  key-shown : (k : Key) (o i : ℕ) (b : List ℕ) → node_at rows i ≡ key_node o i k → KeyFits k → PlacedKey source rows i b k → ShowsKey source rows i (key_meaning k)
  key-shown (int_key x) o i b e f p = (row_is rows to i Kind.int _ e refl, ordinal-is rows to i _ e, int-shown i x (content-is rows to i _ e) f)
  key-shown (string_key q) o i b e f p = (row_is rows to i Kind.string _ e refl, ordinal-is rows to i _ e, text-shown i _ q.text p)

  scalar-shown : (x : Scalar) (o i n : ℕ) (b : List ℕ) → node_at rows i ≡ scalar_node o i n x → 1 ≤ n → ScalarFits x → PlacedScalar source rows i b x
      → ShowsScalar source rows i (scalar_meaning x)
  scalar-shown null o i n b e h f p = (row_is rows to i Kind.null _ e refl, with_ordinal rows to i _ e h, content-is rows to i _ e)
  scalar-shown (bool c) o i n b e h f p = (row_is rows to i Kind.bool _ e refl, with_ordinal rows to i _ e h, content-is rows to i _ e)
  scalar-shown (int x) o i n b e h f p = (row_is rows to i Kind.int _ e refl, with_ordinal rows to i _ e h, int-shown i x (content-is rows to i _ e) f)
  scalar-shown (float t) o i n b e h f p = (row_is rows to i Kind.float _ e refl, with_ordinal rows to i _ e h, text-shown i _ t p)
  scalar-shown (string q) o i n b e h f p = (row_is rows to i Kind.string _ e refl, with_ordinal rows to i _ e h, text-shown i _ q.text p)

  head-shown : (c : Container) (o i n pairs e : ℕ) (b : List ℕ) → node_at rows i ≡ branch_node o n c pairs e → 1 ≤ n → PlacedContainer source rows i b c
      → ShowsHead source rows i pairs e (map_container (λ (q : Quoted). q.text) c)
  head-shown array o i n pairs e b x h p = (row_is rows to i Kind.array _ x refl, with_ordinal rows to i _ x h, content-is rows to i _ x)
  head-shown (object q) o i n pairs e b x h p = (row_is rows to i Kind.object _ x refl, with_ordinal rows to i _ x h, text-shown i _ q.text p)

  -- where `env` gives the paths of the ordinals
  module _ (env : List TreePath) where
    taking : (k : RefKind) (i n : ℕ) → 1 ≤ n → ordinal_at rows to i ≡ taken (own (record { kind = k; spelling = shortest; named = 0 })) n
        → Taking rows k i
    taking object_ref i n h e = omega arith
    taking variable_ref i n h e = e

    reference-shown : (r : Reference) (i n : ℕ) → node_at rows i ≡ ref_node (to r.named) i n r → 1 ≤ n → Resolved rows to env r
        → ShowsReference rows i (reference_meaning env r)
    reference-shown r i n e h g =
        let row = row_is rows to i (ref_kind r.kind) (ref_node (to r.named) i n r) e refl in
        let content : (node_at rows i).content ≡ r.named = content-is rows to i _ e in
        record {
          row = subst (λ (l : ℕ). Row rows i (ref_kind r.kind) 0 l (suc i)) g.leads row;
          taking = taking r.kind i n h (ordinal-is rows to i _ e);
          named = ap (ordinal_at rows to) row.link ∙ g.carries ∙ sym content;
          least = omega (arith, g.least);
        }

    mutual
      shows : (v : Value) (o i n : ℕ) (b : List ℕ) → InTable rows to o i n v → 1 ≤ n → Sound v → Placed source rows i b v → Refs (Resolved rows to env) v
          → Shows source rows i (map_tree key_meaning scalar_meaning head_meaning (reference_meaning env) v)
      shows (leaf x) o i n b t h f p g = scalar-shown x o i n b (node-is rows to (leaf x) o i n t) h f p
      shows (ref x) o i n b t h f p g = reference-shown x i n (node-is rows to (ref x) o i n t) h g
      shows (branch d ps) o i n b t h f p g = (
        rw (
          count_map key_meaning scalar_meaning head_meaning (reference_meaning env) ps,
          nodes_in-map key_meaning scalar_meaning head_meaning (reference_meaning env) ps,
        )
            (head-shown d.container o i n (count ps) (i + suc (nodes_in ps)) b (node-is rows to (branch d ps) o i n t) h p.0),
        shows_in ps (pairs_offset o d (count ps)) (suc i) (suc i) (suc n) _ (contents_in rows to o i n d ps t) (omega arith) d.container [] f.1 p.1 g
            refl,
      )

      -- the index is what the node before says
      shows_in : (ps : Values) (o i j n : ℕ) (b : List ℕ) → PairsInTable rows to o i n ps → 1 ≤ n → (c : Container) (earlier : List Key) → SoundIn c earlier ps
          → PlacedIn source rows i b ps → RefsIn (Resolved rows to env) ps → j ≡ i
          → ShowsIn source rows j (map_pairs key_meaning scalar_meaning head_meaning (reference_meaning env) ps)
      shows_in none o i j n b t h c js f p g e = tt
      shows_in (pair k v ps) o i j n b t h c js f p g e =
          let w = first_in rows to o i n k v ps t in
          let next : (node_at rows (suc i)).end ≡ suc (i + nodes v) = end_is rows to v (value_offset o k) (suc i) n w ∙ omega arith in
          rw e (
            key-shown k o i b (key-is rows to o i n k v ps t) f.0 p.0,
            shows v (value_offset o k) (suc i) n _ w h f.3 p.1 g.0,
            shows_in ps (next_offset o k v) (suc (i + nodes v)) (node_at rows (suc i)).end (n + ordinals own v) _ (others_in rows to o i n k v ps t)
                (omega arith) c (k ∷ js) f.4 p.2 g.1 next,
          )

-- ---- the whole table
module _ (v : Value) where
  abbrev rows : List Node
  rows = table (target_of v) 0 0 1 v

  -- the index of an ordinal's node, by the ordinal's path; and that node carries it
  leads : (k : ℕ) → get_or (indices 0 v) k 0 ≡ follow rows 0 (get_or (paths own v) k [])
  leads k = ap (λ (is : List ℕ). get_or is k 0) (sym (paths_lead rows (target_of v) v 0 0 1 (whole v))) ∙ get_or-map (follow rows 0) (paths own v) k []

  carries : (k : ℕ) → k < ordinals own v → ordinal_at rows (target_of v) (get_or (indices 0 v) k 0) ≡ suc k
  carries k h =
      sym (get_or-map (ordinal_at rows (target_of v)) (indices 0 v) k 0)
      ∙ ap (λ (ns : List ℕ). get_or ns k (ordinal_at rows (target_of v) 0)) (indices_carry rows (target_of v) v 0 0 1 (whole v))
      ∙ up_at 1 (ordinals own v) k (ordinal_at rows (target_of v) 0) h ∙ omega arith

  resolved : (r : Reference) → Taken (ordinals own v) r → Resolved rows (target_of v) (paths own v) r
  resolved r t = record { leads = leads (r.named - 1); carries = carries (r.named - 1) (omega arith) ∙ omega arith; least = t.0 }

  all-resolved : Valid v → Refs (Resolved rows (target_of v) (paths own v)) v
  all-resolved f = refs_map (Taken (ordinals own v)) (Resolved rows (target_of v) (paths own v)) resolved v
      (refs_taken (ordinals own v) v 0 f.backward (omega arith))

-- Demand 2: "The table then holds its one meaning, each reference resolved."
pub table-says : (v : Value) → Valid v → Says (print v) (table_of v) v
unfolding table_of meaning
table-says v f =
    record {
      shown = shows (print v) (table_of v) (target_of v) (paths own v) v 0 0 1 [] (whole v) (omega arith) f.sound (offsets_stand v) (all-resolved v f);
      placed = offsets_stand v;
    }

-- the number of the value at a path, in word 1 of its node: the path's place, from 1, among the paths of the values that take one
pub path-ordinal : (v : Value) (k : ℕ) → k < ordinals own v → (node_at (table_of v) (follow (table_of v) 0 (get_or (paths own v) k []))).ordinal ≡ suc k
unfolding table_of
path-ordinal v k h = ap (λ (i : ℕ). (node_at (rows v) i).ordinal) (sym (leads v k)) ∙ carries v k h
