-- What the words of an accepted plan's table say of an array and its pairs. Assumes nothing.
use Prim.Native.Nat.{ℕ, zero, suc, ◌+◌, ◌-◌, ◌*◌, ◌≤◌, ◌<◌}
use native.Mathlib.Numerals.{add-one}
use native.Mathlib.Omega.{arith}
use mathlib.Core.Path.{◌≡◌, refl, sym, ap, ap₂, ◌∙◌, subst}
use mathlib.Core.Bool.{Bool, true, false, not}
use mathlib.Core.List.{List, [], ◌∷◌, ◌++◌, append_assoc}
use lib.Dec.{eqb}
use lib.ListN.{length, get_or, take, drop, length-append, length-drop, get_or-append}
use lib.Seq.{get_or-append-add}
use Rattle.format.specs.Bytes.{byte}
use Rattle.format.specs.Kind.{is_tag_of, key_kinds}
use Rattle.format.specs.Tree.{leaf, ref, branch, none, pair, count, nodes, TreePath, nodes_in, one, ordinals, ordinals_in}
use Rattle.format.specs.Syntax.{int_key, string_key, array, Key, Container, Value, Values, own, write_key, write, write_pairs, print}
use Rattle.format.specs.Keys.{has_key}
use Rattle.format.specs.Fits.{KeyFits, SoundIn, Valid}
use Rattle.format.specs.Table.{Node, words, width, word_at, end_word, ordinal_word, content_word, size_word, link_word, pair_end, flat, text_offset, key_node}
use Rattle.format.specs.Table.{branch_node, table, table_in, target_of, table_of, value_offset, next_offset}
use Rattle.format.specs.Shows.{ordinals_of, up_from, node_at}
use Rattle.format.specs.Edit.{keys, upto, ordinals_upto, ordinals_within, ordinals_before, new_ordinal}
use Rattle.format.specs.Writing.{Site}
use Rattle.format.proofs.Fronts.{number-length, quoted_length}
use Rattle.format.proofs.Rows.{at_first, at_next, table_in-length}
use Rattle.format.proofs.Places.{PairsInTable, first_in, others_in, others-text, quoted_text_lem}
use Rattle.format.proofs.Tables.{end_is}
use Rattle.format.proofs.Ordinals.{table_in-ordinals}
use Rattle.format.proofs.Results.{table_of-length, flat-length}
use Rattle.insertion.specs.Ways.{WayTo, found, inside, WayIn, first, later}
use Rattle.insertion.proofs.SiteRows.{in_plan, site-valid, site-inside}
use Rattle.keys.specs.KeyWords.{key_words_at, key_said, keys_said, Held, Chain}
use Rattle.keys.specs.KeyWords as chain
use Rattle.keys.specs.declared.KeyWords.{KeyWords}
use Rattle.keys.proofs.Chains.{said_has}
use Rattle.placing.specs.Words.{pair_node, carriers, GapBounds, key_present}

-- ---- the words of a list of nodes
flat-at : (rows : List Node) (rest : List ℕ) (i w : ℕ) → i < length rows → w < width
    → get_or (flat rows ++ rest) (i * width + w) 0 ≡ get_or (words (node_at rows i)) w 0
flat-at [] rest i w h l = absurd (omega arith)
flat-at (x ∷ xs) rest zero w h l =
    let e : 0 * width + w ≡ w = omega arith in
    ap (λ (m : ℕ). get_or (flat (x ∷ xs) ++ rest) m 0) e ∙ get_or-append (words x) (flat xs ++ rest) 0 w l
flat-at (x ∷ xs) rest (suc i) w h l =
    let e : suc i * width + w ≡ width + (i * width + w) = omega arith in
    ap (λ (m : ℕ). get_or (flat (x ∷ xs) ++ rest) m 0) e ∙ get_or-append-add (words x) (flat xs ++ rest) (i * width + w) 0 ∙ flat-at xs rest i w (omega arith) l

-- ---- counts
nodes-some : (v : Value) → 1 ≤ nodes v
nodes-some (leaf x) = omega arith
nodes-some (ref r) = omega arith
nodes-some (branch h ps) = omega arith

one-most : (b : Bool) → one b ≤ 1
one-most true = omega arith
one-most false = omega arith

mutual
  ordinals-most : (v : Value) → ordinals own v ≤ nodes v
  ordinals-most (leaf x) = omega arith
  ordinals-most (ref r) = one-most (own r)
  ordinals-most (branch h ps) = omega (arith, ordinals_in-most ps)

  ordinals_in-most : (ps : Values) → ordinals_in own ps ≤ nodes_in ps
  ordinals_in-most none = omega arith
  ordinals_in-most (pair k v ps) = omega (arith, ordinals-most v, ordinals_in-most ps)

mutual
  before-most : {v : Value} {j : ℕ} {a : TreePath} {qs : Values} → WayTo v j a qs → ordinals_before own a 0 v ≤ suc j
  before-most (found h ps c) = omega arith
  before-most (inside h w) = omega (arith, within-most w)

  within-most : {ps : Values} {j q : ℕ} {a : TreePath} {qs : Values} → WayIn ps j q a qs → ordinals_within own q (ordinals_before own a 0) ps ≤ suc j
  within-most (first k ps w) = omega (arith, before-most w)
  within-most (later k v e w) = omega (arith, ordinals-most v, within-most w)

upto-ordinals : (p : ℕ) (ps : Values) → ordinals_in own (upto p ps) ≡ ordinals_upto own p ps
upto-ordinals zero ps = refl
upto-ordinals (suc p) none = refl
upto-ordinals (suc p) (pair k v ps) = ap (λ (n : ℕ). ordinals own v + n) (upto-ordinals p ps)

upto-most : (p : ℕ) (ps : Values) → nodes_in (upto p ps) ≤ nodes_in ps
upto-most zero ps = omega arith
upto-most (suc p) none = omega arith
upto-most (suc p) (pair k v ps) = omega (arith, upto-most p ps)

upto-fewer : (p : ℕ) (ps : Values) → p < count ps → nodes_in (upto p ps) + 2 ≤ nodes_in ps
upto-fewer p none h = absurd (omega arith)
upto-fewer zero (pair k v ps) h = omega (arith, nodes-some v)
upto-fewer (suc p) (pair k v ps) h = omega (arith, upto-fewer p ps (omega arith))

up-length : (n c : ℕ) → length (up_from n c) ≡ c
up-length n zero = refl
up-length n (suc c) = ap suc (up-length (suc n) c)

carried : (b : Bool) (m : ℕ) (l : List ℕ) → length {A = ℕ} (elim b [ true ↦ l | false ↦ m ∷ l ]) ≡ one (not b) + length l
carried true m l = omega arith
carried false m l = omega arith

-- the nodes of the pairs before a place come first
upto-rows : (to : ℕ → ℕ) (p : ℕ) (ps : Values) (o i n : ℕ) → (more : List Node) × (table_in to o i n ps ≡ table_in to o i n (upto p ps) ++ more)
upto-rows to zero ps o i n = (table_in to o i n ps, refl)
upto-rows to (suc p) none o i n = ([], refl)
upto-rows to (suc p) (pair k v ps) o i n =
    let vs : List Node = key_node o i k ∷ table to (value_offset o k) (suc i) n v in
    let o' : ℕ = next_offset o k v in
    let i' : ℕ = suc (i + nodes v) in
    let n' : ℕ = n + ordinals own v in
    let r = upto-rows to p ps o' i' n' in
    (r.0, ap (λ (l : List Node). vs ++ l) r.1 ∙ sym (append_assoc vs (table_in to o' i' n' (upto p ps)) r.0))

-- ---- the words of any table
module _ (t : List ℕ) where
  pair-shift : (i q : ℕ) → pair_node t i (suc q) ≡ pair_node t (word_at t i pair_end) q
  pair-shift i zero = refl
  pair-shift i (suc q) = ap (λ (m : ℕ). word_at t m pair_end) (pair-shift i q)

  carriers-shift : (i n : ℕ) → carriers t i (suc n) ≡ one (not (eqb (word_at t i ordinal_word) 0)) + carriers t (suc i) n
  carriers-shift i zero =
      let e : i + 0 ≡ i = omega arith in
      let f = ap (λ (m : ℕ). one (not (eqb (word_at t m ordinal_word) 0))) e in
      omega arith
  carriers-shift i (suc n) =
      let e : i + suc n ≡ suc i + n = omega arith in
      let f = ap (λ (m : ℕ). one (not (eqb (word_at t m ordinal_word) 0))) e in
      let g = carriers-shift i n in
      omega arith

module _ (v : Value) (t rest : List ℕ) (e : t ≡ flat (table_of v) ++ rest) where
  abbrev In : (o i n : ℕ) → Values → Type 0
  In o i n ps = PairsInTable (table_of v) (target_of v) o i n ps

  -- the words of a node
  pub word_of : (i w : ℕ) → i < nodes v → w < width → word_at t i w ≡ get_or (words (node_at (table_of v) i)) w 0
  word_of i w h l = ap (λ (u : List ℕ). word_at u i w) e ∙ flat-at (table_of v) rest i w (omega (arith, table_of-length v)) l

  long : nodes v * width ≤ length t
  long = omega (arith, ap length e, length-append (flat (table_of v)) rest, flat-length (table_of v), table_of-length v)

  row_word : (i w : ℕ) (x : Node) → i < nodes v → w < width → node_at (table_of v) i ≡ x → word_at t i w ≡ get_or (words x) w 0
  row_word i w x h l f = word_of i w h l ∙ ap (λ (y : Node). get_or (words y) w 0) f

  -- ---- pairs
  next_word : (o i n : ℕ) (k : Key) (u : Value) (ps : Values) → In o i n (pair k u ps) → i + nodes_in (pair k u ps) ≤ nodes v
      → word_at t i pair_end ≡ suc (i + nodes u)
  next_word o i n k u ps g h =
      let f : i * width + pair_end ≡ suc i * width + end_word = omega arith in
      ap (λ (m : ℕ). get_or t m 0) f ∙ word_of (suc i) 5 (omega (arith, nodes-some u)) (omega arith)
      ∙ end_is (table_of v) (target_of v) u (value_offset o k) (suc i) n (first_in (table_of v) (target_of v) o i n k u ps g) ∙ omega arith

  pairs-node : (p : ℕ) (ps : Values) (o i n : ℕ) → In o i n ps → i + nodes_in ps ≤ nodes v → p ≤ count ps → pair_node t i p ≡ i + nodes_in (upto p ps)
  pairs-node zero ps o i n g h l = omega arith
  pairs-node (suc p) none o i n g h l = absurd (omega arith)
  pairs-node (suc p) (pair k u ps) o i n g h l =
      pair-shift t i p ∙ ap (λ (m : ℕ). pair_node t m p) (next_word o i n k u ps g h)
      ∙ pairs-node p ps (next_offset o k u) (suc (i + nodes u)) (n + ordinals own u) (others_in (table_of v) (target_of v) o i n k u ps g) (omega arith)
      (omega arith) ∙ omega arith

  -- ---- ordinals
  rows_carry : (xs more : List Node) (i : ℕ) → drop i (table_of v) ≡ xs ++ more → i + length xs ≤ nodes v → carriers t i (length xs) ≡ length (ordinals_of xs)
  rows_carry [] more i f h = refl
  rows_carry (x ∷ xs) more i f h =
      carriers-shift t i (length xs)
      ∙ ap₂ ◌+◌ (ap (λ (m : ℕ). one (not (eqb m 0))) (row_word i 1 x (omega arith) (omega arith) (at_first (table_of v) i x (xs ++ more) _ f)))
      (rows_carry xs more (suc i) (at_next (table_of v) i x (xs ++ more) f) (omega arith))
      ∙ sym (carried (eqb x.ordinal 0) x.ordinal (ordinals_of xs))

  pairs_carry : (p : ℕ) (ps : Values) (o i n : ℕ) → 1 ≤ n → In o i n ps → i + nodes_in ps ≤ nodes v → carriers t i (nodes_in (upto p ps)) ≡ ordinals_upto own p ps
  pairs_carry p ps o i n b g h =
      let xs : List Node = table_in (target_of v) o i n (upto p ps) in
      let r = upto-rows (target_of v) p ps o i n in
      let l : length xs ≡ nodes_in (upto p ps) = table_in-length (target_of v) (upto p ps) o i n in
      let f : drop i (table_of v) ≡ xs ++ (r.0 ++ g.rest) = g.here ∙ ap (λ (m : List Node). m ++ g.rest) r.1 ∙ append_assoc xs r.0 g.rest in
      ap (carriers t i) (sym l) ∙ rows_carry xs (r.0 ++ g.rest) i f (omega (arith, upto-most p ps))
      ∙ ap length (table_in-ordinals (target_of v) (upto p ps) o i n b) ∙ up-length n (ordinals_in own (upto p ps)) ∙ upto-ordinals p ps

  -- ---- keys
  module _ (source : List ℕ) where
    key-held : (j : Key) (o i : ℕ) (r : List ℕ) → i < nodes v → node_at (table_of v) i ≡ key_node o i j → KeyFits j → drop o source ≡ write_key j r
        → Held true source j (key_words_at t i)
    key-held (int_key x) o i r h f b d = record {
      is = row_word i 0 (key_node o i (int_key x)) h (omega arith) f;
      allowed = ap (is_tag_of (key_kinds true)) (row_word i 0 (key_node o i (int_key x)) h (omega arith) f);
      says = sym (row_word i 2 (key_node o i (int_key x)) h (omega arith) f);
      fits = b;
    }
    key-held (string_key q) o i r h f b d =
        let c : word_at t i content_word ≡ text_offset o q = row_word i 2 (key_node o i (string_key q)) h (omega arith) f in
        let z : word_at t i size_word ≡ length q.text = row_word i 3 (key_node o i (string_key q)) h (omega arith) f in
        let stands = quoted_text_lem source o 115 q (59 ∷ r) d in
        record {
          is = row_word i 0 (key_node o i (string_key q)) h (omega arith) f;
          allowed = ap (is_tag_of (key_kinds true)) (row_word i 0 (key_node o i (string_key q)) h (omega arith) f);
          says = (
            sym (ap₂ (λ (m n : ℕ). take m (drop n source)) z c ∙ stands),
            omega (arith, c, z, ap length d, length-drop o source, quoted_length q (59 ∷ r), number-length q.spelling (length q.text) []),
          );
          fits = b;
        }

    pairs-chain : (ps : Values) (o i n m : ℕ) (r : List ℕ) (c : Container) (js : List Key) → In o i n ps → m ≡ i + nodes_in ps → m ≤ nodes v
        → drop o source ≡ write_pairs ps r → SoundIn c js ps → Chain true source t i m (keys ps)
    unfolding write
    pairs-chain none o i n m r c js g f h d s = subst (λ (e : ℕ). Chain true source t i e []) (omega (arith, f)) chain.none
    pairs-chain (pair j u ps) o i n m r c js g f h d s =
        chain.pair (key-held j o i (write u (write_pairs ps r)) (omega arith) (at_first (table_of v) i (key_node o i j) _ _ g.here) s.0 d)
        (next_word o i n j u ps g (omega arith)) (omega (arith, nodes-some u))
        (pairs-chain ps (next_offset o j u) (suc (i + nodes u)) (n + ordinals own u) m r c (j ∷ js) (others_in (table_of v) (target_of v) o i n j u ps g)
        (omega arith) h (others-text source o j u (write_pairs ps r) d) s.4)

  -- ---- an array
  module _ (node : ℕ) (s : Site) (a : WayTo v node s.path s.pairs) where
    array_row : node_at (table_of v) node ≡ branch_node 0 (in_plan v node s a).ordinal array (count s.pairs) (node + suc (nodes_in s.pairs))
    array_row = at_first (table_of v) node _ _ _ (in_plan v node s a).rows

    array-word : (w : ℕ) → w < width
        → word_at t node w ≡ get_or (words (branch_node 0 (in_plan v node s a).ordinal array (count s.pairs) (node + suc (nodes_in s.pairs)))) w 0
    array-word w l = row_word node w _ (omega (arith, site-inside v node s a)) l array_row

    array-pairs : In (in_plan v node s a).offset (suc node) (suc (in_plan v node s a).ordinal) s.pairs
    array-pairs = record { rest = (in_plan v node s a).rest; here = at_next (table_of v) node _ _ (in_plan v node s a).rows }

    pub array_count : word_at t node link_word ≡ count s.pairs
    array_count = array-word 4 (omega arith)

    pub array-ordinal : word_at t node ordinal_word ≡ (in_plan v node s a).ordinal
    array-ordinal = array-word 1 (omega arith)

    -- the pairs before a place have so many nodes
    pub gap-node : (p : ℕ) → p ≤ count s.pairs → pair_node t (node + 1) p ≡ node + 1 + nodes_in (upto p s.pairs)
    gap-node p l =
        ap (λ (m : ℕ). pair_node t m p) (add-one node)
        ∙ pairs-node p s.pairs (in_plan v node s a).offset (suc node) (suc (in_plan v node s a).ordinal) array-pairs
        (omega (arith, site-inside v node s a)) l ∙ omega arith

    -- what gap_at asks: for every place
    pub gap-bounds : (p : ℕ) → GapBounds t node (count s.pairs) (in_plan v node s a).ordinal p
    gap-bounds p = record {
      walked = λ l. record {
        walk = λ q h. omega (arith, long, site-inside v node s a, gap-node q (omega arith), upto-fewer q s.pairs (omega arith));
        on = omega (arith, gap-node p l);
        inside = omega (arith, long, site-inside v node s a, gap-node p l, upto-most p s.pairs);
      };
      low = omega (arith, (in_plan v node s a).new 0, before-most a);
      inside = omega (arith, long, site-inside v node s a);
    }

    -- the ordinal that the new value takes
    pub gap-ordinal : (p : ℕ) → p ≤ count s.pairs
        → (in_plan v node s a).ordinal + carriers t (node + 1) (pair_node t (node + 1) p - (node + 1)) + 1 ≡ new_ordinal s.path p v
    gap-ordinal p l =
        let f : pair_node t (node + 1) p - (node + 1) ≡ nodes_in (upto p s.pairs) = omega (arith, gap-node p l) in
        let c : carriers t (node + 1) (pair_node t (node + 1) p - (node + 1)) ≡ ordinals_upto own p s.pairs =
        ap₂ (carriers t) (add-one node) f
        ∙ pairs_carry p s.pairs (in_plan v node s a).offset (suc node) (suc (in_plan v node s a).ordinal) (omega arith) array-pairs
        (omega (arith, site-inside v node s a)) in
        omega (arith, c, (in_plan v node s a).new p)

    pub key-present : Valid v → (source : List ℕ) → source ≡ print v → (text : List ℕ) (w : KeyWords) (k : Key) → Held true text k w
        → key_present source text w t node ≡ has_key k (keys s.pairs)
    unfolding key_present
    key-present f source d text w k held =
        ap₂ (λ (i n : ℕ). has_key (key_said true text w) (keys_said true source t i n)) (add-one node) (array-word 5 (omega arith))
        ∙ said_has text w k (omega (arith, long, site-inside v node s a)) held
        (pairs-chain source s.pairs (in_plan v node s a).offset (suc node) (suc (in_plan v node s a).ordinal) (node + suc (nodes_in s.pairs))
        (byte "}" ∷ (in_plan v node s a).after) array [] array-pairs (omega arith) (omega (arith, site-inside v node s a))
        (ap (drop (in_plan v node s a).offset) d ∙ (in_plan v node s a).text) (site-valid v node s f a).sound)
