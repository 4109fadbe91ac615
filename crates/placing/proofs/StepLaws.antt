-- The steps between reading and writing, and where the pair goes in the bytes. Assumes nothing.
use Prim.Native.Nat.{ℕ, suc, ◌+◌, ◌-◌, ◌*◌, ◌≤◌, ◌<◌}
use native.Mathlib.Omega.{arith}
use mathlib.Core.Path.{◌≡◌, refl, sym, ap, ap₂, ◌∙◌, subst}
use mathlib.Core.Bool.{true, false, not}
use mathlib.Core.List.{List}
use lib.Dec.{T_not, leb, ltb}
use lib.ListN.{length, length-append}
use borrow.Author.Tests.{ltb-true, ltb-false, leb-true, leb-false, not-false}
use Rattle.decimal.proofs.Decide.{T_of}
use Rattle.format.specs.Kind.{Kind, tag}
use Rattle.format.specs.Tree.{count, nodes_in}
use Rattle.format.specs.Syntax.{Key, Scalar, Value, Values}
use Rattle.format.specs.Keys.{has_key}
use Rattle.format.specs.Limits.{depth_limit}
use Rattle.format.specs.Answer.{Answer, ok, refused}
use Rattle.format.specs.Table.{Node, width, word_at, tag_word, flat, table_of}
use Rattle.format.specs.Shows.{node_at}
use Rattle.format.specs.Reading.{capacity_of, terms_of}
use Rattle.format.specs.Edit.{keys, upto, new_ordinal}
use Rattle.format.specs.Writing.{Site, array_at}
use Rattle.format.proofs.Results.{flat-length, table_of-length}
use Rattle.insertion.proofs.SiteRows.{in_plan, no-array, site-inside, site_depth}
use Rattle.insertion.specs.Ways.{WayTo}
use Rattle.insertion.proofs.Arrays.{locates}
use Rattle.insertion.proofs.Steps.{AtArray, AtPlace, WithPair, WithNewKey, WithDepth, WithNodes, StepRow, no_array, no_place, unfit, same_keyed, too_deep}
use Rattle.insertion.proofs.Steps.{no_nodes, row_step, equal-key, has_equal}
use Rattle.keys.specs.KeyWords.{Held}
use Rattle.keys.specs.declared.KeyWords.{KeyWords}
use Rattle.placing.specs.Words.{array_words, GapBounds, gap_words, pair_node, carriers, key_present}
use Rattle.placing.specs.PairTexts.{pair_words}
use Rattle.placing.specs.Locating.{spot_for}
use Rattle.placing.specs.Placing.{Given}
use Rattle.placing.proofs.WordLaws.{ArrayIs, array-none, BeforeIs, gap-none}
use Rattle.placing.proofs.TextLaws.{ArePair, key-held, no-pair}
use Rattle.placing.proofs.SiteWords as words

module _ {s t : List ℕ} {n : ℕ} (g : Given s t n) where
  pub table-room : n * width ≤ length t
  table-room =
      let rows : List Node = table_of g.value in
      omega (arith, g.counted, ap length g.table, length-append (flat rows) g.rest, flat-length rows, table_of-length g.value)

  module _ (node place : ℕ) (key value : List ℕ) where
    abbrev pub RefusedWith : (code at : ℕ) → Type 0
    RefusedWith c p = refused c p ≡ spot_for (terms_of t) s node place key value

    refuses : (c p : ℕ) → StepRow (terms_of t) s node place key value c p → RefusedWith c p
    unfolding spot_for
    refuses c p r = sym (rw (row_step (terms_of t) s node place key value c p r))

    -- ---- 11

    tag_is : node < n → (node_at (table_of g.value) node).tag ≡ tag Kind.array → word_at t node tag_word ≡ tag Kind.array
    tag_is h e = words.word_of g.value t g.rest g.table node 0 (omega (arith, g.counted)) (omega arith) ∙ e

    pub refuses_11 : {c p : ℕ} → refused c p ≡ array_words t n node → RefusedWith c p
    refuses_11 e =
        let a = array-none t n node e in
        ap₂ refused a.0 a.1 ∙ refuses 11 0 (no_array g.value g.plan (λ h f. let k : node < n = omega (arith, g.counted) in a.2 k (tag_is k f)))

    -- the array, with its count and its ordinal
    pub record Here (m o : ℕ) : Type 0 where
      pub site : Site
      pub at : WayTo g.value node site.path site.pairs
      pub counted : m ≡ count site.pairs
      pub numbered : o ≡ (in_plan g.value node site at).ordinal

    pub here : {m o : ℕ} → ArrayIs t n node m o → Here m o
    here {m} {o} a = by (array_at node g.value) refl
      where
        row : (r : Node) → node_at (table_of g.value) node ≡ r → word_at t node tag_word ≡ r.tag
        row r e =
            words.word_of g.value t g.rest g.table node 0 (omega (arith, g.counted, a.inside)) (omega arith)
            ∙ ap (λ (x : Node). x.tag) e

        by : (x : Answer Site) → array_at node g.value ≡ x → Here m o
        by (ok z) e =
            let way = locates g.value node z e in
            record {
              site = z;
              at = way;
              counted = a.counted ∙ words.array_count g.value t g.rest g.table node z way;
              numbered = a.numbered ∙ words.array-ordinal g.value t g.rest g.table node z way;
            }
        by (refused c q) e =
            absurd ((no-array g.value node c q e).2 (omega (arith, g.counted, a.inside)) (sym (row (node_at (table_of g.value) node) refl) ∙ a.tagged))

module _ {s t : List ℕ} {n : ℕ} {g : Given s t n} {node place : ℕ} {key value : List ℕ} {m o : ℕ} (h : Here g node place key value m o) where
  abbrev v : Value
  v = g.value

  at-array : AtArray (terms_of t) s node place key value v h.site
  at-array = record { was = g.plan; at = h.at }

  -- ---- 12

  pub bounds : GapBounds t node m o place
  bounds =
      subst (λ (c : ℕ). GapBounds t node c o place) (sym h.counted)
      (subst (λ (c : ℕ). GapBounds t node (count h.site.pairs) c place) (sym h.numbered)
      (words.gap-bounds v t g.rest g.table node h.site h.at place))

  pub refuses_12 : {c p : ℕ} → refused c p ≡ gap_words t node m o place → RefusedWith g node place key value c p
  refuses_12 e =
      let a = gap-none t node m o place e in
      ap₂ refused a.0 a.1 ∙ refuses g node place key value 12 0 (no_place v h.site at-array (omega (arith, a.2, h.counted)))

  module _ {gap new : ℕ} (b : BeforeIs t node m o place gap new) where
    pub within : place ≤ count h.site.pairs
    within = omega (arith, b.within, h.counted)

    at_place : AtPlace (terms_of t) s node place key value v h.site
    at_place = record { array = at-array; within = within }

    -- ---- 13

    pub refuses_13 : refused 13 0 ≡ pair_words key value → RefusedWith g node place key value 13 0
    refuses_13 e = refuses g node place key value 13 0 (unfit v h.site at_place (no-pair key value e))

-- the array, the gap in it and the texts of the pair
pub record GapFound {s t : List ℕ} {n : ℕ} (g : Given s t n) (node place : ℕ) (key value : List ℕ) (m o gap new : ℕ) (w : KeyWords) : Type 0 where
  pub array : Here g node place key value m o
  pub spot : BeforeIs t node m o place gap new
  pub pair : ArePair key value w

module _ {s t : List ℕ} {n : ℕ} {g : Given s t n} {node place : ℕ} {key value : List ℕ} {m o gap new : ℕ} {w : KeyWords}
    (f : GapFound g node place key value m o gap new w) where
  abbrev site : Site
  site = f.array.site

  abbrev qs : Values
  qs = site.pairs

  abbrev k : Key
  k = f.pair.keyed.key

  abbrev x : Scalar
  x = f.pair.scalar

  pub node-low : node < n
  node-low = omega (arith, site-inside g.value node site f.array.at, g.counted)

  pub gap_is : gap ≡ node + 1 + nodes_in (upto place qs)
  gap_is = f.spot.behind ∙ words.gap-node g.value t g.rest g.table node site f.array.at place (within f.array f.spot)

  pub new_is : new ≡ new_ordinal site.path place g.value
  new_is =
      f.spot.next ∙ ap (λ (c : ℕ). c + carriers t (node + 1) (pair_node t (node + 1) place - (node + 1)) + 1) f.array.numbered
      ∙ words.gap-ordinal g.value t g.rest g.table node site f.array.at place (within f.array f.spot)

  with_pair : WithPair (terms_of t) s node place key value g.value site k x
  with_pair = record {
    spot = at_place f.array f.spot;
    key-is = f.pair.keyed.written;
    key_fits = f.pair.keyed.fits;
    value-is = f.pair.written;
    value-fits = f.pair.fits;
  }

  -- ---- 9

  pub array-inside : node * width + width ≤ length t
  array-inside = omega (arith, node-low, table-room g)

  held : Held true key k w
  held = subst (Held true key k) (sym f.pair.keyed.words) (key-held key k f.pair.keyed.written f.pair.keyed.fits)

  present : key_present s key w t node ≡ has_key k (keys qs)
  present = words.key-present g.value t g.rest g.table node site f.array.at g.plan.fits.valid s g.plan.printed key w k held

  pub refuses_9 : not (key_present s key w t node) ≡ false → RefusedWith g node place key value 9 0
  refuses_9 e =
      let q = equal-key k (keys qs) (T_of (sym present ∙ not-false _ e)) in
      refuses g node place key value 9 0 (same_keyed g.value site k x with_pair q.0 q.1 q.2)

  abbrev pub Fresh : Type 0
  Fresh = not (key_present s key w t node) ≡ true

  module _ (fresh : Fresh) where
    with_new-key : WithNewKey (terms_of t) s node place key value g.value site k x
    with_new-key = record { pair = with_pair; new = λ j i e. T_not (has_key k (keys qs)) (T_of (ap not (sym present) ∙ fresh)) (has_equal k j (keys qs) i e) }

    -- ---- 8

    module _ {around : ℕ} (a : around ≡ length site.path) where
      pub refuses_8 : ltb (suc around) depth_limit ≡ false → RefusedWith g node place key value 8 0
      refuses_8 d =
          let deep = site_depth g.value node site g.plan.fits.valid f.array.at in
          refuses g node place key value 8 0 (too_deep g.value site k x with_new-key (omega (arith, a, ltb-false (suc around) depth_limit d, deep)))

      module _ (d : ltb (suc around) depth_limit ≡ true) where
        with_depth : WithDepth (terms_of t) s node place key value g.value site k x
        with_depth = record { fresh = with_new-key; shallow = omega (arith, a, ltb-true (suc around) depth_limit d) }

        -- ---- 7

        pub refuses_7 : leb (n + 2) (capacity_of t) ≡ false → RefusedWith g node place key value 7 0
        refuses_7 r =
            refuses g node place key value 7 0 (no_nodes g.value site k x with_depth (omega (arith, g.counted, leb-false (n + 2) (capacity_of t) r)))

        pub with_nodes : leb (n + 2) (capacity_of t) ≡ true
            → WithNodes (terms_of t) s node place key value g.value f.array.site f.pair.keyed.key f.pair.scalar
        with_nodes r = record { level = with_depth; small = omega (arith, g.counted, leb-true (n + 2) (capacity_of t) r) }
