-- The steps of inserting before 14: a refusal has its row, and where no row holds they pass. Assumes nothing.
use mathlib.Core.Path.{◌≡◌, refl, sym, ap, ◌∙◌, subst}
use mathlib.Core.Logic.{◌⊎◌, inl, inr}
use mathlib.Core.List.Memᴰ
use mathlib.Core.List.{List, [], ◌∷◌, Memᴰ}
use mathlib.Core.Bool.{Bool, true, false, not, ◌||◌}
use Prim.Native.Nat.{ℕ, suc, ◌+◌, ◌≤◌, ◌<◌}
use native.Mathlib.Omega.{arith}
use lib.Dec.{T, T_not, not_T, ltb, leb}
use lib.ListN.{length}
use borrow.Author.Tests.{ltb-true, ltb-false, leb-true, leb-false, lt-ltb, le-leb, lt-leb}
use Rattle.decimal.proofs.Decide.{Test, passed, failed, test, T_of, T_true}
use Rattle.format.specs.Kind.{Kind, tag}
use Rattle.format.specs.Tree.{count, nodes}
use Rattle.format.specs.Syntax.{Key, Scalar, Value, Values, write_key, write_scalar}
use Rattle.format.specs.Keys.{key_meaning, same_key, has_key}
use Rattle.format.specs.Limits.{depth_limit, Terms}
use Rattle.format.specs.Fits.{KeyFits, ScalarFits, IsPlan}
use Rattle.format.specs.Answer.{ok, refused}
use Rattle.format.specs.Read.{read}
use Rattle.format.specs.Table.{table_of}
use Rattle.format.specs.Shows.{node_at}
use Rattle.format.specs.Edit.{keys}
use Rattle.format.specs.Writing.{Site, array_at, key_of, scalar_of, Insertion, insertion_of}
use Rattle.format.proofs.Answers.{not_both}
use Rattle.format.proofs.Keys.{equal-keys}
use Rattle.format.proofs.Unique.{accepted-exactly}
use Rattle.insertion.specs.Ways.{WayTo}
use Rattle.insertion.proofs.Arrays.{locates, way-given}
use Rattle.insertion.proofs.SiteRows.{no-array, refuses-array, site_depth}
use Rattle.insertion.proofs.Told.{Told, through, row_of, passed-of, bind, ask, numbered}
use Rattle.insertion.proofs.PairTexts.{key-of, scalar-of, key-text, scalar-text, key-refused, scalar-refused, texts_refused}

-- ---- 9: a key that means the same
or_left : (a b : Bool) → T a → T (a || b)
or_left true b h = tt
or_left false b h = absurd h

or_right : (a b : Bool) → T b → T (a || b)
or_right true b h = tt
or_right false b h = h

-- some key of these means what k means
abbrev pub Equal : Key → List Key → Type 0
Equal k js = (j : Key) × Memᴰ j js × (key_meaning k ≡ key_meaning j)

pub equal-key : (k : Key) (js : List Key) → T (has_key k js) → Equal k js
equal-key k [] h = absurd h
equal-key k (i ∷ js) h = go (test (same_key k i)) (equal-key k js)
  where
    go : Test (same_key k i) → (T (has_key k js) → Equal k js) → Equal k (i ∷ js)
    go (passed t) f = (i, Memᴰ.head refl, (equal-keys k i).0 (T_of t))
    go (failed t) f = let a = f (rw (t, ◌||◌) at h) in (a.0, Memᴰ.tail a.1, a.2)

pub has_equal : (k j : Key) (js : List Key) → Memᴰ j js → key_meaning k ≡ key_meaning j → T (has_key k js)
has_equal k j [] m e = absurd (Memᴰ.not-nil m)
has_equal k j (i ∷ js) m e = go (Memᴰ.cases_cons m) (λ n. has_equal k j js n e)
  where
    go : (j ≡ i) ⊎ Memᴰ j js → (Memᴰ j js → T (has_key k js)) → T (has_key k (i ∷ js))
    go (inl s) f = or_left (same_key k i) (has_key k js) ((equal-keys k i).1 (e ∙ ap key_meaning s))
    go (inr n) f = or_right (same_key k i) (has_key k js) (f n)

has_key_lem : (b : Bool) → not b ≡ false → T b
has_key_lem true e = tt
has_key_lem false e = absurd (subst T e tt)

-- ---- the steps passed, in the order "reading, 11, 12, 13, 9 (new key present), 8 (array at depth 64), 7 (two more nodes)", in words of the grammar
module _ (terms : Terms) (source : List ℕ) (node place : ℕ) (key value : List ℕ) where
  -- the source is a plan, and an array of it stands at the node, with its path and its pairs
  pub record AtArray (old : Value) (s : Site) : Type 0 where
    pub was : IsPlan terms source old
    pub at : WayTo old node s.path s.pairs

  pub record AtPlace (old : Value) (s : Site) : Type 0 where
    pub array : AtArray old s
    pub within : place ≤ count s.pairs

  pub record WithPair (old : Value) (s : Site) (k : Key) (x : Scalar) : Type 0 where
    pub spot : AtPlace old s
    pub key-is : key ≡ write_key k []
    pub key_fits : KeyFits k
    pub value-is : value ≡ write_scalar x []
    pub value-fits : ScalarFits x

  pub record WithNewKey (old : Value) (s : Site) (k : Key) (x : Scalar) : Type 0 where
    pub pair : WithPair old s k x
    pub new : (j : Key) → Memᴰ j (keys s.pairs) → key_meaning k ≡ key_meaning j → ⊥

  pub record WithDepth (old : Value) (s : Site) (k : Key) (x : Scalar) : Type 0 where
    pub fresh : WithNewKey old s k x
    pub shallow : suc (length s.path) < depth_limit

  pub record WithNodes (old : Value) (s : Site) (k : Key) (x : Scalar) : Type 0 where
    pub level : WithDepth old s k x
    pub small : nodes old + 2 ≤ terms.capacity

  -- the refusals and their positions, each with the steps before it passed
  pub data StepRow : (code at : ℕ) → Type 0 where
    reading : (n p : ℕ) → read terms source ≡ refused n p → StepRow n p
    no_array : (old : Value) → IsPlan terms source old → (node < nodes old → (node_at (table_of old) node).tag ≡ tag Kind.array → ⊥) → StepRow 11 0
    no_place : (old : Value) (s : Site) → AtArray old s → count s.pairs < place → StepRow 12 0
    unfit : (old : Value) (s : Site) → AtPlace old s
        → ((k : Key) (x : Scalar) → KeyFits k → key ≡ write_key k [] → ScalarFits x → value ≡ write_scalar x [] → ⊥) → StepRow 13 0
    same_keyed : (old : Value) (s : Site) (k : Key) (x : Scalar) → WithPair old s k x → (j : Key) → Memᴰ j (keys s.pairs) → key_meaning k ≡ key_meaning j
        → StepRow 9 0
    too_deep : (old : Value) (s : Site) (k : Key) (x : Scalar) → WithNewKey old s k x → suc (length s.path) ≡ depth_limit → StepRow 8 0
    no_nodes : (old : Value) (s : Site) (k : Key) (x : Scalar) → WithDepth old s k x → terms.capacity < nodes old + 2 → StepRow 7 0

  -- ---- a refusal has its row, and what is not refused has passed the steps
  abbrev Passed : Insertion → Type 0
  Passed i = WithNodes i.plan i.site i.key i.value

  told : Told StepRow Passed (insertion_of terms source node place key value)
  unfolding insertion_of
  told =
      bind (read terms source) _ (λ n p e. reading n p e) (λ v a.
      let was : IsPlan terms source v = (accepted-exactly terms source v).0 a in
      bind (array_at node v) _ (λ n p e. let r = no-array v node n p e in numbered StepRow n p 11 (r.0, r.1) (no_array v was r.2)) (λ s b.
      let way : WayTo v node s.path s.pairs = locates v node s b in
      let array : AtArray v s = record { was = was; at = way } in
      let ps : Values = s.pairs in
      ask (leb place (count ps)) 12 0 _ (λ e. no_place v s array (leb-false place (count ps) e)) (λ c.
      let spot : AtPlace v s = record { array = array; within = leb-true place (count ps) c } in
      bind (key_of key) _
      (λ n p e. numbered StepRow n p 13 (key-refused key n p e) (unfit v s spot (λ k x f t g u. not_both (sym e ∙ ap key_of t ∙ key-text k f)))) (λ k d.
      let kt = key-of key k d in
      bind (scalar_of value) _ (λ n p e.
      numbered StepRow n p 13 (scalar-refused value n p e) (unfit v s spot (λ j x f t g u. not_both (sym e ∙ ap scalar_of u ∙ scalar-text x g)))) (λ x f.
      let xt = scalar-of value x f in
      let pair : WithPair v s k x = record { spot = spot; key-is = kt.0; key_fits = kt.1; value-is = xt.0; value-fits = xt.1 } in
      ask (not (has_key k (keys ps))) 9 0 _
      (λ e. let q = equal-key k (keys ps) (has_key_lem (has_key k (keys ps)) e) in same_keyed v s k x pair q.0 q.1 q.2) (λ g.
      let fresh : WithNewKey v s k x = record { pair = pair; new = λ j m e. T_not (has_key k (keys ps)) (T_of g) (has_equal k j (keys ps) m e) } in
      ask (ltb (suc (length s.path)) depth_limit) 8 0 _ (λ e.
      too_deep v s k x fresh (omega (arith, site_depth v node s was.fits.valid way, ltb-false (suc (length s.path)) depth_limit e))) (λ h.
      let level : WithDepth v s k x = record { fresh = fresh; shallow = ltb-true (suc (length s.path)) depth_limit h } in
      ask (leb (nodes v + 2) terms.capacity) 7 0 _ (λ e. no_nodes v s k x level (leb-false (nodes v + 2) terms.capacity e)) (λ i.
      through _ (record { level = level; small = leb-true (nodes v + 2) terms.capacity i })))))))))

  pub step_row : (n p : ℕ) → insertion_of terms source node place key value ≡ refused n p → StepRow n p
  step_row n p e = row_of (subst (Told StepRow Passed) e told)

  pub passes : (i : Insertion) → insertion_of terms source node place key value ≡ ok i → WithNodes i.plan i.site i.key i.value
  passes i e = passed-of (subst (Told StepRow Passed) e told)

  -- ---- where a row holds there is that refusal, and where none does the insertion
  reads : {old : Value} {s : Site} → AtArray old s → read terms source ≡ ok old
  reads {old} a = (accepted-exactly terms source old).1 a.was

  placed : {old : Value} {s : Site} → AtPlace old s → leb place (count s.pairs) ≡ true
  placed {old} {s} a = le-leb place (count s.pairs) a.within

  keyed : {old : Value} {s : Site} {k : Key} {x : Scalar} → WithPair old s k x → key_of key ≡ ok k
  keyed {k = k} a = ap key_of a.key-is ∙ key-text k a.key_fits

  valued : {old : Value} {s : Site} {k : Key} {x : Scalar} → WithPair old s k x → scalar_of value ≡ ok x
  valued {x = x} a = ap scalar_of a.value-is ∙ scalar-text x a.value-fits

  pub new-key : {old : Value} {s : Site} {k : Key} {x : Scalar} → WithNewKey old s k x → T (not (has_key k (keys s.pairs)))
  new-key {s = s} {k = k} a = not_T (has_key k (keys s.pairs)) (λ t. let q = equal-key k (keys s.pairs) t in a.new q.0 q.1 q.2)

  newly : {old : Value} {s : Site} {k : Key} {x : Scalar} → WithNewKey old s k x → not (has_key k (keys s.pairs)) ≡ true
  newly {s = s} {k = k} a = T_true (not (has_key k (keys s.pairs))) (new-key a)

  at-site : {old : Value} {s : Site} → AtArray old s → array_at node old ≡ ok s
  at-site a = way-given a.at

  pub steps_pass : (old : Value) (s : Site) (k : Key) (x : Scalar) → WithNodes old s k x
      → insertion_of terms source node place key value ≡ ok (record { plan = old; site = s; key = k; value = x })
  unfolding insertion_of
  steps_pass old s k x w =
      let level = w.level in
      let pair = level.fresh.pair in
      let array = pair.spot.array in
      rw (
        reads array,
        at-site array,
        placed pair.spot,
        keyed pair,
        valued pair,
        newly level.fresh,
        lt-ltb (suc (length s.path)) depth_limit level.shallow,
        le-leb (nodes old + 2) terms.capacity w.small,
      )

  -- "A number is given exactly when its row holds and nothing earlier in the order does."
  pub row_step : (n p : ℕ) → StepRow n p → insertion_of terms source node place key value ≡ refused n p
  unfolding insertion_of
  row_step n p (reading m q e) = rw e
  row_step n p (no_array old w f) = rw ((accepted-exactly terms source old).1 w, refuses-array old node f)
  row_step n p (no_place old s a h) = rw (reads a, at-site a, lt-leb place (count s.pairs) h)
  row_step n p (unfit old s a f) = rw (reads a.array, at-site a.array, placed a) (texts_refused key value _ f)
  row_step n p (same_keyed old s k x a j m e) =
      let array = a.spot.array in
      rw (reads array, at-site array, placed a.spot, keyed a, valued a, T_true (has_key k (keys s.pairs)) (has_equal k j (keys s.pairs) m e))
  row_step n p (too_deep old s k x a e) =
      let spot = a.pair.spot in
      rw (reads spot.array, at-site spot.array, placed spot, keyed a.pair, valued a.pair, newly a, e)
  row_step n p (no_nodes old s k x a h) =
      let pair = a.fresh.pair in
      let spot = pair.spot in
      rw (
        reads spot.array,
        at-site spot.array,
        placed spot,
        keyed pair,
        valued pair,
        newly a.fresh,
        lt-ltb (suc (length s.path)) depth_limit a.shallow,
        lt-leb (nodes old + 2) terms.capacity h,
      )
