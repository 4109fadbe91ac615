-- Reading in any form of writing: every writing of a tree that fits is accepted, and what is accepted is one. Assumes nothing.
use mathlib.Core.Path.{◌≡◌, refl, sym, ap, ◌∙◌, subst}
use mathlib.Core.Logic.{◌↔◌}
use mathlib.Core.List.{List, [], ◌∷◌}
use mathlib.Core.Bool.{Bool, true, false, not, ◌&&◌}
use Prim.Native.Nat.{ℕ, zero, suc, ◌+◌, ◌-◌, ◌≤◌, ◌<◌}
use native.Mathlib.Omega.{arith}
use lib.Dec.{T, ltb, leb, ltb→lt, leb→le, eqb, eqb→eq}
use lib.ListN.{length}
use borrow.Author.Tests.{lt-ltb, le-leb}
use Rattle.decimal.proofs.Decide.{Test, passed, failed, test, T_of, T_true, and_left, and_right}
use Rattle.format.specs.Bytes.{is_empty}
use Rattle.format.specs.Kind.{Kind, kinds, key_kinds}
use Rattle.format.specs.Tree.{leaf, ref, branch, none, pair, count, nodes, nodes_in}
use Rattle.format.specs.Syntax.{Spelling, Key, Scalar, Container, Head, RefKind, object_ref, variable_ref, ref_kind, Reference, Value, Values}
use Rattle.format.specs.Keys.{has_key}
use Rattle.format.specs.Limits.{source_limit, depth_limit, Terms, Seen, unseen, see_branch, see}
use Rattle.format.specs.Fits.{Backward, BackwardIn, Shallow, ShallowIn}
use Rattle.format.specs.Answer.{Answer, ok, refused, require}
use Rattle.format.specs.Read.{Form, Setting, setting_in, position, is_array, Inner, expect, kind_of, tag_of, room_for, read_key, read_pairs}
use Rattle.format.specs.Read.{read_branch, read_reference, read_scalar, read_body, read_value, read_in}
use Rattle.format.proofs.Answers.{ok_same, not_both, bind_ok, require-ok}
use Rattle.format.proofs.Floats.{empty-ok}

-- no key equal to an earlier one of its container
abbrev mutual
  pub Fresh : Value → Type 0
  Fresh (leaf x) = Unit {0}
  Fresh (ref r) = Unit {0}
  Fresh (branch h ps) = FreshIn [] ps

  pub FreshIn : List Key → Values → Type 0
  FreshIn earlier none = Unit {0}
  FreshIn earlier (pair k v ps) = T (not (has_key k earlier)) × Fresh v × FreshIn (k ∷ earlier) ps

abbrev pub container_kind : (of_array : Bool) → Kind
container_kind true = Kind.array
container_kind false = Kind.object

pub data IsScalar : Kind → Type 0 where
  null : IsScalar Kind.null
  bool : IsScalar Kind.bool
  int : IsScalar Kind.int
  float : IsScalar Kind.float
  string : IsScalar Kind.string

-- ---- the writings of a tree in a form: what it reads as that tree, wherever the tags stand; `s` is a writing, and `r` follows it
module _ (form : Form) where
  pub record WritesScalar (x : Scalar) (s r : List ℕ) : Type 0 where
    pub kind : Kind
    pub scalar : IsScalar kind
    pub rest : List ℕ
    pub here : s ≡ form.first kind ∷ rest
    pub text : (l : ℕ) → form.scalar_text kind l rest ≡ ok (x, r)

  pub record WritesReference (n : Reference) (s r : List ℕ) : Type 0 where
    pub rest : List ℕ
    pub here : s ≡ form.first (ref_kind n.kind) ∷ rest
    pub text : (l : ℕ) → form.named_text l rest ≡ ok ((n.spelling, n.named), r)

  pub record WritesKey (of_array : Bool) (k : Key) (s r : List ℕ) : Type 0 where
    pub kind : Kind
    pub rest : List ℕ
    pub tagged : (at : ℕ) → tag_of form.first (key_kinds of_array) 4 at s ≡ ok (kind, rest)
    pub text : (l : ℕ) → form.key_text of_array kind l rest ≡ ok (k, r)

  pub record WritesHead (h : Head) (n : ℕ) (s r : List ℕ) : Type 0 where
    pub rest : List ℕ
    pub here : s ≡ form.first (container_kind (is_array h.container)) ∷ rest
    pub text : (l : ℕ) → form.head_text (is_array h.container) l rest ≡ ok ((h.container, (h.spelling, n)), r)

  abbrev mutual
    pub Writing : Value → (s r : List ℕ) → Type 0
    Writing (leaf x) s r = WritesScalar x s r
    Writing (ref n) s r = WritesReference n s r
    Writing (branch h ps) s r = (s₁ : List ℕ) × (s₂ : List ℕ) × WritesHead h (count ps) s s₁ × WritingIn (is_array h.container) ps s₁ s₂
        × ((l : ℕ) → expect l form.close s₂ ≡ ok r)

    pub WritingIn : (of_array : Bool) → Values → (s r : List ℕ) → Type 0
    WritingIn a none s r = s ≡ r
    WritingIn a (pair k v ps) s r = (s₁ : List ℕ) × (s₂ : List ℕ) × WritesKey a k s s₁ × Writing v s₁ s₂ × WritingIn a ps s₂ r

-- a source that is a writing of a tree within the limits and the room
pub record FitsIn (form : Form) (terms : Terms) (source : List ℕ) (v : Value) : Type 0 where
  pub short : length source ≤ source_limit
  pub written : Writing form v source []
  pub fresh : Fresh v
  pub backward : Backward unseen v
  pub shallow : Shallow depth_limit v
  pub small : nodes v ≤ terms.capacity

-- ---- what a form has to have

-- each kind is known by its first byte
abbrev pub Tagged : Form → Type 0
Tagged form = (k : Kind) (at : ℕ) → kind_of form.first kinds 3 at (form.first k) ≡ ok k

-- two answers of one text, its tag standing at `l` and at `m`: the same, or the same refusal, 2 to 10, at the tag
pub data AtTag {A : Type 0} (l m : ℕ) (a b : Answer A) : Type 0 where
  found : (x : A) → a ≡ ok x → b ≡ ok x → AtTag l m a b
  unfit : (n : ℕ) → 2 ≤ n → n ≤ 10 → a ≡ refused n l → b ≡ refused n m → AtTag l m a b

pub found_too : {A : Type 0} {l m : ℕ} {a b : Answer A} {x : A} → AtTag l m a b → a ≡ ok x → b ≡ ok x
found_too (found y e f) h = f ∙ ap ok (ok_same (sym e ∙ h))
found_too (unfit n lo hi e f) h = absurd (not_both (sym e ∙ h))

-- what is read of a text does not depend on where its tag stands; a head is of the container that was asked for
pub record Steady (form : Form) : Type 0 where
  pub scalar : (k : Kind) (s : List ℕ) (l m : ℕ) → AtTag l m (form.scalar_text k l s) (form.scalar_text k m s)
  pub key : (a : Bool) (k : Kind) (s : List ℕ) (l m : ℕ) → AtTag l m (form.key_text a k l s) (form.key_text a k m s)
  pub head : (a : Bool) (s : List ℕ) (l m : ℕ) → AtTag l m (form.head_text a l s) (form.head_text a m s)
  pub named : (s : List ℕ) (l m : ℕ) → AtTag l m (form.named_text l s) (form.named_text m s)
  pub container : (a : Bool) (l : ℕ) (s : List ℕ) (q : (Container × (Spelling × ℕ)) × List ℕ) → form.head_text a l s ≡ ok q → is_array q.0.0 ≡ a

-- ---- every writing of a tree that fits is accepted
module _ (set : Setting) where
  pub key-accepted : (a : Bool) (earlier : List Key) (before : ℕ) (k : Key) (s r : List ℕ) → before < set.terms.capacity → T (not (has_key k earlier))
      → WritesKey set.form a k s r → read_key set a earlier before s ≡ ok (k, r)
  unfolding read_key
  key-accepted a earlier before k s r b d w =
      rw (w.tagged (position set s), lt-ltb before set.terms.capacity b, w.text (position set s), T_true (not (has_key k earlier)) d)

  scalar-body : (inner : Inner) (k : Kind) → IsScalar k → (l : ℕ) (seen : Seen) (before : ℕ) (s r : List ℕ) (x : Scalar)
      → set.form.scalar_text k l s ≡ ok (x, r) → read_body set inner k l seen before s ≡ ok (leaf x, r)
  unfolding read_body read_scalar
  scalar-body inner Kind.null null l seen before s r x e = rw e
  scalar-body inner Kind.bool bool l seen before s r x e = rw e
  scalar-body inner Kind.int int l seen before s r x e = rw e
  scalar-body inner Kind.float float l seen before s r x e = rw e
  scalar-body inner Kind.string string l seen before s r x e = rw e
  scalar-body inner Kind.array scalar l seen before s r x e = elim scalar [ ]
  scalar-body inner Kind.object scalar l seen before s r x e = elim scalar [ ]
  scalar-body inner Kind.object_reference scalar l seen before s r x e = elim scalar [ ]
  scalar-body inner Kind.variable_reference scalar l seen before s r x e = elim scalar [ ]

  ref-body : (inner : Inner) (n : Reference) (k : RefKind) → n.kind ≡ k → (l : ℕ) (seen : Seen) (before : ℕ) (s r : List ℕ) → 1 ≤ n.named → n.named ≤ seen
      → set.form.named_text l s ≡ ok ((n.spelling, n.named), r) → read_body set inner (ref_kind k) l seen before s ≡ ok (ref n, r)
  unfolding read_body read_reference
  ref-body inner n object_ref q l seen before s r a b e = rw (e, lt-ltb 0 n.named a, le-leb n.named seen b, ← q)
  ref-body inner n variable_ref q l seen before s r a b e = rw (e, lt-ltb 0 n.named a, le-leb n.named seen b, ← q)

  branch-body : (inner : Inner) (h : Head) (ps : Values) (a : Bool) → is_array h.container ≡ a → (l : ℕ) (seen : Seen) (before : ℕ) (s s₁ s₂ r : List ℕ)
      → set.form.head_text a l s ≡ ok ((h.container, (h.spelling, count ps)), s₁)
      → read_pairs set inner (is_array h.container) (count ps) [] (see_branch seen) (suc before) s₁ ≡ ok (ps, s₂) → expect l set.form.close s₂ ≡ ok r
      → read_body set inner (container_kind a) l seen before s ≡ ok (branch h ps, r)
  unfolding read_body read_branch
  branch-body inner h ps true q l seen before s s₁ s₂ r e p c = rw (e, p, c)
  branch-body inner h ps false q l seen before s s₁ s₂ r e p c = rw (e, p, c)

  one-level : (d : ℕ) (ps : Values) → ShallowIn (suc d - 1) ps → ShallowIn d ps
  one-level d ps e = let i : suc d - 1 ≡ d = omega arith in rw i at e

  module _ (tagged : Tagged set.form) where
    tag-found : (k : Kind) (at : ℕ) (s rest : List ℕ) → s ≡ set.form.first k ∷ rest → tag_of set.form.first kinds 3 at s ≡ ok (k, rest)
    tag-found k at s rest e = rw e (rw (tagged k at))

    mutual
      pub value-accepted : (v : Value) (d : ℕ) (seen : Seen) (before : ℕ) (s r : List ℕ) → Writing set.form v s r → Fresh v → Backward seen v → Shallow d v
          → before + nodes v ≤ set.terms.capacity
          → read_value set d seen before s ≡ ok (v, r)
      value-accepted (leaf x) zero seen before s r w f b h m = absurd (omega arith)
      value-accepted (leaf x) (suc d) seen before s r w f b h m =
          let l : ℕ = position set s in
          let room : before < set.terms.capacity = omega arith in
          rw (tag-found w.kind l s w.rest w.here, lt-ltb before set.terms.capacity room)
          (scalar-body (read_value set d) w.kind w.scalar l seen before w.rest r x (w.text l))
      value-accepted (ref n) zero seen before s r w f b h m = absurd (omega arith)
      value-accepted (ref n) (suc d) seen before s r w f b h m =
          let l : ℕ = position set s in
          let room : before < set.terms.capacity = omega arith in
          rw (tag-found (ref_kind n.kind) l s w.rest w.here, lt-ltb before set.terms.capacity room)
          (ref-body (read_value set d) n n.kind refl l seen before w.rest r b.0 b.1 (w.text l))
      value-accepted (branch h ps) zero seen before s r w f b e m = absurd (omega arith)
      value-accepted (branch h ps) (suc d) seen before s r w f b e m =
          let l : ℕ = position set s in
          let a : Bool = is_array h.container in
          let room : before < set.terms.capacity = omega arith in
          let hd = w.2 in
          let ps-read = pairs-accepted ps d a [] (see_branch seen) (suc before) w.0 w.1 w.3 f b (one-level d ps e.1) (omega arith) in
          rw (tag-found (container_kind a) l s hd.rest hd.here, lt-ltb before set.terms.capacity room)
          (branch-body (read_value set d) h ps a refl l seen before hd.rest w.0 w.1 r (hd.text l) ps-read (w.4 l))

      pairs-accepted : (ps : Values) (d : ℕ) (a : Bool) (earlier : List Key) (seen : Seen) (before : ℕ) (s r : List ℕ) → WritingIn set.form a ps s r
          → FreshIn earlier ps → BackwardIn seen ps → ShallowIn d ps → before + nodes_in ps ≤ set.terms.capacity
          → read_pairs set (read_value set d) a (count ps) earlier seen before s ≡ ok (ps, r)
      pairs-accepted none d a earlier seen before s r w f b e m = ap (λ (x : List ℕ). ok (none, x)) w
      pairs-accepted (pair k v ps) d a earlier seen before s r w f b e m =
          rw (
            key-accepted a earlier before k s w.0 (omega arith) f.0 w.2,
            value-accepted v d seen (suc before) w.0 w.1 w.3 f.1 b.0 e.0 (omega arith),
            pairs-accepted ps d a (k ∷ earlier) (see seen v) (suc (before + nodes v)) w.1 r w.4 f.2 b.1 e.1 (omega arith),
          )

-- ---- what is accepted is a writing of a tree that fits

pub expected : (l m : ℕ) (ws s : List ℕ) → AtTag l m (expect l ws s) (expect m ws s)
expected l m [] s = found s refl refl
expected l m (w ∷ ws) [] = unfit 2 (omega arith) (omega arith) refl refl
expected l m (w ∷ ws) (b ∷ s) = go (test (eqb w b)) (expected l m ws s)
  where
    go : Test (eqb w b) → AtTag l m (expect l ws s) (expect m ws s) → AtTag l m (expect l (w ∷ ws) (b ∷ s)) (expect m (w ∷ ws) (b ∷ s))
    go (passed t) r = rw (t, expect) r
    go (failed t) r = rw (t, expect) (unfit 2 (omega arith) (omega arith) refl refl)

-- the byte that a kind was chosen by, and that the position does not choose
record ChosenBy (first : Kind → ℕ) (ks : List Kind) (code b : ℕ) (k : Kind) : Type 0 where
  is : b ≡ first k
  steady : (m : ℕ) → kind_of first ks code m b ≡ ok k

kind-chosen : (f : Kind → ℕ) (ks : List Kind) (code at b : ℕ) (k : Kind) → kind_of f ks code at b ≡ ok k → ChosenBy f ks code b k
kind-chosen f [] code at b k e = absurd (not_both e)
kind-chosen f (j ∷ js) code at b k e = go (test (eqb (f j) b)) (λ h. kind-chosen f js code at b k h)
  where
    go : Test (eqb (f j) b) → (kind_of f js code at b ≡ ok k → ChosenBy f js code b k) → ChosenBy f (j ∷ js) code b k
    go (passed t) g =
        let i : j ≡ k = ok_same (rw (t, kind_of) at e) in
        record { is = sym (eqb→eq (f j) b (T_of t)) ∙ ap f i; steady = λ m. rw (t, kind_of) (ap ok i) }
    go (failed t) g =
        let c = g (rw (t, kind_of) at e) in
        record { is = c.is; steady = λ m. rw (t, kind_of) (c.steady m) }

record TagBy (first : Kind → ℕ) (ks : List Kind) (code : ℕ) (s : List ℕ) (q : Kind × List ℕ) : Type 0 where
  is : s ≡ first q.0 ∷ q.1
  steady : (m : ℕ) → tag_of first ks code m s ≡ ok q

tag-chosen : (f : Kind → ℕ) (ks : List Kind) (code at : ℕ) (s : List ℕ) (q : Kind × List ℕ) → tag_of f ks code at s ≡ ok q → TagBy f ks code s q
tag-chosen f ks code at [] q e = absurd (not_both e)
tag-chosen f ks code at (b ∷ s) q e =
    let a = bind_ok (kind_of f ks code at b) _ q e in
    let c = kind-chosen f ks code at b a.0 a.1 in
    record {
      is = ap {B = List ℕ} (λ x. x ∷ s) c.is ∙ ap (λ (p : Kind × List ℕ). f p.0 ∷ p.1) (ok_same a.2);
      steady = λ m. rw (c.steady m) a.2;
    }

-- so many pairs are read as are asked for
pub pairs-count : (set : Setting) (inner : Inner) (a : Bool) (n : ℕ) (earlier : List Key) (seen : Seen) (before : ℕ) (s : List ℕ) (q : Values × List ℕ)
    → read_pairs set inner a n earlier seen before s ≡ ok q → count q.0 ≡ n
pairs-count set inner a zero earlier seen before s q e = ap (λ (x : Values × List ℕ). count x.0) (sym (ok_same e))
pairs-count set inner a (suc n) earlier seen before s q e =
    let k = bind_ok (read_key set a earlier before s) _ q e in
    let v = bind_ok (inner seen (suc before) k.0.1) _ q k.2 in
    let ps = bind_ok (read_pairs set inner a n (k.0.0 ∷ earlier) (see seen v.0.0) (suc (before + nodes v.0.0)) v.0.1) _ q v.2 in
    ap (λ (x : Values × List ℕ). count x.0) (sym (ok_same ps.2))
    ∙ ap suc (pairs-count set inner a n (k.0.0 ∷ earlier) (see seen v.0.0) (suc (before + nodes v.0.0)) v.0.1 ps.0 ps.1)

module _ (set : Setting) (steady : Steady set.form) where
  pub record GotKey (a : Bool) (earlier : List Key) (before : ℕ) (s : List ℕ) (q : Key × List ℕ) : Type 0 where
    pub written : WritesKey set.form a q.0 s q.1
    fresh : T (not (has_key q.0 earlier))
    small : before < set.terms.capacity

  pub record Got (d : ℕ) (seen : Seen) (before : ℕ) (s : List ℕ) (q : Value × List ℕ) : Type 0 where
    pub written : Writing set.form q.0 s q.1
    pub fresh : Fresh q.0
    backward : Backward seen q.0
    shallow : Shallow d q.0
    small : before + nodes q.0 ≤ set.terms.capacity

  record GotPairs (a : Bool) (d : ℕ) (earlier : List Key) (seen : Seen) (before : ℕ) (s : List ℕ) (q : Values × List ℕ) : Type 0 where
    written : WritingIn set.form a q.0 s q.1
    fresh : FreshIn earlier q.0
    backward : BackwardIn seen q.0
    shallow : ShallowIn d q.0
    small : before + nodes_in q.0 ≤ set.terms.capacity

  pub key_got : (a : Bool) (earlier : List Key) (before : ℕ) (s : List ℕ) (q : Key × List ℕ) → read_key set a earlier before s ≡ ok q
      → GotKey a earlier before s q
  unfolding read_key
  key_got a earlier before s q e =
      let l : ℕ = position set s in
      let t = bind_ok (tag_of set.form.first (key_kinds a) 4 l s) _ q e in
      let b = bind_ok (room_for set before l) _ q t.2 in
      let c = bind_ok (set.form.key_text a t.0.0 l t.0.1) _ q b.2 in
      let d = bind_ok (require (not (has_key c.0.0 earlier)) 9 l) _ q c.2 in
      subst (GotKey a earlier before s) (ok_same d.2) (record {
        written = record {
          kind = t.0.0;
          rest = t.0.1;
          tagged = (tag-chosen set.form.first (key_kinds a) 4 l s t.0 t.1).steady;
          text = λ m. found_too (steady.key a t.0.0 t.0.1 l m) c.1;
        };
        fresh = require-ok (not (has_key c.0.0 earlier)) 9 l d.0 d.1;
        small = ltb→lt before set.terms.capacity (require-ok (ltb before set.terms.capacity) 7 l b.0 b.1);
      })

  module _ (inner : Inner) (d : ℕ)
      (inner-got : (seen : Seen) (before : ℕ) (s : List ℕ) (q : Value × List ℕ) → inner seen before s ≡ ok q → Got d seen before s q) where
    pairs_got : (a : Bool) (n : ℕ) (earlier : List Key) (seen : Seen) (before : ℕ) (s : List ℕ) (q : Values × List ℕ) → before ≤ set.terms.capacity
        → read_pairs set inner a n earlier seen before s ≡ ok q → GotPairs a d earlier seen before s q
    pairs_got a zero earlier seen before s q m e = subst (GotPairs a d earlier seen before s) (ok_same e) (record {
      written = refl;
      fresh = tt;
      backward = tt;
      shallow = tt;
      small = omega arith;
    })
    pairs_got a (suc n) earlier seen before s q m e =
        let k = bind_ok (read_key set a earlier before s) _ q e in
        let v = bind_ok (inner seen (suc before) k.0.1) _ q k.2 in
        let on : ℕ = suc (before + nodes v.0.0) in
        let ps = bind_ok (read_pairs set inner a n (k.0.0 ∷ earlier) (see seen v.0.0) on v.0.1) _ q v.2 in
        let gk = key_got a earlier before s k.0 k.1 in
        let gv = inner-got seen (suc before) k.0.1 v.0 v.1 in
        let gp = pairs_got a n (k.0.0 ∷ earlier) (see seen v.0.0) on v.0.1 ps.0 (omega (arith, gv.small)) ps.1 in
        subst (GotPairs a d earlier seen before s) (ok_same ps.2) (record {
          written = (k.0.1, v.0.1, gk.written, gv.written, gp.written);
          fresh = (gk.fresh, gv.fresh, gp.fresh);
          backward = (gv.backward, gp.backward);
          shallow = (gv.shallow, gp.shallow);
          small = omega (arith, gp.small);
        })

    head_as : (c : Container) (w : Spelling) (n m : ℕ) (a : Bool) (s r : List ℕ) → is_array c ≡ a → m ≡ n
        → ((l : ℕ) → set.form.head_text a l s ≡ ok ((c, (w, n)), r)) → (l : ℕ) → set.form.head_text (is_array c) l s ≡ ok ((c, (w, m)), r)
    head_as c w n m a s r e f h l = rw (e, f) (h l)

    branch_got : (a : Bool) (l : ℕ) (seen : Seen) (before : ℕ) (s s₀ : List ℕ) (q : Value × List ℕ) → before < set.terms.capacity
        → s₀ ≡ set.form.first (container_kind a) ∷ s → read_branch set inner a l seen before s ≡ ok q → Got (suc d) seen before s₀ q
    unfolding read_branch
    branch_got a l seen before s s₀ q m h e =
        let hd = bind_ok (set.form.head_text a l s) _ q e in
        let c : Container = hd.0.0.0 in
        let n : ℕ = hd.0.0.1.1 in
        let ps = bind_ok (read_pairs set inner (is_array c) n [] (see_branch seen) (suc before) hd.0.1) _ q hd.2 in
        let cl = bind_ok (expect l set.form.close ps.0.1) _ q ps.2 in
        let gp = pairs_got (is_array c) n [] (see_branch seen) (suc before) hd.0.1 ps.0 m ps.1 in
        let counted : count ps.0.0 ≡ n = pairs-count set inner (is_array c) n [] (see_branch seen) (suc before) hd.0.1 ps.0 ps.1 in
        let same : is_array c ≡ a = steady.container a l s hd.0 hd.1 in
        let i : suc d - 1 ≡ d = omega arith in
        subst (Got (suc d) seen before s₀) (ok_same cl.2) (record {
          written = (
            hd.0.1,
            ps.0.1,
            record {
              rest = s;
              here = h ∙ ap (λ (b : Bool). set.form.first (container_kind b) ∷ s) (sym same);
              text = head_as c hd.0.0.1.0 n (count ps.0.0) a s hd.0.1 same counted (λ m'. found_too (steady.head a s l m') hd.1);
            },
            gp.written,
            λ m'. found_too (expected l m' set.form.close ps.0.1) cl.1,
          );
          fresh = gp.fresh;
          backward = gp.backward;
          shallow = (omega arith, rw i gp.shallow);
          small = omega (arith, gp.small);
        })

    ref_got : (k : RefKind) (l : ℕ) (seen : Seen) (before : ℕ) (s s₀ : List ℕ) (q : Value × List ℕ) → before < set.terms.capacity
        → s₀ ≡ set.form.first (ref_kind k) ∷ s → read_reference set k l seen s ≡ ok q → Got (suc d) seen before s₀ q
    unfolding read_reference
    ref_got k l seen before s s₀ q m h e =
        let a = bind_ok (set.form.named_text l s) _ q e in
        let t : ℕ = a.0.0.1 in
        let b = bind_ok (require (ltb 0 t && leb t seen) 6 l) _ q a.2 in
        let r = require-ok (ltb 0 t && leb t seen) 6 l b.0 b.1 in
        subst (Got (suc d) seen before s₀) (ok_same b.2) (record {
          written = record { rest = s; here = h; text = λ m'. found_too (steady.named s l m') a.1 };
          fresh = tt;
          backward = (ltb→lt 0 t (and_left (ltb 0 t) (leb t seen) r), leb→le t seen (and_right (ltb 0 t) (leb t seen) r));
          shallow = omega arith;
          small = omega arith;
        })

    scalar_got : (k : Kind) → IsScalar k → (l : ℕ) (seen : Seen) (before : ℕ) (s s₀ : List ℕ) (q : Value × List ℕ) → before < set.terms.capacity
        → s₀ ≡ set.form.first k ∷ s → read_scalar set k l s ≡ ok q → Got (suc d) seen before s₀ q
    unfolding read_scalar
    scalar_got k i l seen before s s₀ q m h e =
        let a = bind_ok (set.form.scalar_text k l s) _ q e in
        subst (Got (suc d) seen before s₀) (ok_same a.2) (record {
          written = record { kind = k; scalar = i; rest = s; here = h; text = λ m'. found_too (steady.scalar k s l m') a.1 };
          fresh = tt;
          backward = tt;
          shallow = omega arith;
          small = omega arith;
        })

    body_got : (k : Kind) (l : ℕ) (seen : Seen) (before : ℕ) (s s₀ : List ℕ) (q : Value × List ℕ) → before < set.terms.capacity
        → s₀ ≡ set.form.first k ∷ s → read_body set inner k l seen before s ≡ ok q → Got (suc d) seen before s₀ q
    unfolding read_body
    body_got Kind.null l seen before s s₀ q m h e = scalar_got Kind.null null l seen before s s₀ q m h e
    body_got Kind.bool l seen before s s₀ q m h e = scalar_got Kind.bool bool l seen before s s₀ q m h e
    body_got Kind.int l seen before s s₀ q m h e = scalar_got Kind.int int l seen before s s₀ q m h e
    body_got Kind.float l seen before s s₀ q m h e = scalar_got Kind.float float l seen before s s₀ q m h e
    body_got Kind.string l seen before s s₀ q m h e = scalar_got Kind.string string l seen before s s₀ q m h e
    body_got Kind.array l seen before s s₀ q m h e = branch_got true l seen before s s₀ q m h e
    body_got Kind.object l seen before s s₀ q m h e = branch_got false l seen before s s₀ q m h e
    body_got Kind.object_reference l seen before s s₀ q m h e = ref_got object_ref l seen before s s₀ q m h e
    body_got Kind.variable_reference l seen before s s₀ q m h e = ref_got variable_ref l seen before s s₀ q m h e

  pub value_got : (d : ℕ) (seen : Seen) (before : ℕ) (s : List ℕ) (q : Value × List ℕ) → read_value set d seen before s ≡ ok q → Got d seen before s q
  value_got zero seen before s q e =
      let a = bind_ok (tag_of set.form.first kinds 3 (position set s) s) _ q e in
      absurd (not_both a.2)
  value_got (suc d) seen before s q e =
      let l : ℕ = position set s in
      let a = bind_ok (tag_of set.form.first kinds 3 l s) _ q e in
      let b = bind_ok (room_for set before l) _ q a.2 in
      body_got (read_value set d) d (λ t b' s' q' e'. value_got d t b' s' q' e') a.0.0 l seen before a.0.1 s q
      (ltb→lt before set.terms.capacity (require-ok (ltb before set.terms.capacity) 7 l b.0 b.1))
      (tag-chosen set.form.first kinds 3 l s a.0 a.1).is b.2

-- ---- whole sources
module _ (form : Form) (terms : Terms) (source : List ℕ) (v : Value) where
  -- EVERY WRITING OF A TREE THAT FITS IS ACCEPTED
  pub fits-accepted : Tagged form → FitsIn form terms source v → read_in form terms source ≡ ok v
  unfolding read_in
  fits-accepted tagged f =
      rw (
        le-leb (length source) source_limit f.short,
        value-accepted (setting_in form terms source) tagged v depth_limit unseen 0 source [] f.written f.fresh f.backward f.shallow
            (omega (arith, f.small)),
      )

  -- WHAT IS ACCEPTED IS A WRITING OF A TREE THAT FITS
  pub accepted-fits : Steady form → read_in form terms source ≡ ok v → FitsIn form terms source v
  unfolding read_in
  accepted-fits steady e =
      let set : Setting = setting_in form terms source in
      let n : ℕ = length source in
      let a = bind_ok (require (leb n source_limit) 1 0) _ v e in
      let b = bind_ok (read_value set depth_limit unseen 0 source) _ v a.2 in
      let c = bind_ok (require (is_empty b.0.1) 10 (position set b.0.1)) _ v b.2 in
      let g = value_got set steady depth_limit unseen 0 source b.0 b.1 in
      let none_left : b.0.1 ≡ [] = empty-ok b.0.1 (require-ok (is_empty b.0.1) 10 (position set b.0.1) c.0 c.1) in
      subst (FitsIn form terms source) (ok_same c.2) (record {
        short = leb→le n source_limit (require-ok (leb n source_limit) 1 0 a.0 a.1);
        written = subst (Writing form b.0.0 source) none_left g.written;
        fresh = g.fresh;
        backward = g.backward;
        shallow = g.shallow;
        small = omega (arith, g.small);
      })

  pub accepted_in : Tagged form → Steady form → (read_in form terms source ≡ ok v) ↔ FitsIn form terms source v
  accepted_in tagged steady = (accepted-fits steady, fits-accepted tagged)
