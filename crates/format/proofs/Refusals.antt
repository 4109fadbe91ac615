-- What a refusal of reading may be: a number of paper 01's table, and a position in the plan or at its end. Assumes nothing.
use mathlib.Core.Path.{◌≡◌, refl, subst}
use mathlib.Core.List.{List, [], ◌∷◌}
use mathlib.Core.Bool.{Bool, true, false, ◌&&◌, not}
use Prim.Native.Nat.{ℕ, zero, suc, ◌+◌, ◌≤◌, ◌<◌}
use native.Mathlib.Omega.{arith}
use lib.Dec.{ltb, leb, eqb}
use lib.ListN.{length}
use Rattle.decimal.proofs.Decide.{Test, passed, failed, test}
use Rattle.format.specs.Bytes.{is_empty}
use Rattle.format.specs.Kind.{Kind, kinds, key_kinds}
use Rattle.format.specs.Tree.{nodes}
use Rattle.format.specs.Syntax.{Key, RefKind, object_ref, variable_ref}
use Rattle.format.specs.Keys.{has_key}
use Rattle.format.specs.Limits.{source_limit, depth_limit, Terms, Seen, unseen, see_branch, see}
use Rattle.format.specs.Answer.{Answer, ok, refused, ◌>>=◌, require}
use Rattle.format.specs.Reading.{RefusalRow}
use Rattle.format.specs.Read.{expect, Form, plan_form, kind_of, tag_of, Setting, setting_in, position, is_array, Inner, read_key, read_pairs, read_branch}
use Rattle.format.specs.Read.{read_reference, read_scalar, read_body, read_value, read_in, read}
use Rattle.format.proofs.Forms.{AtTag, found, unfit, Steady, expected}
use Rattle.format.proofs.PlanForm.{plan-steady}

module _ (size : ℕ) where
  abbrev pub Proper : {A : Type 0} → Answer A → Type 0
  Proper (ok a) = Unit {0}
  Proper (refused n p) = RefusalRow size n p

  bind : {A B : Type 0} (a : Answer A) (f : A → Answer B) → Proper a → ((x : A) → Proper (f x)) → Proper (a >>= f)
  bind (ok x) f h g = g x
  bind (refused n p) f h g = h

  ask : {B : Type 0} (t : Bool) (n p : ℕ) (f : Unit {0} → Answer B) → RefusalRow size n p → ((x : Unit {0}) → Proper (f x)) → Proper (require t n p >>= f)
  ask true n p f r g = g tt
  ask false n p f r g = r

  two : (p : ℕ) → p ≤ size → RefusalRow size 2 p
  two p h = record { least = omega arith; most = omega arith; start = λ e. omega arith; inside = h; byte = λ e. omega arith }

  -- behind or at a tag at `l`
  module _ (l : ℕ) (h : l < size) where
    row : (n : ℕ) → 2 ≤ n → n ≤ 10 → RefusalRow size n l
    row n a b = record { least = omega arith; most = b; start = λ e. omega arith; inside = omega arith; byte = λ e. h }

    tagged : (first : Kind → ℕ) (ks : List Kind) (n b : ℕ) → 2 ≤ n → n ≤ 10 → Proper (kind_of first ks n l b)
    tagged first [] n b lo hi = row n lo hi
    tagged first (j ∷ js) n b lo hi = go (test (eqb (first j) b)) (tagged first js n b lo hi)
      where
        go : Test (eqb (first j) b) → Proper (kind_of first js n l b) → Proper (kind_of first (j ∷ js) n l b)
        go (passed t) r = rw (t, kind_of) tt
        go (failed t) r = rw (t, kind_of) r

    -- a text is refused with 2 to 10, at its tag
    text : {A : Type 0} {a : Answer A} → AtTag l l a a → Proper a
    text (found x e f) = rw e tt
    text (unfit n lo hi e f) = rw e (row n lo hi)

-- ---- values and pairs
module _ (set : Setting) (steady : Steady set.form) where
  abbrev Ok : {A : Type 0} → Answer A → Type 0
  Ok a = Proper set.size a

  -- some bytes are left, so their first is a byte of the plan
  module _ (some : 0 < set.size) where
    here : (b : ℕ) (s : List ℕ) → position set (b ∷ s) < set.size
    here b s = omega arith

    tag_proper : (ks : List Kind) (n b : ℕ) (s : List ℕ) → 2 ≤ n → n ≤ 10 → Ok (tag_of set.form.first ks n (position set (b ∷ s)) (b ∷ s))
    tag_proper ks n b s lo hi =
        let l : ℕ = position set (b ∷ s) in
        bind set.size (kind_of set.form.first ks n l b) _ (tagged set.size l (here b s) set.form.first ks n b lo hi) (λ k. tt)

    read_key_proper : (of_array : Bool) (earlier : List Key) (before : ℕ) (s : List ℕ) → Ok (read_key set of_array earlier before s)
    unfolding read_key
    read_key_proper of_array earlier before [] = two set.size (position set []) (omega arith)
    read_key_proper of_array earlier before (b ∷ s) =
        let l : ℕ = position set (b ∷ s) in
        bind set.size (tag_of set.form.first (key_kinds of_array) 4 l (b ∷ s)) _ (tag_proper (key_kinds of_array) 4 b s (omega arith) (omega arith)) (λ k.
        ask set.size (ltb before set.terms.capacity) 7 l _ (row set.size l (here b s) 7 (omega arith) (omega arith)) (λ u.
        bind set.size (set.form.key_text of_array k.0 l k.1) _ (text set.size l (here b s) (steady.key of_array k.0 k.1 l l)) (λ x.
        ask set.size (not (has_key x.0 earlier)) 9 l _ (row set.size l (here b s) 9 (omega arith) (omega arith)) (λ w. tt))))

    module _ (inner : Inner) (deeper : (seen : Seen) (before : ℕ) (s : List ℕ) → Ok (inner seen before s)) where
      pairs_proper : (of_array : Bool) (n : ℕ) (earlier : List Key) (seen : Seen) (before : ℕ) (s : List ℕ)
          → Ok (read_pairs set inner of_array n earlier seen before s)
      pairs_proper of_array zero earlier seen before s = tt
      pairs_proper of_array (suc n) earlier seen before s =
          bind set.size (read_key set of_array earlier before s) _ (read_key_proper of_array earlier before s) (λ k.
          bind set.size (inner seen (suc before) k.1) _ (deeper seen (suc before) k.1) (λ v.
          bind set.size (read_pairs set inner of_array n (k.0 ∷ earlier) (see seen v.0) (suc (before + nodes v.0)) v.1) _
          (pairs_proper of_array n (k.0 ∷ earlier) (see seen v.0) (suc (before + nodes v.0)) v.1) (λ ps. tt)))

      -- behind the tag of a value
      module _ (l : ℕ) (h : l < set.size) where
        branch_proper : (of_array : Bool) (seen : Seen) (before : ℕ) (s : List ℕ) → Ok (read_branch set inner of_array l seen before s)
        unfolding read_branch
        branch_proper of_array seen before s =
            bind set.size (set.form.head_text of_array l s) _ (text set.size l h (steady.head of_array s l l)) (λ c.
            bind set.size (read_pairs set inner (is_array c.0.0) c.0.1.1 [] (see_branch seen) (suc before) c.1) _
            (pairs_proper (is_array c.0.0) c.0.1.1 [] (see_branch seen) (suc before) c.1) (λ ps.
            bind set.size (expect l set.form.close ps.1) _ (text set.size l h (expected l l set.form.close ps.1)) (λ s₃. tt)))

        reference_proper : (k : RefKind) (seen : Seen) (s : List ℕ) → Ok (read_reference set k l seen s)
        unfolding read_reference
        reference_proper k seen s =
            bind set.size (set.form.named_text l s) _ (text set.size l h (steady.named s l l)) (λ n.
            ask set.size (ltb 0 n.0.1 && leb n.0.1 seen) 6 l _ (row set.size l h 6 (omega arith) (omega arith)) (λ d. tt))

        read_scalar_proper : (k : Kind) (s : List ℕ) → Ok (read_scalar set k l s)
        unfolding read_scalar
        read_scalar_proper k s = bind set.size (set.form.scalar_text k l s) _ (text set.size l h (steady.scalar k s l l)) (λ x. tt)

        body_proper : (k : Kind) (seen : Seen) (before : ℕ) (s : List ℕ) → Ok (read_body set inner k l seen before s)
        unfolding read_body
        body_proper Kind.null seen before s = read_scalar_proper Kind.null s
        body_proper Kind.bool seen before s = read_scalar_proper Kind.bool s
        body_proper Kind.int seen before s = read_scalar_proper Kind.int s
        body_proper Kind.float seen before s = read_scalar_proper Kind.float s
        body_proper Kind.string seen before s = read_scalar_proper Kind.string s
        body_proper Kind.array seen before s = branch_proper true seen before s
        body_proper Kind.object seen before s = branch_proper false seen before s
        body_proper Kind.object_reference seen before s = reference_proper object_ref seen s
        body_proper Kind.variable_reference seen before s = reference_proper variable_ref seen s

    value_proper : (d : ℕ) (seen : Seen) (before : ℕ) (s : List ℕ) → Ok (read_value set d seen before s)
    value_proper zero seen before [] = two set.size (position set []) (omega arith)
    value_proper (suc d) seen before [] = two set.size (position set []) (omega arith)
    value_proper zero seen before (b ∷ s) =
        let l : ℕ = position set (b ∷ s) in
        bind set.size (tag_of set.form.first kinds 3 l (b ∷ s)) _ (tag_proper kinds 3 b s (omega arith) (omega arith))
        (λ k. row set.size l (here b s) 8 (omega arith) (omega arith))
    value_proper (suc d) seen before (b ∷ s) =
        let l : ℕ = position set (b ∷ s) in
        bind set.size (tag_of set.form.first kinds 3 l (b ∷ s)) _ (tag_proper kinds 3 b s (omega arith) (omega arith)) (λ k.
        ask set.size (ltb before set.terms.capacity) 7 l _ (row set.size l (here b s) 7 (omega arith) (omega arith)) (λ u.
        body_proper (read_value set d) (λ x y z. value_proper d x y z) l (here b s) k.0 seen before k.1))

-- the first byte behind the plan
behind : {B : Type 0} (set : Setting) (s : List ℕ) (f : Unit {0} → Answer B) → 0 < set.size → ((x : Unit {0}) → Proper set.size (f x))
    → Proper set.size (require (is_empty s) 10 (position set s) >>= f)
behind set [] f h g = g tt
behind set (b ∷ s) f h g = row set.size (position set (b ∷ s)) (omega arith) 10 (omega arith) (omega arith)

one : (size : ℕ) → RefusalRow size 1 0
one size = record { least = omega arith; most = omega arith; start = λ e. refl; inside = omega arith; byte = λ e. omega arith }

read_proper : (form : Form) → Steady form → (terms : Terms) (source : List ℕ) → Proper (length source) (read_in form terms source)
unfolding read_in
read_proper form steady terms [] = two 0 0 (omega arith)
read_proper form steady terms (b ∷ s) =
    let set : Setting = setting_in form terms (b ∷ s) in
    ask set.size (leb set.size source_limit) 1 0 _ (one set.size) (λ u.
    bind set.size (read_value set depth_limit unseen 0 (b ∷ s)) _ (value_proper set steady (omega arith) depth_limit unseen 0 (b ∷ s)) (λ v.
    behind set v.1 _ (omega arith) (λ w. tt)))

-- "A refusal returns its number and a position": of reading in any form, 1 to 10, and where the table's last column may point
pub refusal_proper_in : (form : Form) → Steady form → (terms : Terms) (source : List ℕ) (n p : ℕ) → read_in form terms source ≡ refused n p
    → RefusalRow (length source) n p
refusal_proper_in form steady terms source n p e = subst (Proper (length source)) e (read_proper form steady terms source)

pub refusal_proper : (terms : Terms) (source : List ℕ) (n p : ℕ) → read terms source ≡ refused n p → RefusalRow (length source) n p
refusal_proper terms source n p e = refusal_proper_in plan_form plan-steady terms source n p e
