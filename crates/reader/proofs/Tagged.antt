-- Laws of tags and the kinds that they are of. Assumes nothing.
use Rattle.std.proofs.Common.{◌≡◌, ℕ, ◌+◌, ◌-◌, ◌<◌, ◌≤◌, Bool, true, false, T, eqb, List, [], ◌∷◌, length, get_or, drop, sym, refl, ap, ◌∙◌, inl}
use Rattle.std.proofs.Common.{inr, ⊎_elim, true≢false, add-one, arith, length-drop, drop_of_length-le, drop-cons, eq-eqb, ne_eqb, eqb-true}
use borrow.Author.Tests.{eqb-false}
use Rattle.decimal.proofs.Decide.{Test, passed, failed, test, T_true, and_left, and_right}
use Rattle.format.specs.Kind.{Kind, kinds, tag, is_tag_of, key_kinds, may_be_key}
use Rattle.format.specs.Answer.{ok, refused, ◌>>=◌}
use Rattle.format.specs.Read.{kind_of, tag_of}
use Rattle.format.proofs.Tags.{Rest, all, rest_not}
use Rattle.reader.specs.Texts.{among, kind_for, OneOf}

-- the position of what is left
pub position-is : (s : List ℕ) (i : ℕ) → i ≤ length s → length s - length (drop i s) ≡ i
position-is s i h = omega (arith, length-drop i s)

-- ---- some kinds

first-is : (k : Kind) (b : ℕ) → eqb b (tag k) ≡ true → eqb (tag k) b ≡ true
first-is k b e = eq-eqb (tag k) b (sym (eqb-true b (tag k) e))

first_not : (k : Kind) (b : ℕ) → eqb b (tag k) ≡ false → eqb (tag k) b ≡ false
first_not k b e = ne_eqb (tag k) b (λ q. eqb-false b (tag k) e (sym q))

-- a tag of one of them is its kind's, and any other is refused
kind_yes : (ks : List Kind) (code at b : ℕ) → is_tag_of ks b ≡ true → kind_of tag ks code at b ≡ ok (among ks b)
kind_yes [] code at b e = absurd (true≢false (sym e))
kind_yes (k ∷ ks) code at b e = go (test (eqb b (tag k))) (λ d. kind_yes ks code at b d)
  where
    go : Test (eqb b (tag k)) → (is_tag_of ks b ≡ true → kind_of tag ks code at b ≡ ok (among ks b)) → kind_of tag (k ∷ ks) code at b ≡ ok (among (k ∷ ks) b)
    go (passed t) r = rw (first-is k b t, kind_of, among)
    go (failed t) r = rw (first_not k b t, kind_of, among) (r (rw t at e))

kind-no : (ks : List Kind) (code at b : ℕ) → is_tag_of ks b ≡ false → kind_of tag ks code at b ≡ refused code at
kind-no [] code at b e = refl
kind-no (k ∷ ks) code at b e = go (test (eqb b (tag k))) (λ d. kind-no ks code at b d)
  where
    go : Test (eqb b (tag k)) → (is_tag_of ks b ≡ false → kind_of tag ks code at b ≡ refused code at) → kind_of tag (k ∷ ks) code at b ≡ refused code at
    go (passed t) r = absurd (true≢false (rw t at e))
    go (failed t) r = rw (first_not k b t, kind_of) (r (rw t at e))

pub one_of : (ks : List Kind) (b : ℕ) → is_tag_of ks b ≡ true → OneOf ks b
one_of [] b e = true≢false (sym e)
one_of (k ∷ ks) b e = go (test (eqb b (tag k))) (λ d. one_of ks b d)
  where
    go : Test (eqb b (tag k)) → (is_tag_of ks b ≡ true → OneOf ks b) → OneOf (k ∷ ks) b
    go (passed t) r = inl (eqb-true b (tag k) t)
    go (failed t) r = inr (r (rw t at e))

-- what every tag of them is
pub passes : (p : ℕ → Bool) (ks : List Kind) (b : ℕ) → T (all ks p) → OneOf ks b → p b ≡ true
passes p [] b w o = absurd o
passes p (k ∷ ks) b w o =
    ⊎_elim (λ e. ap p e ∙ T_true (p (tag k)) (and_left (p (tag k)) (all ks p) w)) (passes p ks b (and_right (p (tag k)) (all ks p) w)) o

not_one : (ks : List Kind) (b : ℕ) → is_tag_of ks b ≡ false → OneOf ks b → ⊥
not_one (k ∷ ks) b e o = go (test (eqb b (tag k))) (λ d q. not_one ks b d q)
  where
    go : Test (eqb b (tag k)) → (is_tag_of ks b ≡ false → OneOf ks b → ⊥) → ⊥
    go (passed t) r = true≢false (rw t at e)
    go (failed t) r = ⊎_elim (eqb-false b (tag k) t) (r (rw t at e)) o
not_one [] b e o = o

-- ---- the tag at an index

pub tag-end : (ks : List Kind) (code l : ℕ) (s : List ℕ) (i : ℕ) → length s ≤ i → tag_of tag ks code l (drop i s) ≡ refused 2 l
tag-end ks code l s i h = ap (tag_of tag ks code l) (drop_of_length-le s h)

tag-here : (ks : List Kind) (code l : ℕ) (s : List ℕ) (i : ℕ) → i < length s
    → tag_of tag ks code l (drop i s) ≡ (kind_of tag ks code l (get_or s i 0) >>= λ k. ok (k, drop (i + 1) s))
tag-here ks code l s i h = ap (tag_of tag ks code l) (drop-cons s i 0 h ∙ ap (λ (k : ℕ). get_or s i 0 ∷ drop k s) (sym (add-one i)))

module _ (ks : List Kind) (code l : ℕ) (s : List ℕ) (i b : ℕ) (h : i < length s) (q : get_or s i 0 ≡ b) where
  pub tag-other : is_tag_of ks b ≡ false → tag_of tag ks code l (drop i s) ≡ refused code l
  tag-other e = tag-here ks code l s i h ∙ rw (q, kind-no ks code l b e)

  pub tag_is : is_tag_of ks b ≡ true → tag_of tag ks code l (drop i s) ≡ ok (among ks b, drop (i + 1) s)
  tag_is e = tag-here ks code l s i h ∙ rw (q, kind_yes ks code l b e)

-- ---- the kinds of keys

key-kind : (a : Bool) (b : ℕ) → OneOf (key_kinds a) b → among (key_kinds a) b ≡ kind_for b
unfolding kind_for
key-kind true b o = ⊎_elim (λ e. rw e) (λ o. ⊎_elim (λ e. rw e) (λ z. absurd z) o) o
key-kind false b o = ⊎_elim (λ e. rw e) (λ z. absurd z) o

pub key-kind-is : (a : Bool) (b : ℕ) → is_tag_of (key_kinds a) b ≡ true → among (key_kinds a) b ≡ kind_for b
key-kind-is a b e = key-kind a b (one_of (key_kinds a) b e)

-- what may be a key of some container may be one of an array
pub key-any : (a : Bool) (b : ℕ) → is_tag_of (key_kinds a) b ≡ true → may_be_key b ≡ true
key-any true b e = e
key-any false b e = ⊎_elim (λ q. rw q) (λ z. absurd z) (one_of (key_kinds false) b e)

-- ---- the choice among the nine

-- the arms of the code's match: the compiler puts their tags in the order of their numbers
abbrev pub scalar_arm : List Kind
scalar_arm = Kind.null ∷ Kind.bool ∷ Kind.float ∷ Kind.int ∷ Kind.string ∷ []

abbrev pub container_arm : List Kind
container_arm = Kind.object ∷ Kind.array ∷ []

abbrev pub reference_arm : List Kind
reference_arm = Kind.variable_reference ∷ Kind.object_reference ∷ []

pub none-chosen : (b : ℕ) → Rest (reference_arm ∷ container_arm ∷ scalar_arm ∷ []) b → is_tag_of kinds b ≡ false
none-chosen b r = sym (rest_not kinds (reference_arm ∷ container_arm ∷ scalar_arm ∷ []) b tt r)
