-- The texts of scalars and keys, as scanned. Assumes nothing.
use Rattle.std.proofs.Common.{◌≡◌, ℕ, Bool, true, List, sym, refl, subst, ⊎_elim}
use Rattle.format.specs.Bytes.{bytes}
use Rattle.format.specs.Kind.{Kind, is_tag_of, key_kinds, may_be_key, tag}
use Rattle.format.specs.Syntax.{int_key, string_key, int, string, Scalar, Literal, Quoted}
use Rattle.format.specs.Read.{int_text, quoted_text, key_text, scalar_text}
use Rattle.scanner.specs.Scans.{Scan, Scans, scalar_behind, literal_told, quoted_told, scalar_told}
use Rattle.scanner.proofs.Numbers.{scans-map, scans-back, scans-same}
use Rattle.reader.specs.Texts.{kind_for, is_array_tag, scalar_tag, key_told}
use Rattle.reader.proofs.Tagged.{one_of, key-any}

-- a scalar's tag decides its kind
pub scalar-behind : {s : List ℕ} {at b : ℕ} {r : Scan} → scalar_tag b → Scans (scalar_behind b) (scalar_told at) s at r
    → Scans (scalar_text (kind_for b)) (scalar_told at) s at r
unfolding scalar_behind kind_for
scalar-behind o h = scans-same
    (λ l s. ⊎_elim (λ e. rw e) (λ o. ⊎_elim (λ e. rw e) (λ o. ⊎_elim (λ e. rw e) (λ o. ⊎_elim (λ e. rw e) (λ o. ⊎_elim (λ e. rw e) (λ z. absurd z) o) o) o) o)
    o) h

module _ (a : Bool) (s : List ℕ) (at b : ℕ) (r : Scan) where
  as_key : (k : Kind) → kind_for b ≡ k → Scans (key_text a k) (key_told at) s at r → Scans (key_text a (kind_for b)) (key_told at) s at r
  as_key k e h = subst (λ (j : Kind). Scans (key_text a j) (key_told at) s at r) (sym e) h

  key-int : b ≡ tag Kind.int → Scans (scalar_behind b) (scalar_told at) s at r → Scans (key_text a (kind_for b)) (key_told at) s at r
  unfolding key_text kind_for scalar_behind scalar_text
  key-int e h = as_key Kind.int (rw e)
      (scans-map {read = int_text} int_key (λ l s. refl) (λ x next. refl)
      (scans-back {told = literal_told} int (λ x y i. same i) (λ l s. rw e) (λ x next. refl) h))
    where
      same : {x y : Literal} → ◌≡◌ {A = Scalar} (int x) (int y) → x ≡ y
      same i = cc

  key-string : b ≡ tag Kind.string → Scans (scalar_behind b) (scalar_told at) s at r → Scans (key_text a (kind_for b)) (key_told at) s at r
  unfolding key_text kind_for scalar_behind scalar_text
  key-string e h = as_key Kind.string (rw e)
      (scans-map {read = λ l. quoted_text l (bytes "\";")} string_key (λ l s. refl) (λ x next. refl)
      (scans-back {told = quoted_told at} string (λ x y i. same i) (λ l s. rw e) (λ x next. refl) h))
    where
      same : {x y : Quoted} → ◌≡◌ {A = Scalar} (string x) (string y) → x ≡ y
      same i = cc

  -- a key is scanned as the scalar that it would be
  pub key-behind : may_be_key b ≡ true → Scans (scalar_behind b) (scalar_told at) s at r → Scans (key_text a (kind_for b)) (key_told at) s at r
  key-behind m h = ⊎_elim (λ q. key-int q h) (λ o. ⊎_elim (λ q. key-string q h) (λ z. absurd z) o) (one_of (key_kinds true) b m)

-- a key's, where its container allows its tag
pub key-scanned : {s : List ℕ} {at : ℕ} {r : Scan} (container b : ℕ) → is_tag_of (key_kinds (is_array_tag container)) b ≡ true
    → Scans (scalar_behind b) (scalar_told at) s at r → Scans (key_text (is_array_tag container) (kind_for b)) (key_told at) s at r
key-scanned container b may h = key-behind _ _ _ _ _ (key-any (is_array_tag container) b may) h
