-- What the refusals of services that write a plan have in common: rows told step by step, and 14. Assumes nothing.
use mathlib.Core.Path.{◌≡◌, refl, sym, subst}
use mathlib.Core.Logic.{◌⊎◌, inl, inr}
use mathlib.Core.Bool.{Bool, true, false, ◌&&◌}
use Prim.Native.Nat.{ℕ, ◌<◌}
use native.Mathlib.Omega.{arith}
use lib.Dec.{not_T, leb, leb→le}
use borrow.Author.Tests.{leb-false, lt-leb}
use Rattle.decimal.proofs.Decide.{Test, passed, failed, test, T_false, and_right}
use Rattle.format.specs.Limits.{source_limit}
use Rattle.format.specs.Answer.{Answer, ok, refused, ◌>>=◌, require}
use Rattle.format.specs.Writing.{fits_in}

-- ---- a refusal has its row, and what is not refused has passed the steps
pub data Told {A : Type 0} (Row : (code at : ℕ) → Type 0) (Passed : A → Type 0) : Answer A → Type 0 where
  through : (x : A) → Passed x → Told Row Passed (ok x)
  stopped : (n p : ℕ) → Row n p → Told Row Passed (refused n p)

module _ {B : Type 0} {Row : (code at : ℕ) → Type 0} {Passed : B → Type 0} where
  pub row_of : {n p : ℕ} → Told Row Passed (refused n p) → Row n p
  row_of (stopped n p r) = r

  pub passed-of : {x : B} → Told Row Passed (ok x) → Passed x
  passed-of (through x h) = h

  pub bind : {A : Type 0} (a : Answer A) (f : A → Answer B) → ((n p : ℕ) → a ≡ refused n p → Row n p) → ((x : A) → a ≡ ok x → Told Row Passed (f x))
      → Told Row Passed (a >>= f)
  bind (ok x) f h g = g x refl
  bind (refused n p) f h g = stopped n p (h n p refl)

  pub ask : (t : Bool) (n p : ℕ) (f : Unit {0} → Answer B) → (t ≡ false → Row n p) → (t ≡ true → Told Row Passed (f tt)) → Told Row Passed (require t n p >>= f)
  ask true n p f h g = g refl
  ask false n p f h g = stopped n p (h refl)

pub numbered : (Row : (code at : ℕ) → Type 0) (n p m : ℕ) → (n ≡ m) × (p ≡ 0) → Row m 0 → Row n p
numbered Row n p m e r = subst (λ (q : ℕ). Row q p) (sym e.0) (subst (Row m) (sym e.1) r)

-- ---- 14
module _ (room : ℕ) where
  pub too_long : (n : ℕ) → fits_in room n ≡ false → (room < n) ⊎ (source_limit < n)
  too_long n e = go (test (leb n room))
    where
      go : Test (leb n room) → (room < n) ⊎ (source_limit < n)
      go (passed t) = inr (leb-false n source_limit (rw (t, ◌&&◌) at e))
      go (failed t) = inl (leb-false n room t)

  pub refuses-bytes : (n : ℕ) → (room < n) ⊎ (source_limit < n) → fits_in room n ≡ false
  refuses-bytes n (inl h) = rw (lt-leb n room h, ◌&&◌)
  refuses-bytes n (inr h) =
      T_false (fits_in room n) (not_T (fits_in room n) (λ t. let m = leb→le n source_limit (and_right (leb n room) (leb n source_limit) t) in omega arith))
