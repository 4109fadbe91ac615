-- Laws of answers. Assumes nothing.
use mathlib.Core.Path.{◌≡◌, refl, sym, ap₂}
use mathlib.Core.Logic.{◌⊎◌, inl, inr}
use mathlib.Core.Bool.{Bool, true, false}
use Prim.Native.Nat.{ℕ}
use native.Mathlib.Omega.{arith}
use lib.Dec.{T}
use Rattle.format.specs.Answer.{Answer, ok, refused, ◌>>=◌, require}

pub ok_same : {A : Type 0} {a b : A} → ok a ≡ ok b → a ≡ b
ok_same e = cc

pub refused-same : {A : Type 0} {n p m q : ℕ} → ◌≡◌ {A = Answer A} (refused n p) (refused m q) → (n ≡ m) × (p ≡ q)
refused-same e = (cc, cc)

pub not_both : {A : Type 0} {n p : ℕ} {a : A} → refused n p ≡ ok a → ⊥
not_both e = let z : ◌≡◌ {A = ℕ} 0 1 = cc in omega arith

-- where the whole is accepted each part is
pub bind_ok : {A B : Type 0} (a : Answer A) (f : A → Answer B) (b : B) → (a >>= f) ≡ ok b → (x : A) × (a ≡ ok x) × (f x ≡ ok b)
bind_ok (ok a) f b e = (a, refl, e)
bind_ok (refused n p) f b e = absurd (not_both e)

-- where the whole is refused, the first part is or the second
pub bind-refused : {A B : Type 0} (a : Answer A) (f : A → Answer B) (n p : ℕ) → (a >>= f) ≡ refused n p
    → (a ≡ refused n p) ⊎ ((x : A) × (a ≡ ok x) × (f x ≡ refused n p))
bind-refused (ok a) f n p e = inr (a, refl, e)
bind-refused (refused c q) f n p e = let s = refused-same e in inl (ap₂ refused s.0 s.1)

pub require-ok : (t : Bool) (n p : ℕ) (x : Unit {0}) → require t n p ≡ ok x → T t
require-ok true n p x e = tt
require-ok false n p x e = absurd (not_both e)

-- a test, by what came of it
pub test-passed : {A : Type 0} (t : Bool) (n p : ℕ) (a x : A) → ok x ≡ (require t n p >>= λ u. ok a) → (t ≡ true) × (x ≡ a)
test-passed true n p a x e = (refl, ok_same e)
test-passed false n p a x e = absurd (not_both (sym e))

pub test-failed : {A : Type 0} (t : Bool) (n p m q : ℕ) (a : A) → refused m q ≡ (require t n p >>= λ u. ok a) → (t ≡ false) × (m ≡ n) × (q ≡ p)
test-failed true n p m q a e = absurd (not_both e)
test-failed false n p m q a e = let s = refused-same e in (refl, s.0, s.1)

-- what is made of what was made
pub bind-map : {A B C : Type 0} (a : Answer A) (f : A → B) (g : B → C) → (a >>= λ x. ok (g (f x))) ≡ ((a >>= λ x. ok (f x)) >>= λ y. ok (g y))
bind-map (ok a) f g = refl
bind-map (refused c p) f g = refl
