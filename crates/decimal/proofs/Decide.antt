-- Tests as facts: what a proof by cases on a comparison goes by. Assumes nothing.
use Rattle.std.proofs.Common.{◌≡◌, ℕ, ◌<◌, ◌≤◌, Bool, true, false, not, ◌&&◌, T, ltb, sym, refl, subst, ltb-false, ltb-true}

-- a test with its answer
pub data Test (b : Bool) : Type 0 where
  passed : b ≡ true → Test b
  failed : b ≡ false → Test b

pub test : (b : Bool) → Test b
test true = passed refl
test false = failed refl

pub T_of : {b : Bool} → b ≡ true → T b
T_of e = subst T (sym e) tt

pub T_true : (b : Bool) → T b → b ≡ true
T_true true t = refl
T_true false t = absurd t

pub T_false : (b : Bool) → T (not b) → b ≡ false
T_false true t = absurd t
T_false false t = refl

pub and_T : (a b : Bool) → T a → T b → T (a && b)
and_T true b p q = q
and_T false b p q = absurd p

pub and_left : (a b : Bool) → T (a && b) → T a
and_left true b p = tt
and_left false b p = absurd p

pub and_right : (a b : Bool) → T (a && b) → T b
and_right true b p = p
and_right false b p = absurd p

-- two numbers, one below the other or not
pub data Order (m n : ℕ) : Type 0 where
  below : m < n → Order m n
  above : n ≤ m → Order m n

order-go : (m n : ℕ) → Test (ltb m n) → Order m n
order-go m n (passed e) = below (ltb-true m n e)
order-go m n (failed e) = above (ltb-false m n e)

pub order : (m n : ℕ) → Order m n
order m n = order-go m n (test (ltb m n))
