-- No float text holds a `;`, so the first one ends it. Assumes nothing.
use mathlib.Core.Path.{◌≡◌, refl, sym, ap, subst}
use mathlib.Core.List.{List, [], ◌∷◌, ◌++◌}
use mathlib.Core.Bool.{Bool, true, false, ◌&&◌, ◌||◌, not}
use Prim.Native.Nat.{ℕ, ◌+◌, ◌≤◌}
use native.Mathlib.Omega.{arith}
use lib.Dec.{T, ltb, eqb, eqb→eq}
use lib.ListN.{length, drop}
use borrow.Author.Tests.{ne_eqb}
use Rattle.decimal.specs.Digits.{is_digit, digits_of, after_digits}
use Rattle.decimal.proofs.Decide.{Test, passed, failed, test, T_of, T_false, and_T, and_left, and_right}
use Rattle.decimal.proofs.Numerals.{are_digits, digit_high, digits_are, digits-split}
use Rattle.format.specs.Bytes.{byte, bytes, is_empty, same_bytes}
use Rattle.format.specs.Syntax.{Sign, unsigned, plus, minus, write_sign}
use Rattle.format.specs.Limits.{sign_of, is_exponent, fraction_of, is_decimal, is_float}
use Rattle.format.specs.Read.{until}
use Rattle.format.proofs.Keys.{bytes-equal}

-- ---- texts, taken apart
pub empty-ok : (s : List ℕ) → T (is_empty s) → s ≡ []
empty-ok [] t = refl
empty-ok (b ∷ s) t = absurd t

pub or_cases : (a b : Bool) (P : Type 0) → (T a → P) → (T b → P) → T (a || b) → P
or_cases true b P f g h = f tt
or_cases false b P f g h = g h

-- the sign in front is what it was written as
pub sign-split : (s : List ℕ) → s ≡ write_sign (sign_of s).0 (sign_of s).1
sign-split [] = refl
sign-split (b ∷ s) = go (test (eqb (byte "+") b)) (test (eqb (byte "-") b))
  where
    go : Test (eqb (byte "+") b) → Test (eqb (byte "-") b) → b ∷ s ≡ write_sign (sign_of (b ∷ s)).0 (sign_of (b ∷ s)).1
    go (passed t) u = rw (t, sign_of) (ap (λ (x : ℕ). x ∷ s) (sym (eqb→eq (byte "+") b (T_of t))))
    go (failed t) (passed u) = rw (t, sign_of, u) (ap (λ (x : ℕ). x ∷ s) (sym (eqb→eq (byte "-") b (T_of u))))
    go (failed t) (failed u) = rw (t, sign_of, u)

-- ---- texts with no `;`
abbrev pub no_semicolon : List ℕ → Bool
no_semicolon [] = true
no_semicolon (b ∷ s) = not (eqb (byte ";") b) && no_semicolon s

pub until-semicolon : (t r : List ℕ) → T (no_semicolon t) → until (byte ";") (t ++ (byte ";" ∷ r)) ≡ t
until-semicolon [] r h = refl
until-semicolon (b ∷ t) r h =
    rw (
      T_false (eqb (byte ";") b) (and_left (not (eqb (byte ";") b)) (no_semicolon t) h),
      until,
      until-semicolon t r (and_right (not (eqb (byte ";") b)) (no_semicolon t) h),
    )

pub until-split : (s : List ℕ) → s ≡ until (byte ";") s ++ drop (length (until (byte ";") s)) s
until-split [] = refl
until-split (b ∷ s) = go (test (eqb (byte ";") b)) (until-split s)
  where
    go : Test (eqb (byte ";") b) → s ≡ until (byte ";") s ++ drop (length (until (byte ";") s)) s
        → b ∷ s ≡ until (byte ";") (b ∷ s) ++ drop (length (until (byte ";") (b ∷ s))) (b ∷ s)
    go (passed t) r = rw (t, until)
    go (failed t) r = rw (t, until) (ap {B = List ℕ} (λ x. b ∷ x) r)

none-append : (s t : List ℕ) → T (no_semicolon s) → T (no_semicolon t) → T (no_semicolon (s ++ t))
none-append [] t p q = q
none-append (b ∷ s) t p q =
    and_T (not (eqb (byte ";") b)) (no_semicolon (s ++ t)) (and_left (not (eqb (byte ";") b)) (no_semicolon s) p)
    (none-append s t (and_right (not (eqb (byte ";") b)) (no_semicolon s) p) q)

none_cons : (b : ℕ) (s : List ℕ) → (59 ≡ b → ⊥) → T (no_semicolon s) → T (no_semicolon (b ∷ s))
none_cons b s n h = rw (ne_eqb 59 b n) h

none-digits : (s : List ℕ) → T (are_digits s) → T (no_semicolon s)
none-digits [] h = tt
none-digits (b ∷ s) h =
    let hi : b ≤ 57 = digit_high b (and_left (is_digit b) (are_digits s) h) in
    none_cons b s (λ e. omega arith) (none-digits s (and_right (is_digit b) (are_digits s) h))

-- a run of digits and a text without `;`
none_run : (s : List ℕ) → T (no_semicolon (after_digits s)) → T (no_semicolon s)
none_run s h = subst (λ (x : List ℕ). T (no_semicolon x)) (sym (digits-split s))
    (none-append (digits_of s) (after_digits s) (none-digits (digits_of s) (digits_are s)) h)

none-sign : (k : Sign) (s : List ℕ) → T (no_semicolon s) → T (no_semicolon (write_sign k s))
none-sign unsigned s h = h
none-sign plus s h = h
none-sign minus s h = h

none-signed : (s : List ℕ) → T (no_semicolon (sign_of s).1) → T (no_semicolon s)
none-signed s h = subst (λ (x : List ℕ). T (no_semicolon x)) (sym (sign-split s)) (none-sign (sign_of s).0 (sign_of s).1 h)

none-exponent : (s : List ℕ) → T (is_exponent s) → T (no_semicolon s)
none-exponent [] h = tt
none-exponent (b ∷ s) h =
    let e : Bool = eqb (byte "e") b || eqb (byte "E") b in
    let d : Bool = ltb 0 (length (digits_of (sign_of s).1)) in
    let z : Bool = is_empty (after_digits (sign_of s).1) in
    let front : T (e && d) = and_left (e && d) z h in
    none_cons b s
    (λ q. or_cases (eqb (byte "e") b) (eqb (byte "E") b) ⊥ (λ t. omega (arith, eqb→eq (byte "e") b t)) (λ t. omega (arith, eqb→eq (byte "E") b t))
    (and_left e d front))
    (none-signed s (none_run (sign_of s).1 (rw (empty-ok (after_digits (sign_of s).1) (and_right (e && d) z h)) tt)))

none-fraction : (s : List ℕ) → T (is_exponent (fraction_of s).1) → T (no_semicolon s)
none-fraction [] h = tt
none-fraction (b ∷ s) h = go (test (eqb (byte ".") b))
  where
    go : Test (eqb (byte ".") b) → T (no_semicolon (b ∷ s))
    go (passed t) = none_cons b s (λ q. omega (arith, eqb→eq (byte ".") b (T_of t))) (none_run s (none-exponent (after_digits s) (rw (t, fraction_of) at h)))
    go (failed t) = none-exponent (b ∷ s) (rw (t, fraction_of) at h)

none-decimal : (s : List ℕ) → T (is_decimal s) → T (no_semicolon s)
none-decimal s h = none_run s
    (none-fraction (after_digits s)
    (and_right (ltb 0 (length (digits_of s) + length (fraction_of (after_digits s)).0)) (is_exponent (fraction_of (after_digits s)).1) h))

-- NO FLOAT TEXT HOLDS A `;`
pub float-semicolon : (t : List ℕ) → T (is_float t) → T (no_semicolon t)
unfolding is_float
float-semicolon t h =
    or_cases (same_bytes t (bytes "INF") || same_bytes t (bytes "-INF") || same_bytes t (bytes "NAN")) (is_decimal (sign_of t).1) (T (no_semicolon t))
    (λ u. or_cases (same_bytes t (bytes "INF") || same_bytes t (bytes "-INF")) (same_bytes t (bytes "NAN")) (T (no_semicolon t))
    (λ v. or_cases (same_bytes t (bytes "INF")) (same_bytes t (bytes "-INF")) (T (no_semicolon t)) (λ w. rw (bytes-equal t (bytes "INF") w) tt)
    (λ w. rw (bytes-equal t (bytes "-INF") w) tt) v)
    (λ v. rw (bytes-equal t (bytes "NAN") v) tt) u)
    (λ u. none-signed t (none-decimal (sign_of t).1 u)) h
