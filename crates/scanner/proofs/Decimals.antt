-- Laws of decimals that end at a semicolon. Assumes nothing.
use Prim.Native.Nat.{ℕ, suc, ◌+◌, ◌<◌}
use native.Mathlib.Omega.{arith}
use mathlib.Core.Path.{◌≡◌, refl, sym, ap, ◌∙◌}
use mathlib.Core.Bool.{Bool, true, false, ◌&&◌, ◌||◌}
use mathlib.Core.List.{List, [], ◌∷◌}
use lib.Dec.{eqb, lit<}
use lib.ListN.{length, get_or, drop, drop_of_length-le}
use lib.Seq.{drop-cons}
use borrow.Author.Tests.{eqb-true, lt-ltb}
use Rattle.decimal.specs.Digits.{digits_of, after_digits}
use Rattle.decimal.specs.Promise.{RunAt}
use Rattle.decimal.specs.declared.Run.{Run}
use Rattle.decimal.proofs.Decide.{Order, below, above, order, Test, passed, failed, test}
use Rattle.format.specs.Bytes.{byte, bytes, same_bytes}
use Rattle.format.specs.Limits.{sign_of, fraction_of, is_float, is_decimal, is_exponent}
use Rattle.format.specs.Read.{until}
use Rattle.bytes_at.specs.ByteAt.{byte_at}
use Rattle.bytes_at.proofs.BytesAt.{byte_in, byte-there, byte-other, drop-byte}
use Rattle.scanner.specs.Parts.{Passed, SemicolonAt, ExponentEnd, PlainEnd}
use Rattle.scanner.proofs.Floats.{passed_none, passed-on, semicolon-here, semicolon-on}
use Rattle.scanner.proofs.PlainFloats.{until_digits, until-stop, rest, passed-run, byte-passed, any}

module _ (s : List ℕ) where
  -- what stands from an index up to the next semicolon
  abbrev upto : ℕ → List ℕ
  upto i = until (byte ";") (drop i s)

  -- ---- a byte there

  byte-upto : (i b : ℕ) → b < 256 → eqb 59 b ≡ false → eqb (byte_at s i) b ≡ true → upto i ≡ b ∷ upto (i + 1)
  byte-upto i b small other here = ap (until (byte ";")) (drop-byte s i b small here) ∙ rw (until, other)

  pub stop-at : (i : ℕ) → eqb (byte_at s i) (byte ";") ≡ true → SemicolonAt s i i
  stop-at i e =
      let h : i < length s = byte-there s i (byte ";") (lit< tt) e in
      semicolon-here s i i (passed_none s i) h (sym (byte_in s i h) ∙ eqb-true (byte_at s i) (byte ";") e)

  -- ---- digits

  run-some : (i : ℕ) (run : Run) → RunAt s i 0 run → (run.next ≡ i → ⊥) → 0 < length (digits_of (upto i))
  run-some i run r n = omega (arith, r.next, n, ap length (until_digits (drop i s)))

  -- ---- a sign

  sign-there : (i b : ℕ) → (small : b < 256) → eqb 59 b ≡ false → eqb (byte_at s i) b ≡ true → ((x : List ℕ) → (sign_of (b ∷ x)).1 ≡ x)
      → (sign_of (upto i)).1 ≡ upto (i + 1)
  sign-there i b small other here is = ap (λ (x : List ℕ). (sign_of x).1) (byte-upto i b small other here) ∙ is (upto (i + 1))

  pub sign-plus : (i : ℕ) → eqb (byte_at s i) (byte "+") ≡ true → (sign_of (upto i)).1 ≡ upto (i + 1)
  sign-plus i e = sign-there i (byte "+") (lit< tt) refl e (λ x. refl)

  pub sign-minus : (i : ℕ) → eqb (byte_at s i) (byte "-") ≡ true → (sign_of (upto i)).1 ≡ upto (i + 1)
  sign-minus i e = sign-there i (byte "-") (lit< tt) refl e (λ x. refl)

  pub sign-none : (i : ℕ) → eqb (byte_at s i) (byte "+") ≡ false → eqb (byte_at s i) (byte "-") ≡ false → (sign_of (upto i)).1 ≡ upto i
  sign-none i p m = go (order i (length s))
    where
      cut : (b : ℕ) (x : List ℕ) → eqb (byte "+") b ≡ false → eqb (byte "-") b ≡ false → Test (eqb (byte ";") b)
          → (sign_of (until (byte ";") (b ∷ x))).1 ≡ until (byte ";") (b ∷ x)
      cut b x p m (passed e) = rw (until, e)
      cut b x p m (failed e) = rw (until, e, sign_of, p, m)

      go : Order i (length s) → (sign_of (upto i)).1 ≡ upto i
      go (below k) = rw (drop-cons s i 0 k)
          (cut (get_or s i 0) (drop (suc i) s) (byte-other s i (byte "+") k p) (byte-other s i (byte "-") k m) (test (eqb (byte ";") (get_or s i 0))))
      go (above k) = rw (drop_of_length-le s k)

  -- ---- a fraction

  pub fraction-there : (i : ℕ) → eqb (byte_at s i) (byte ".") ≡ true → (run : Run) → RunAt s (i + 1) 0 run → (fraction_of (upto i)).1 ≡ upto run.next
  fraction-there i e run r = ap (λ (x : List ℕ). (fraction_of x).1) (byte-upto i (byte ".") (lit< tt) refl e) ∙ rest s (i + 1) run r

  pub fraction-none : (i : ℕ) → eqb (byte_at s i) (byte ".") ≡ false → (fraction_of (upto i)).1 ≡ upto i
  fraction-none i p = go (order i (length s))
    where
      cut : (b : ℕ) (x : List ℕ) → eqb (byte ".") b ≡ false → Test (eqb (byte ";") b)
          → (fraction_of (until (byte ";") (b ∷ x))).1 ≡ until (byte ";") (b ∷ x)
      cut b x p (passed e) = rw (until, e)
      cut b x p (failed e) = rw (until, e, fraction_of, p)

      go : Order i (length s) → (fraction_of (upto i)).1 ≡ upto i
      go (below k) = rw (drop-cons s i 0 k) (cut (get_or s i 0) (drop (suc i) s) (byte-other s i (byte ".") k p) (test (eqb (byte ";") (get_or s i 0))))
      go (above k) = rw (drop_of_length-le s k)

  -- ---- an exponent, and the whole

  exponent-is : (b : ℕ) (x : List ℕ) → (eqb (byte "e") b || eqb (byte "E") b) ≡ true → 0 < length (digits_of (sign_of x).1) → after_digits (sign_of x).1 ≡ []
      → is_exponent (b ∷ x) ≡ true
  exponent-is b x e h r = rw (e, lt-ltb 0 (length (digits_of (sign_of x).1)) h, r)

  module _ (i digits : ℕ) (sign : (sign_of (upto (i + 1))).1 ≡ upto digits) (behind : Passed s (i + 1) digits)
      (run : Run) (r : RunAt s digits 0 run) (some : run.next ≡ digits → ⊥) (stop : eqb (byte_at s run.next) (byte ";") ≡ true) where
    exponent-there : (b : ℕ) → b < 256 → eqb 59 b ≡ false → (eqb (byte "e") b || eqb (byte "E") b) ≡ true → eqb (byte_at s i) b ≡ true
        → ExponentEnd s i run.next
    exponent-there b small other is here =
        record {
          exponent = ap is_exponent (byte-upto i b small other here) ∙ exponent-is b (upto (i + 1)) is
              (omega (arith, ap (λ (x : List ℕ). length (digits_of x)) sign, run-some digits run r some))
              (ap after_digits sign ∙ rest s digits run r ∙ until-stop s run.next stop);
          semicolon = semicolon-on s i run.next
              (passed-on s i (i + 1) (byte-passed s i b small other here) run.next (passed-on s (i + 1) digits behind run.next (passed-run s digits 0 run r)))
              run.next (stop-at run.next stop);
        }

    pub exponent-small : eqb (byte_at s i) (byte "e") ≡ true → ExponentEnd s i run.next
    exponent-small e = exponent-there (byte "e") (lit< tt) refl refl e

    pub exponent-great : eqb (byte_at s i) (byte "E") ≡ true → ExponentEnd s i run.next
    exponent-great e = exponent-there (byte "E") (lit< tt) refl refl e

  pub exponent-none : (i : ℕ) → eqb (byte_at s i) (byte ";") ≡ true → ExponentEnd s i i
  exponent-none i e = record { exponent = ap is_exponent (until-stop s i e); semicolon = stop-at i e }

  decimal-is : (p : List ℕ) → 0 < length (digits_of p) → is_exponent (fraction_of (after_digits p)).1 ≡ true → is_decimal p ≡ true
  decimal-is p h e = ap (λ (b : Bool). b && is_exponent (fraction_of (after_digits p)).1)
      (lt-ltb 0 (length (digits_of p) + length (fraction_of (after_digits p)).0) (omega arith)) ∙ e

  pub decimal-end : (from digits fraction end : ℕ) → (sign_of (upto from)).1 ≡ upto digits → Passed s from digits
      → (run : Run) → RunAt s digits 0 run → (run.next ≡ digits → ⊥)
      → (fraction_of (upto run.next)).1 ≡ upto fraction → Passed s run.next fraction → ExponentEnd s fraction end → PlainEnd s from end
  unfolding is_float
  decimal-end from digits fraction end sign p run r some point q x =
      let semi : SemicolonAt s from end = semicolon-on s from digits p end
      (semicolon-on s digits run.next (passed-run s digits 0 run r) end (semicolon-on s run.next fraction q end x.semicolon)) in
      let t : List ℕ = upto from in
      let is : is_decimal (sign_of t).1 ≡ true = ap is_decimal sign ∙ decimal-is (upto digits) (run-some digits run r some)
      (ap (λ (y : List ℕ). is_exponent (fraction_of y).1) (rest s digits run r) ∙ ap is_exponent point ∙ x.exponent) in
      record {
        semicolon = semi;
        float = ap is_float (sym semi.part)
            ∙ any (same_bytes t (bytes "INF")) (same_bytes t (bytes "-INF")) (same_bytes t (bytes "NAN")) (is_decimal (sign_of t).1) is;
      }
