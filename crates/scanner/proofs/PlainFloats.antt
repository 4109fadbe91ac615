-- Laws of floats spelled by digits with at most one point. Assumes nothing.
use Prim.Native.Nat.{ℕ, suc, ◌+◌, ◌-◌, ◌≤◌, ◌<◌}
use native.Mathlib.Omega.{arith}
use mathlib.Core.Path.{◌≡◌, refl, sym, ap, ◌∙◌}
use mathlib.Core.Bool.{Bool, true, false, ◌&&◌, ◌||◌, not, and-false}
use mathlib.Core.List.{List, [], ◌∷◌, ◌++◌, append_assoc, append-nil}
use lib.Dec.{eqb, lit<}
use lib.ListN.{length, get_or, take, drop, length-append, drop_of_length-le}
use lib.Seq.{take-append_seam, drop-cons}
use borrow.Author.Tests.{eqb-true, eqb-false, ne_eqb, lt-ltb}
use Rattle.decimal.specs.Digits.{is_digit, digits_of, after_digits}
use Rattle.decimal.specs.Promise.{RunAt}
use Rattle.decimal.specs.declared.Run.{Run}
use Rattle.std.specs.Prelude.{Option, Some, None}
use Rattle.std.specs.Bool.{then_some}
use Rattle.std.proofs.lemmas.List.{nil_from_length}
use Rattle.decimal.proofs.Decide.{Order, below, above, order, Test, passed, failed, test, T_of}
use Rattle.decimal.proofs.Numerals.{digit_low, digit_high, digits-split}
use Rattle.format.specs.Bytes.{byte, bytes, is_empty, same_bytes}
use Rattle.format.specs.Syntax.{Sign}
use Rattle.format.specs.Limits.{sign_of, is_float, is_decimal}
use Rattle.format.specs.Read.{until}
use Rattle.bytes_at.specs.ByteAt.{byte_at}
use Rattle.bytes_at.proofs.BytesAt.{byte_in, byte-there, byte-other, drop-byte}
use Rattle.bytes_at.proofs.Runs.{run_rest}
use Rattle.scanner.specs.Scans.{is_fraction, is_plain, semicolon_from, plain_float_end}
use Rattle.scanner.specs.Parts.{Passed, PlainEnd}
use Rattle.scanner.proofs.Numbers.{digits_unsigned}
use Rattle.scanner.proofs.Floats.{passed-one, passed-on, semicolon-here}

-- a digit is no semicolon
not_stop : (b : ℕ) → is_digit b ≡ true → eqb 59 b ≡ false
not_stop b t = ne_eqb 59 b (λ e. omega (arith, digit_low b (T_of t), digit_high b (T_of t), e))

-- a run in front of a text
run_digits : (t y : List ℕ) → digits_of (digits_of t ++ y) ≡ digits_of t ++ digits_of y
run_digits [] y = refl
run_digits (b ∷ t) y = go (test (is_digit b)) (run_digits t y)
  where
    go : Test (is_digit b) → digits_of (digits_of t ++ y) ≡ digits_of t ++ digits_of y → digits_of (digits_of (b ∷ t) ++ y) ≡ digits_of (b ∷ t) ++ digits_of y
    go (passed e) r = rw (e, digits_of, e) (ap {B = List ℕ} (λ x. b ∷ x) r)
    go (failed e) r = rw (e, digits_of)

run_after : (t y : List ℕ) → after_digits (digits_of t ++ y) ≡ after_digits y
run_after [] y = refl
run_after (b ∷ t) y = go (test (is_digit b)) (run_after t y)
  where
    go : Test (is_digit b) → after_digits (digits_of t ++ y) ≡ after_digits y → after_digits (digits_of (b ∷ t) ++ y) ≡ after_digits y
    go (passed e) r = rw (e, digits_of, after_digits, e) r
    go (failed e) r = rw (e, digits_of)

run_until : (t y : List ℕ) → until (byte ";") (digits_of t ++ y) ≡ digits_of t ++ until (byte ";") y
run_until [] y = refl
run_until (b ∷ t) y = go (test (is_digit b)) (run_until t y)
  where
    go : Test (is_digit b) → until (byte ";") (digits_of t ++ y) ≡ digits_of t ++ until (byte ";") y
        → until (byte ";") (digits_of (b ∷ t) ++ y) ≡ digits_of (b ∷ t) ++ until (byte ";") y
    go (passed e) r = rw (e, digits_of, until, not_stop b e) (ap {B = List ℕ} (λ x. b ∷ x) r)
    go (failed e) r = rw (e, digits_of)

-- the text up to the next semicolon has the digits that stand there
pub until_digits : (x : List ℕ) → digits_of (until (byte ";") x) ≡ digits_of x
until_digits [] = refl
until_digits (b ∷ x) = go (test (is_digit b)) (test (eqb 59 b)) (until_digits x)
  where
    go : Test (is_digit b) → Test (eqb 59 b) → digits_of (until (byte ";") x) ≡ digits_of x → digits_of (until (byte ";") (b ∷ x)) ≡ digits_of (b ∷ x)
    go (passed e) w r = rw (until, not_stop b e, digits_of, e) (ap {B = List ℕ} (λ y. b ∷ y) r)
    go (failed e) (passed w) r = rw (until, w, digits_of, e)
    go (failed e) (failed w) r = rw (until, w, digits_of, e)

until_after : (x : List ℕ) → after_digits (until (byte ";") x) ≡ until (byte ";") (after_digits x)
until_after [] = refl
until_after (b ∷ x) = go (test (is_digit b)) (test (eqb 59 b)) (until_after x)
  where
    go : Test (is_digit b) → Test (eqb 59 b) → after_digits (until (byte ";") x) ≡ until (byte ";") (after_digits x)
        → after_digits (until (byte ";") (b ∷ x)) ≡ until (byte ";") (after_digits (b ∷ x))
    go (passed e) w r = rw (until, not_stop b e, after_digits, e) r
    go (failed e) (passed w) r = rw (until, w, after_digits, e, until, w)
    go (failed e) (failed w) r = rw (until, w, after_digits, e, until, w)

run_sign : (t y : List ℕ) → 0 < length (digits_of t) → (sign_of (digits_of t ++ y)).1 ≡ digits_of t ++ y
run_sign t y h = ap (λ (p : Sign × List ℕ). p.1)
    (digits_unsigned (digits_of t ++ y) (omega (arith, ap length (run_digits t y), length-append (digits_of t) (digits_of y))))

-- a decimal without a sign is a float
pub any : (a b c d : Bool) → d ≡ true → (a || b || c || d) ≡ true
any true b c d e = refl
any false true c d e = refl
any false false true d e = refl
any false false false d e = e

decimal-float : (t y : List ℕ) → 0 < length (digits_of t) → is_decimal (digits_of t ++ y) ≡ true → is_float (digits_of t ++ y) ≡ true
unfolding is_float
decimal-float t y h e =
    let p : List ℕ = digits_of t ++ y in
    any (same_bytes p (bytes "INF")) (same_bytes p (bytes "-INF")) (same_bytes p (bytes "NAN")) (is_decimal (sign_of p).1) (ap is_decimal (run_sign t y h) ∙ e)

-- ---- no semicolon stands in digits, nor is another byte one

pub passed-run : (s : List ℕ) (from cap : ℕ) (run : Run) → RunAt s from cap run → Passed s from run.next
passed-run s from cap run r =
    let t : List ℕ = drop from s in
    let n : run.next - from ≡ length (digits_of t) = omega (arith, r.next) in
    let front : take (run.next - from) t ≡ digits_of t = ap (λ (k : ℕ). take k t) n
    ∙ ap (take (length (digits_of t))) (digits-split t) ∙ take-append_seam (digits_of t) (after_digits t) in
    record {
      part =
          ap (until (byte ";")) (digits-split t)
          ∙ run_until t (after_digits t)
          ∙ ap (λ (x : List ℕ). digits_of t ++ until (byte ";") x) (run_rest s from cap run r)
          ∙ ap (λ (x : List ℕ). x ++ until (byte ";") (drop run.next s)) (sym front);
      on = omega (arith, r.next);
    }

pub byte-passed : (s : List ℕ) (i b : ℕ) → b < 256 → eqb 59 b ≡ false → eqb (byte_at s i) b ≡ true → Passed s i (i + 1)
byte-passed s i b small other here =
    let h : i < length s = byte-there s i b small here in
    passed-one s i h (λ e. eqb-false 59 b other (sym e ∙ sym (byte_in s i h) ∙ eqb-true (byte_at s i) b here))

pub fraction-passed : (s : List ℕ) (i : ℕ) → eqb (byte_at s i) (byte ".") ≡ true → (run : Run) → RunAt s (i + 1) 0 run → Passed s i run.next
fraction-passed s i e run r = passed-on s i (i + 1) (byte-passed s i (byte ".") (lit< tt) refl e) run.next (passed-run s (i + 1) 0 run r)

-- ---- digits, and a semicolon; or digits, a point, digits and a semicolon

module _ (s : List ℕ) (from : ℕ) (run : Run) (r : RunAt s from 0 run) (some : run.next ≡ from → ⊥) where
  abbrev t : List ℕ
  t = drop from s

  some-digits : 0 < length (digits_of t)
  some-digits = omega (arith, r.next, some)

  -- from the text as it stands: its part up to the semicolon
  end_of : (y x : List ℕ) (end : ℕ) → t ≡ (digits_of t ++ y) ++ x → end ≡ from + length (digits_of t ++ y) → eqb (byte_at s end) (byte ";") ≡ true
      → Passed s from end → is_decimal (digits_of t ++ y) ≡ true → PlainEnd s from end
  end_of y x end split long stop gone d =
      let p : List ℕ = digits_of t ++ y in
      let n : end - from ≡ length p = omega (arith, long) in
      let part : take (end - from) t ≡ p = ap (λ (k : ℕ). take k t) n ∙ ap (take (length p)) split ∙ take-append_seam p x in
      let h : end < length s = byte-there s end (byte ";") (lit< tt) stop in
      record {
        semicolon = semicolon-here s from end gone h (sym (byte_in s end h) ∙ eqb-true (byte_at s end) (byte ";") stop);
        float = ap is_float part ∙ decimal-float t y some-digits d;
      }

  pub plain-whole : eqb (byte_at s run.next) (byte ";") ≡ true → PlainEnd s from run.next
  plain-whole e =
      let rest : after_digits t ≡ 59 ∷ drop (run.next + 1) s = run_rest s from 0 run r ∙ drop-byte s run.next (byte ";") (lit< tt) e in
      let split : t ≡ digits_of t ++ (59 ∷ drop (run.next + 1) s) = digits-split t ∙ ap (λ (x : List ℕ). digits_of t ++ x) rest in
      end_of [] (59 ∷ drop (run.next + 1) s) run.next
      (split ∙ ap (λ (x : List ℕ). x ++ (59 ∷ drop (run.next + 1) s)) (sym (append-nil (digits_of t))))
      (omega (arith, r.next, ap length (append-nil (digits_of t))))
      e
      (passed-run s from 0 run r)
      (rw (run_digits t [], run_after t [], lt-ltb 0 (length (digits_of t ++ []) + 0) (omega (arith, some-digits, ap length (append-nil (digits_of t))))))

  module _ (point : eqb (byte_at s run.next) (byte ".") ≡ true) (fraction : Run) (r₂ : RunAt s (run.next + 1) 0 fraction) where
    abbrev u : List ℕ
    u = drop (run.next + 1) s

    abbrev y : List ℕ
    y = 46 ∷ (digits_of u ++ [])

    pub plain-part : eqb (byte_at s fraction.next) (byte ";") ≡ true → PlainEnd s from fraction.next
    plain-part e =
        let z : List ℕ = 59 ∷ drop (fraction.next + 1) s in
        let rest : after_digits t ≡ 46 ∷ u = run_rest s from 0 run r ∙ drop-byte s run.next (byte ".") (lit< tt) point in
        let behind : u ≡ digits_of u ++ z = digits-split u
        ∙ ap (λ (x : List ℕ). digits_of u ++ x) (run_rest s (run.next + 1) 0 fraction r₂ ∙ drop-byte s fraction.next (byte ";") (lit< tt) e) in
        let split : t ≡ digits_of t ++ (46 ∷ (digits_of u ++ z)) = digits-split t
        ∙ ap (λ (x : List ℕ). digits_of t ++ x) (rest ∙ ap {B = List ℕ} (λ x. 46 ∷ x) behind) in
        end_of y z fraction.next
        (split ∙ ap (λ (x : List ℕ). digits_of t ++ (46 ∷ (x ++ z))) (sym (append-nil (digits_of u))) ∙ sym (append_assoc (digits_of t) y z))
        (omega (arith, r.next, r₂.next, length-append (digits_of t) y, ap length (append-nil (digits_of u))))
        e
        (passed-on s from run.next (passed-run s from 0 run r) fraction.next (fraction-passed s run.next point fraction r₂))
        (rw (
          run_digits t y,
          run_after t y,
          run_digits u [],
          run_after u [],
          lt-ltb 0 (length (digits_of t ++ []) + length (digits_of u ++ [])) (omega (arith, some-digits, ap length (append-nil (digits_of t)))),
        ))

-- ---- the definition, by the text up to the next semicolon

-- nothing stands before a semicolon that is there; something does, where another byte is
pub until-stop : (s : List ℕ) (i : ℕ) → eqb (byte_at s i) (byte ";") ≡ true → until (byte ";") (drop i s) ≡ []
until-stop s i e = ap (until (byte ";")) (drop-byte s i (byte ";") (lit< tt) e)

until-other : (s : List ℕ) (i : ℕ) → i < length s → eqb (byte_at s i) (byte ";") ≡ false
    → until (byte ";") (drop i s) ≡ get_or s i 0 ∷ until (byte ";") (drop (suc i) s)
until-other s i h e = ap (until (byte ";")) (drop-cons s i 0 h) ∙ rw (until, byte-other s i (byte ";") h e)

until-past : (s : List ℕ) (i : ℕ) → length s ≤ i → until (byte ";") (drop i s) ≡ []
until-past s i h = ap (until (byte ";")) (drop_of_length-le s h)

module _ (s : List ℕ) (from : ℕ) where
  abbrev upto : List ℕ
  upto = until (byte ";") (drop from s)

  abbrev chosen : (plain : Bool) (n : ℕ) → Option ℕ
  chosen plain n = then_some (plain && eqb (byte_at s n) (byte ";")) n

  found-at : (n : ℕ) → is_plain upto ≡ true → semicolon_from s from ≡ n → eqb (byte_at s n) (byte ";") ≡ true → Some n ≡ plain_float_end s from
  unfolding plain_float_end
  found-at n p e w = sym (ap (λ (b : Bool). chosen b (semicolon_from s from)) p ∙ ap (chosen true) e ∙ ap (λ (b : Bool). then_some b n) w)

  not-plain : is_plain upto ≡ false → None ≡ plain_float_end s from
  unfolding plain_float_end
  not-plain p = sym (ap (λ (b : Bool). chosen b (semicolon_from s from)) p)

  not-stopped : eqb (byte_at s (semicolon_from s from)) (byte ";") ≡ false → None ≡ plain_float_end s from
  unfolding plain_float_end
  not-stopped w = sym (ap (λ (b : Bool). then_some (is_plain upto && b) (semicolon_from s from)) w ∙ ap (λ (b : Bool). then_some b (semicolon_from s from)) (and-false (is_plain upto)))

  module _ (run : Run) (r : RunAt s from 0 run) where
    pub rest : after_digits upto ≡ until (byte ";") (drop run.next s)
    rest = until_after (drop from s) ∙ ap (until (byte ";")) (run_rest s from 0 run r)

    size : semicolon_from s from ≡ run.next + length (until (byte ";") (drop run.next s))
    size = omega (arith, r.next, ap length (digits-split upto), length-append (digits_of upto) (after_digits upto), ap length (until_digits (drop from s)), ap length rest)

    pub none-digits : run.next ≡ from → None ≡ plain_float_end s from
    none-digits e = not-plain (ap (λ (x : List ℕ). not (is_empty x) && is_fraction (after_digits upto)) (until_digits (drop from s) ∙ nil_from_length _ (omega (arith, r.next, e))))

    module _ (some : run.next ≡ from → ⊥) where
      digits-there : not (is_empty (digits_of upto)) ≡ true
      digits-there = filled (digits_of upto) (omega (arith, r.next, some, ap length (until_digits (drop from s))))
        where
          filled : (x : List ℕ) → 0 < length x → not (is_empty x) ≡ true
          filled [] h = absurd (omega (arith, h))
          filled (b ∷ x) h = refl

      plain-is : (b : Bool) → is_fraction (until (byte ";") (drop run.next s)) ≡ b → is_plain upto ≡ b
      plain-is b e = ap (λ (x : Bool). x && is_fraction (after_digits upto)) digits-there ∙ ap is_fraction rest ∙ e

      pub some-whole : eqb (byte_at s run.next) (byte ";") ≡ true → Some run.next ≡ plain_float_end s from
      some-whole e = found-at run.next (plain-is true (ap is_fraction (until-stop s run.next e))) (size ∙ omega (arith, ap length (until-stop s run.next e))) e

      pub none-point : eqb (byte_at s run.next) (byte ";") ≡ false → eqb (byte_at s run.next) (byte ".") ≡ false → None ≡ plain_float_end s from
      none-point e w = go (order run.next (length s))
        where
          go : Order run.next (length s) → None ≡ plain_float_end s from
          go (below h) = not-plain (plain-is false (ap is_fraction (until-other s run.next h e) ∙ ap (λ (b : Bool). b && is_empty (after_digits (until (byte ";") (drop (suc run.next) s)))) (byte-other s run.next (byte ".") h w)))
          go (above h) = not-stopped (ap (λ (k : ℕ). eqb (byte_at s k) (byte ";")) (size ∙ omega (arith, ap length (until-past s run.next h))) ∙ e)

      module _ (point : eqb (byte_at s run.next) (byte ".") ≡ true) (fraction : Run) (r₂ : RunAt s (run.next + 1) 0 fraction) where
        abbrev behind : List ℕ
        behind = until (byte ";") (drop (run.next + 1) s)

        point-rest : until (byte ";") (drop run.next s) ≡ 46 ∷ behind
        point-rest = ap (until (byte ";")) (drop-byte s run.next (byte ".") (lit< tt) point)

        fraction-rest : after_digits behind ≡ until (byte ";") (drop fraction.next s)
        fraction-rest = until_after (drop (run.next + 1) s) ∙ ap (until (byte ";")) (run_rest s (run.next + 1) 0 fraction r₂)

        fraction-size : semicolon_from s from ≡ fraction.next + length (until (byte ";") (drop fraction.next s))
        fraction-size = omega (arith, size, ap length point-rest, r₂.next, ap length (digits-split behind), length-append (digits_of behind) (after_digits behind), ap length (until_digits (drop (run.next + 1) s)), ap length fraction-rest)

        fraction-is : (b : Bool) → is_empty (until (byte ";") (drop fraction.next s)) ≡ b → is_plain upto ≡ b
        fraction-is b e = plain-is b (ap is_fraction point-rest ∙ ap is_empty fraction-rest ∙ e)

        pub some-part : eqb (byte_at s fraction.next) (byte ";") ≡ true → Some fraction.next ≡ plain_float_end s from
        some-part e = found-at fraction.next (fraction-is true (ap is_empty (until-stop s fraction.next e))) (fraction-size ∙ omega (arith, ap length (until-stop s fraction.next e))) e

        pub none-part : eqb (byte_at s fraction.next) (byte ";") ≡ false → None ≡ plain_float_end s from
        none-part e = go (order fraction.next (length s))
          where
            go : Order fraction.next (length s) → None ≡ plain_float_end s from
            go (below h) = not-plain (fraction-is false (ap is_empty (until-other s fraction.next h e)))
            go (above h) = not-stopped (ap (λ (k : ℕ). eqb (byte_at s k) (byte ";")) (fraction-size ∙ omega (arith, ap length (until-past s fraction.next h))) ∙ e)
