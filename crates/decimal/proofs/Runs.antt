-- Laws of the scan of a run of digits. Assumes nothing.
use Rattle.std.proofs.Common.{◌≡◌, ℕ, ◌+◌, ◌-◌, ◌*◌, ◌<◌, ◌≤◌, min, true, false, leb, List, [], ◌∷◌, length, get_or, drop}
use Rattle.std.proofs.Common.{sym, refl, ap, ◌∙◌, add-one, arith, drop_of_length-le, drop-cons, le-leb}
use mathlib.Core.Bool.{and-false}
use borrow.Author.Tests.{lt-leb}
use Rattle.decimal.specs.Digits.{is_digit, digits_of, value, value_from}
use Rattle.decimal.specs.Promise.{RunAt}

is_digit_lem : (b : ℕ) → 48 ≤ b → b ≤ 57 → is_digit b ≡ true
is_digit_lem b l h = simp (le-leb 48 b l, le-leb b 57 h)

pub below-digits : (b : ℕ) → b < 48 → is_digit b ≡ false
below-digits b h = simp (lt-leb 48 b h)

pub above-digits : (b : ℕ) → 57 < b → is_digit b ≡ false
above-digits b h = rw (lt-leb b 57 h) (and-false (leb 48 b))

-- the run from an index on, by the byte that stands there
pub run_more : (s : List ℕ) (i : ℕ) → i < length s → is_digit (get_or s i 0) ≡ true → digits_of (drop i s) ≡ get_or s i 0 ∷ digits_of (drop (i + 1) s)
run_more s i h e = rw (add-one, drop-cons s i 0, digits_of, e)

pub run_stops : (s : List ℕ) (i : ℕ) → i < length s → is_digit (get_or s i 0) ≡ false → digits_of (drop i s) ≡ []
run_stops s i h e = rw (drop-cons s i 0, digits_of, e)

pub run_ends : (s : List ℕ) (i : ℕ) → length s ≤ i → digits_of (drop i s) ≡ []
run_ends s i h = rw drop_of_length-le

-- a value that is held at a cap on the way ends as the value does that is held there at the end
capped-step : (c x d : ℕ) → min c (min c x * 10 + d) ≡ min c (x * 10 + d)
capped-step c x d = omega arith

capped : (c x : ℕ) (bs : List ℕ) → min c (value_from (min c x) bs) ≡ min c (value_from x bs)
capped c x [] = omega arith
capped c x (b ∷ bs) =
    sym (capped c (min c x * 10 + (b - 48)) bs)
    ∙ ap (λ (k : ℕ). min c (value_from k bs)) (capped-step c x (b - 48))
    ∙ capped c (x * 10 + (b - 48)) bs

-- the run from `at` on is what was read, up to i and with the value v, and the run from i on
pub record Scanned (cap : ℕ) (s : List ℕ) (at i v : ℕ) : Type 0 where
  pub ends : i + length (digits_of (drop i s)) ≡ at + length (digits_of (drop at s))
  pub worth : min cap (value_from v (digits_of (drop i s))) ≡ min cap (value (digits_of (drop at s)))
  pub small : v ≤ cap

pub scanned_none : (c : ℕ) (s : List ℕ) (at : ℕ) → Scanned c s at at 0
scanned_none c s at = record { ends = refl; worth = refl; small = omega arith }

-- where no digit stands at i, that is the whole run
pub scanned_done : (c : ℕ) (s : List ℕ) (at i v : ℕ) → Scanned c s at i v → digits_of (drop i s) ≡ [] → RunAt s at c (record { next = i; value = v })
scanned_done c s at i v h e = record { next = omega (arith, rw e at h.ends); value = omega (arith, rw e at h.worth) }

pub scanned_more : (c : ℕ) (s : List ℕ) (at i v r : ℕ) → Scanned c s at i v → i < length s → 48 ≤ get_or s i 0 → get_or s i 0 ≤ 57
    → r ≡ min c (v * 10 + (get_or s i 0 - 48)) → Scanned c s at (i + 1) r
scanned_more c s at i v r h l lo hi e =
    let m : digits_of (drop i s) ≡ get_or s i 0 ∷ digits_of (drop (i + 1) s) = run_more s i l (is_digit_lem (get_or s i 0) lo hi) in
    record {
      ends = omega (arith, rw m at h.ends);
      worth = rw e (capped c (v * 10 + (get_or s i 0 - 48)) (digits_of (drop (i + 1) s)) ∙ (rw m at h.worth));
      small = omega arith;
    }
