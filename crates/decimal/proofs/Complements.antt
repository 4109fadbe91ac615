-- Laws of two's complement, for every width. Assumes nothing.
use Rattle.std.proofs.Common.{◌≡◌, ℕ, ◌+◌, ◌-◌, ◌*◌, ◌%◌, ◌^◌, ◌<◌, ◌≤◌, Bool, true, false, sym, ◌∙◌, mod-eq_of_lt, arith, le-leb}
use native.Mathlib.Nat.{mod_self, mod-eq-sub-mod}
use borrow.Author.Tests.{lt-leb}
use Rattle.decimal.specs.Complement.{negate, pattern, is_negative, magnitude}
use Rattle.decimal.specs.Promise.{SignedOf}
use Rattle.decimal.proofs.Decide.{Order, below, above, order}

pub negate_zero : (bits : ℕ) → negate bits 0 ≡ 0
negate_zero bits = let e : 2 ^ bits - 0 ≡ 2 ^ bits = omega arith in rw e (mod_self (2 ^ bits))

pub negate-some : (bits n : ℕ) → 0 < n → n ≤ 2 ^ bits → negate bits n ≡ 2 ^ bits - n
negate-some bits n p h = mod-eq_of_lt (omega arith)

-- the one word that n added to wraps to zero
pub negate-of : (bits n r : ℕ) → n < 2 ^ bits → r < 2 ^ bits → (r + n) % 2 ^ bits ≡ 0 → r ≡ negate bits n
negate-of bits n r hn hr e = go (order (r + n) (2 ^ bits))
  where
    go : Order (r + n) (2 ^ bits) → r ≡ negate bits n
    go (below s) =
        let z : r + n ≡ 0 = sym (mod-eq_of_lt s) ∙ e in
        let n0 : n ≡ 0 = omega arith in
        rw (n0, negate_zero bits) (omega arith)
    go (above s) =
        let z : r + n - 2 ^ bits ≡ 0 = sym (mod-eq_of_lt (omega arith)) ∙ sym (mod-eq-sub-mod s) ∙ e in
        rw (negate-some bits n (omega arith) (omega arith)) (omega arith)

-- zero minus zero minus n is n
pub negate-twice : (bits n : ℕ) → 0 < n → n < 2 ^ bits → negate bits (negate bits n) ≡ n
negate-twice bits n p h = let e : negate bits n ≡ 2 ^ bits - n = negate-some bits n p (omega arith) in
    rw e (negate-some bits (2 ^ bits - n) (omega arith) (omega arith) ∙ omega arith)

-- an integer of so many bits, by its sign and magnitude; zero has no sign
abbrev pub InBits : (bits : ℕ) → Bool → ℕ → Type 0
InBits bits false n = 2 * n < 2 ^ bits
InBits bits true n = (0 < n) × (2 * n ≤ 2 ^ bits)

-- THE PATTERN READ BACK gives the sign and the magnitude
pub sign-back : (bits : ℕ) (negative : Bool) (n : ℕ) → InBits bits negative n → is_negative bits (pattern bits negative n) ≡ negative
sign-back bits false n h = lt-leb (2 ^ bits) (2 * n) h
sign-back bits true n h = let e = negate-some bits n h.0 (omega arith) in rw e (le-leb (2 ^ bits) (2 * (2 ^ bits - n)) (omega arith))

pub magnitude-back : (bits : ℕ) (negative : Bool) (n : ℕ) → InBits bits negative n → magnitude bits (pattern bits negative n) ≡ n
magnitude-back bits false n h = rw (sign-back bits false n h)
magnitude-back bits true n h = rw (sign-back bits true n h) (negate-twice bits n h.0 (omega arith))

-- ---- what the code's tests say
pub signed_low : (bits word : ℕ) → 2 * word < 2 ^ bits → SignedOf bits word (record { negative = false; magnitude = word })
signed_low bits word h = let e = lt-leb (2 ^ bits) (2 * word) h in record { negative = sym e; magnitude = rw e }

pub signed_high : (bits word r : ℕ) → 2 ^ bits ≤ 2 * word → r ≡ negate bits word → SignedOf bits word (record { negative = true; magnitude = r })
signed_high bits word r h n = let e = le-leb (2 ^ bits) (2 * word) h in record { negative = sym e; magnitude = rw e n }
