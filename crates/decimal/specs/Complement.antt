-- Two's complement: the word of an integer that is given by its sign and magnitude, and back.
use Rattle.std.specs.Prelude.{ℕ, ◌-◌, ◌*◌, ◌%◌, ◌^◌, Bool, true, false, nat_le}

-- zero minus n, modulo the power of two
abbrev pub negate : (bits n : ℕ) → ℕ
negate bits n = (2 ^ bits - n) % 2 ^ bits

-- "the integer's two's complement pattern"
abbrev pub pattern : (bits : ℕ) → (negative : Bool) → (magnitude : ℕ) → ℕ
pattern bits false n = n
pattern bits true n = negate bits n

-- the upper half of the words are those of negative integers
abbrev pub is_negative : (bits word : ℕ) → Bool
is_negative bits w = nat_le (2 ^ bits) (2 * w)

abbrev pub magnitude : (bits word : ℕ) → ℕ
magnitude bits w = pattern bits (is_negative bits w) w
