-- Numerals: the run of digits at the head of a text, its value, the shortest decimal text of a number, a spelling.
use Rattle.std.specs.Prelude.{ℕ, zero, suc, ◌+◌, ◌-◌, ◌*◌, ◌/◌, ◌%◌, Bool, true, false, ◌&&◌, List, [], ◌∷◌, ◌++◌, replicate, nat_le, nat_lt}

-- "Digits are 0x30 to 0x39"
abbrev pub is_digit : ℕ → Bool
is_digit b = nat_le 0x30 b && nat_le b 0x39

-- the run of digits at the head of a text, and what follows it
abbrev pub digits_of : List ℕ → List ℕ
digits_of [] = []
digits_of (b ∷ s) = elim (is_digit b) [ true ↦ b ∷ digits_of s | false ↦ [] ]

abbrev pub after_digits : List ℕ → List ℕ
after_digits [] = []
after_digits (b ∷ s) = elim (is_digit b) [ true ↦ after_digits s | false ↦ b ∷ s ]

-- the number that a run means, read from the left behind digits that mean `n`
abbrev pub value_from : (n : ℕ) → List ℕ → ℕ
value_from n [] = n
value_from n (b ∷ s) = value_from (n * 10 + (b - 0x30)) s

abbrev pub value : List ℕ → ℕ
value s = value_from 0 s

-- the shortest decimal text: the digits of n / 10, then the last one; more levels than n has digits are enough
unfoldable pub decimal_in : (levels : ℕ) → ℕ → List ℕ
decimal_in zero n = []
decimal_in (suc levels) n = elim (nat_lt n 10) [ true ↦ (0x30 + n) ∷ [] | false ↦ decimal_in levels (n / 10) ++ ((0x30 + n % 10) ∷ []) ]

unfoldable pub decimal : ℕ → List ℕ
decimal n = decimal_in (suc n) n

-- a spelling of a number: leading zeros, then the shortest text
abbrev pub spelled : (zeros : ℕ) → ℕ → List ℕ
spelled zeros n = replicate zeros 0x30 ++ decimal n
