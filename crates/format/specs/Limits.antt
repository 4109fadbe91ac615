-- What the grammar and reading share: limits, a service's terms, float texts, and what is seen of earlier values.
use Rattle.std.specs.Prelude.{List, [], ◌∷◌, Bool, true, false, ◌&&◌, ◌||◌, ℕ, suc, ◌+◌, ltb, eqb, length}
use Rattle.decimal.specs.Digits.{digits_of, after_digits}
use Rattle.format.specs.Bytes.{byte, bytes, is_empty, same_bytes}
use Rattle.format.specs.Tree.{ordinals}
use Rattle.format.specs.Syntax.{Sign, unsigned, plus, minus, Value, own}

-- "*Number* below means digits without sign, of value at most 65,536.", and "may have one leading `+`" (paper 02, L1), which changes no value
abbrev pub number_limit : ℕ
number_limit = 65536

-- "plan longer than 65,536 bytes"
abbrev pub source_limit : ℕ
source_limit = 65536

-- "to a depth of 64: the plan itself has depth 1, a value in a container one more than the container. Keys have no depth."
abbrev pub depth_limit : ℕ
depth_limit = 64

-- "value −9223372036854775808 to 9223372036854775807", by the sign
abbrev pub integer_limit : Sign → ℕ
integer_limit unsigned = 9223372036854775807
integer_limit plus = 9223372036854775807
integer_limit minus = 9223372036854775808

-- what a service goes by, besides the bytes lent: how many nodes the table has room for
pub record Terms : Type 0 where
  pub capacity : ℕ

-- "optional `+` or `-`": the sign in front, and what follows
abbrev pub sign_of : List ℕ → Sign × List ℕ
sign_of [] = (unsigned, [])
sign_of (b ∷ s) = elim (eqb (byte "+") b) [ true ↦ (plus, s) | false ↦ elim (eqb (byte "-") b) [ true ↦ (minus, s) | false ↦ (unsigned, b ∷ s) ] ]

-- "then optionally `e` or `E`, optional sign, one digit or more"
abbrev pub is_exponent : List ℕ → Bool
is_exponent [] = true
is_exponent (b ∷ s) = (eqb (byte "e") b || eqb (byte "E") b) && ltb 0 (length (digits_of (sign_of s).1)) && is_empty (after_digits (sign_of s).1)

-- the digits behind a point, if there is one, and what follows
abbrev pub fraction_of : List ℕ → List ℕ × List ℕ
fraction_of [] = ([], [])
fraction_of (b ∷ s) = elim (eqb (byte ".") b) [ true ↦ (digits_of s, after_digits s) | false ↦ ([], b ∷ s) ]

-- "digits with at most one point, at least one digit in all"
abbrev pub is_decimal : List ℕ → Bool
is_decimal s = ltb 0 (length (digits_of s) + length (fraction_of (after_digits s)).0) && is_exponent (fraction_of (after_digits s)).1

-- "Float text is `INF`, `-INF`, `NAN`, or: optional sign (`+` or `-`), …"
unfoldable pub is_float : List ℕ → Bool
is_float t = same_bytes t (bytes "INF") || same_bytes t (bytes "-INF") || same_bytes t (bytes "NAN") || is_decimal (sign_of t).1

-- what is seen of the values met so far: how many ordinals they took
abbrev pub Seen : Type 0
Seen = ℕ

abbrev pub unseen : Seen
unseen = 0

-- "A container has its number before its contents have theirs."
abbrev pub see_branch : Seen → Seen
see_branch seen = suc seen

abbrev pub see : Seen → Value → Seen
see seen v = seen + ordinals own v
