-- What the private scans of parts of a text promise; of what is public, `plain_end` alone says one of these (`PlainEnd`) beside its answer.
use Rattle.std.specs.Prelude.{Result, Ok, Err, eqb, ◌≡◌, List, ◌++◌, Bool, true, false, ℕ, ◌-◌, ◌≤◌, ◌<◌, length, get_or, take, drop}
use Rattle.decimal.specs.Complement.{pattern}
use Rattle.format.specs.Bytes.{byte, bytes}
use Rattle.format.specs.Syntax.{Sign, unsigned, plus, minus}
use Rattle.format.specs.Limits.{integer_limit, sign_of, is_exponent, is_float}
use Rattle.format.specs.Answer.{ok, ◌>>=◌}
use Rattle.format.specs.Read.{expect, until, digits, Reader}
use Rattle.bytes_at.specs.ByteAt.{byte_at}
use Rattle.format.specs.declared.codes.Code.{Code}
use Rattle.scanner.specs.declared.Text.{Text}
use Rattle.scanner.specs.declared.number.Front.{Front}
use Rattle.scanner.specs.Scans.{Scan, Told, scan_answer, Found, tell}

-- a scan that is sure of a text that it finds: what it refuses may be one all the same
pub record Sure {A : Type 0} (read : Reader A) (told : Told A) (s : List ℕ) (at : ℕ) (r : Scan) : Type 0 where
  pub found : (l : ℕ) (t : Text) → scan_answer l r ≡ ok t → Found read told s at t

-- a byte that has to stand at an index: "text not of its kind's form, or ends too soon"
abbrev pub Expects : (s : List ℕ) → (at b : ℕ) → Result (Unit {0}) Code → Type 0
Expects s at b (Ok u) = (eqb (byte_at s at) b ≡ true) × (at < length s)
Expects s at b (Err c) = (eqb (byte_at s at) b ≡ false) × (c ≡ Code.TextUnfit)

-- ---- digits

abbrev pub digits_text : (top : ℕ) → Reader (ℕ × ℕ)
digits_text top l s = digits l top s

-- what follows an integer's sign: its leading zeros and its magnitude
unfoldable pub signed_text : (top : ℕ) → Reader (ℕ × ℕ)
signed_text top l s = do
  (n, s₁) ← digits l top s
  s₂ ← expect l (bytes ";") s₁
  ok (n, s₂)

abbrev pub signed_told : (negative : Bool) → Told (ℕ × ℕ)
signed_told negative n next = tell (pattern 64 negative n.1) 0 0 next

abbrev pub is_minus : Sign → Bool
is_minus unsigned = false
is_minus plus = false
is_minus minus = true

-- an integer's sign, the index behind it and what it allows
pub record FrontIs (s : List ℕ) (at : ℕ) (r : Front) : Type 0 where
  pub sign : Sign
  pub is : sign_of (drop at s) ≡ (sign, drop r.from s)
  pub on : at ≤ r.from
  pub negative : r.negative ≡ is_minus sign
  pub top : r.top ≡ integer_limit sign

-- ---- the end of a float text

-- the index of the first semicolon from an index on
pub record SemicolonAt (s : List ℕ) (at next : ℕ) : Type 0 where
  pub part : until (byte ";") (drop at s) ≡ take (next - at) (drop at s)
  pub stop : get_or s next 0 ≡ byte ";"
  pub inside : next < length s
  pub on : at ≤ next

-- from `at` to i no semicolon stands
pub record Passed (s : List ℕ) (at i : ℕ) : Type 0 where
  pub part : until (byte ";") (drop at s) ≡ take (i - at) (drop at s) ++ until (byte ";") (drop i s)
  pub on : at ≤ i

-- no semicolon stands there
abbrev pub NoSemicolon : (s : List ℕ) (at : ℕ) → Type 0
NoSemicolon s at = until (byte ";") (drop at s) ≡ drop at s

-- nothing or an exponent, and a semicolon
pub record ExponentEnd (s : List ℕ) (at end : ℕ) : Type 0 where
  pub exponent : is_exponent (until (byte ";") (drop at s)) ≡ true
  pub semicolon : SemicolonAt s at end

-- a float text that ends at a semicolon
pub record PlainEnd (s : List ℕ) (from end : ℕ) : Type 0 where
  pub semicolon : SemicolonAt s from end
  pub float : is_float (take (end - from) (drop from s)) ≡ true
