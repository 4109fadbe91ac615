-- What the public scans promise: the definition's answer from their index on, and what the text tells its node.
use Rattle.std.specs.Prelude.{Result, Ok, Err, Option, ◌≡◌, List, [], ◌∷◌, Bool, true, ◌&&◌, not, eqb, ℕ, ◌+◌, ◌-◌, ◌≤◌, ◌<◌, length, drop}
use Rattle.std.specs.Bool.{then_some}
use Rattle.decimal.specs.Digits.{digits_of, after_digits}
use Rattle.format.specs.Bytes.{byte, bytes, is_empty}
use Rattle.format.specs.Tree.{one}
use Rattle.format.specs.Kind.{scalar_kinds, tag}
use Rattle.format.specs.Syntax.{null, bool, int, float, string, Scalar, array, object, Spelling, Literal, Quoted, Container, write_number}
use Rattle.format.specs.Keys.{integer}
use Rattle.format.specs.Answer.{Answer, ok, refused, ◌>>=◌}
use Rattle.format.specs.Read.{Reader, expect, until, scalar_text, kind_of}
use Rattle.format.specs.Table.{word}
use Rattle.format.specs.declared.codes.Code.{Code}
use Rattle.format.specs.Codes.{number_of}
use Rattle.bytes_at.specs.ByteAt.{byte_at}
use Rattle.scanner.specs.declared.Text.{Text}

-- what a text tells its node, the index after it being `next`
abbrev pub Told : Type 0 → Type 0
Told A = A → (next : ℕ) → Text

-- a text, or the number of its refusal; the position is the tag's, which the caller knows
abbrev pub Scan : Type 0
Scan = Result Text Code

-- the paper's number and values for each case, the tag standing at an index that the caller knows:
-- "A refusal returns its number and a position"; of 2, 3 and 5 that is the letter's
abbrev pub scan_answer : (at : ℕ) → Scan → Answer Text
scan_answer at (Ok x) = ok x
scan_answer at (Err c) = refused (number_of c) at

-- WHAT A SCAN ANSWERS behind a tag at `l`: what is read from `at` on, as words and the index behind it
unfoldable pub text_answer : {A : Type 0} → Reader A → Told A → (s : List ℕ) → (at l : ℕ) → Answer Text
text_answer read told s at l = read l (drop at s) >>= λ (x, rest). ok (told x (length s - length rest))

-- a text from `at` on: what is read of it, that it tells that, and where it ends
pub record Found {A : Type 0} (read : Reader A) (told : Told A) (s : List ℕ) (at : ℕ) (t : Text) : Type 0 where
  pub what : A
  pub is : (l : ℕ) → read l (drop at s) ≡ ok (what, drop t.next s)
  pub tells : t ≡ told what t.next
  pub on : at < t.next
  pub inside : t.next ≤ length s

-- the same for those who go on reading: what is read of a text that was found; and reading refuses one that was refused
pub record Scans {A : Type 0} (read : Reader A) (told : Told A) (s : List ℕ) (at : ℕ) (r : Scan) : Type 0 where
  pub found : (l : ℕ) (t : Text) → scan_answer l r ≡ ok t → Found read told s at t
  pub unfit : (l c : ℕ) → scan_answer l r ≡ refused c l → read l (drop at s) ≡ refused c l

-- the promise of each scan, wherever the tag stands
pub record Answers {A : Type 0} (read : Reader A) (told : Told A) (s : List ℕ) (at : ℕ) (r : Scan) : Type 0 where
  pub answer : (l : ℕ) → scan_answer l r ≡ text_answer read told s at l
  pub scans : Scans read told s at r

-- ---- the texts that are part of a text of `Read`

-- the semicolon of an N
unfoldable pub null_text : Reader (Unit {0})
null_text l s = do
  s₁ ← expect l (bytes ";") s
  ok (tt, s₁)

-- what follows a tag, if it is a scalar's
unfoldable pub scalar_behind : (tag : ℕ) → Reader Scalar
scalar_behind b l s = kind_of tag scalar_kinds 3 l b >>= λ k. scalar_text k l s

-- ---- what they tell: words 2, 3 and 4

abbrev pub tell : (content size link next : ℕ) → Text
tell content size link next = record { content = content; size = size; link = link; next = next }

abbrev pub nothing_told : Told (Unit {0})
nothing_told u next = tell 0 0 0 next

abbrev pub bool_told : Told Bool
bool_told b next = tell (one b) 0 0 next

abbrev pub value_told : {Z : Type 0} → Told (Z × ℕ)
value_told n next = tell n.1 0 0 next

abbrev pub literal_told : Told Literal
literal_told x next = tell (word (integer x)) 0 0 next

abbrev pub count_told : Told (Spelling × ℕ)
count_told n next = tell 0 0 n.1 next

-- the text's offset and its length: behind the colon, and behind its length, a colon and a quote
abbrev pub float_told : (at : ℕ) → Told (List ℕ)
float_told at t next = tell (at + 1) (length t) 0 next

abbrev pub quoted_told : (at : ℕ) → Told Quoted
quoted_told at q next = tell (at + 3 + length (write_number q.spelling (length q.text) [])) (length q.text) 0 next

abbrev pub scalar_told : (at : ℕ) → Told Scalar
scalar_told at null next = tell 0 0 0 next
scalar_told at (bool b) next = bool_told b next
scalar_told at (int x) next = literal_told x next
scalar_told at (float t) next = float_told at t next
scalar_told at (string q) next = quoted_told at q next

-- a class name tells its offset and length as a string does
abbrev pub container_told : (at : ℕ) → Container → (link next : ℕ) → Text
container_told at array link next = tell 0 0 link next
container_told at (object q) link next = tell (quoted_told at q next).content (length q.text) link next

abbrev pub head_told : (at : ℕ) → Told (Container × (Spelling × ℕ))
head_told at h next = container_told at h.0 h.1.1 next

-- ---- float texts of digits with at most one point, which need no other look

-- nothing, or a point and digits alone
abbrev pub is_fraction : List ℕ → Bool
is_fraction [] = true
is_fraction (b ∷ t) = eqb (byte ".") b && is_empty (after_digits t)

-- digits, and such a fraction
abbrev pub is_plain : List ℕ → Bool
is_plain t = not (is_empty (digits_of t)) && is_fraction (after_digits t)

-- the index of the next semicolon, or the source's length
abbrev pub semicolon_from : (s : List ℕ) (from : ℕ) → ℕ
semicolon_from s from = from + length (until (byte ";") (drop from s))

-- that index, if such a text stands before it and the semicolon is there
unfoldable pub plain_float_end : (s : List ℕ) (from : ℕ) → Option ℕ
plain_float_end s from =
    then_some (is_plain (until (byte ";") (drop from s)) && eqb (byte_at s (semicolon_from s from)) (byte ";")) (semicolon_from s from)
