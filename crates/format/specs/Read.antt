-- Reading: the syntax of what is read, or the first refusal in the order of paper 01. First the plan's texts, in the order of the grammar; then the order
-- of refusals, limits, numbering, nesting and room, which know no form of writing.
use Rattle.std.specs.Prelude.{List, [], ◌∷◌, Bool, true, false, ◌&&◌, ◌||◌, not, ℕ, zero, suc, ◌+◌, ◌-◌, ltb, leb, eqb, length, take, drop}
use Rattle.decimal.specs.Digits.{digits_of, after_digits, value, decimal}
use Rattle.format.specs.Bytes.{byte, bytes, is_empty, same_bytes}
use Rattle.format.specs.Kind.{Kind, kinds, tag, key_kinds}
use Rattle.format.specs.Tree.{leaf, ref, branch, none, pair, nodes}
use Rattle.format.specs.Syntax.{int_key, string_key, null, bool, int, float, string, array, object, object_ref, variable_ref}
use Rattle.format.specs.Syntax.{Spelling, Literal, Quoted, Key, Scalar, Container, RefKind, Value, Values}
use Rattle.format.specs.Limits.{number_limit, source_limit, depth_limit, integer_limit, Terms, sign_of, is_float, Seen, unseen, see_branch, see}
use Rattle.format.specs.Keys.{has_key}
use Rattle.format.specs.Answer.{Answer, ok, refused, ◌>>=◌, require}

-- what is read of a text behind a tag at `l`, and what is left
abbrev pub Reader : Type 0 → Type 0
Reader A = (l : ℕ) → List ℕ → Answer (A × List ℕ)

-- ---- the plan's texts: "text not of its kind's form, or ends too soon" is 2 at the tag

-- these bytes, one after another
abbrev pub expect : (l : ℕ) → List ℕ → List ℕ → Answer (List ℕ)
expect l [] s = ok s
expect l (w ∷ ws) [] = refused 2 l
expect l (w ∷ ws) (b ∷ s) = elim (eqb w b) [ true ↦ expect l ws s | false ↦ refused 2 l ]

-- what stands before the next such byte
abbrev pub until : (stop : ℕ) → List ℕ → List ℕ
until stop [] = []
until stop (b ∷ s) = elim (eqb stop b) [ true ↦ [] | false ↦ b ∷ until stop s ]

-- "A run of digits is taken whole, then 5 is tested": its leading zeros and its value, at most `top`
unfoldable pub digits : (l top : ℕ) → List ℕ → Answer ((ℕ × ℕ) × List ℕ)
digits l top s = do
  _ ← require (ltb 0 (length (digits_of s))) 2 l
  _ ← require (leb (value (digits_of s)) top) 5 l
  ok ((length (digits_of s) - length (decimal (value (digits_of s))), value (digits_of s)), after_digits s)

-- "one leading `+`" (paper 02, L1): whether it stands in front, and what follows
abbrev pub plus_of : List ℕ → Bool × List ℕ
plus_of [] = (false, [])
plus_of (b ∷ s) = elim (eqb (byte "+") b) [ true ↦ (true, s) | false ↦ (false, b ∷ s) ]

-- a *number* of the grammar
unfoldable pub number : Reader (Spelling × ℕ)
number l s = do
  ((z, n), s₁) ← digits l number_limit (plus_of s).1
  ok ((record { plus = (plus_of s).0; zeros = z }, n), s₁)

-- b: "`b:0;` or `b:1;`"
unfoldable pub bool_text : Reader Bool
bool_text l s = do
  s₁ ← expect l (bytes ":") s
  _ ← require (same_bytes (take 1 s₁) (bytes "0") || same_bytes (take 1 s₁) (bytes "1")) 2 l
  s₂ ← expect l (bytes ";") (drop 1 s₁)
  ok (same_bytes (take 1 s₁) (bytes "1"), s₂)

-- i: "`i:`, optional `+` or `-`, digits, `;`"
unfoldable pub int_text : Reader Literal
int_text l s = do
  s₁ ← expect l (bytes ":") s
  ((z, n), s₂) ← digits l (integer_limit (sign_of s₁).0) (sign_of s₁).1
  s₃ ← expect l (bytes ";") s₂
  ok (record { sign = (sign_of s₁).0; zeros = z; magnitude = n }, s₃)

-- d: "`d:`, float text, `;`"; no float text holds a `;`
unfoldable pub float_text : Reader (List ℕ)
float_text l s = do
  s₁ ← expect l (bytes ":") s
  _ ← require (is_float (until (byte ";") s₁)) 2 l
  s₂ ← expect l (bytes ";") (drop (length (until (byte ";") s₁)) s₁)
  ok (until (byte ";") s₁, s₂)

-- a number, `:"`, "that many bytes of any kind", and what closes them: `";` in s, `":` in O
unfoldable pub quoted_text : (l : ℕ) → (close : List ℕ) → List ℕ → Answer (Quoted × List ℕ)
quoted_text l close s = do
  s₁ ← expect l (bytes ":") s
  ((w, n), s₂) ← number l s₁
  s₃ ← expect l (bytes ":\"") s₂
  _ ← require (leb n (length s₃)) 2 l
  s₄ ← expect l close (drop n s₃)
  ok (record { spelling = w; text = take n s₃ }, s₄)

-- what follows the tag of a scalar of this kind; other kinds are none
unfoldable pub scalar_text : Kind → Reader Scalar
scalar_text Kind.null l s = expect l (bytes ";") s >>= λ s₁. ok (null, s₁)
scalar_text Kind.bool l s = bool_text l s >>= λ (b, s₁). ok (bool b, s₁)
scalar_text Kind.int l s = int_text l s >>= λ (x, s₁). ok (int x, s₁)
scalar_text Kind.float l s = float_text l s >>= λ (t, s₁). ok (float t, s₁)
scalar_text Kind.string l s = quoted_text l (bytes "\";") s >>= λ (q, s₁). ok (string q, s₁)
scalar_text Kind.array l s = refused 3 l
scalar_text Kind.object l s = refused 3 l
scalar_text Kind.object_reference l s = refused 3 l
scalar_text Kind.variable_reference l s = refused 3 l

-- a count of pairs and the opening brace
unfoldable pub count_text : Reader (Spelling × ℕ)
count_text l s = do
  (n, s₁) ← number l s
  s₂ ← expect l (bytes ":{") s₁
  ok (n, s₂)

-- what follows a container's tag, up to its first pair: the container and its count
unfoldable pub head_text : (of_array : Bool) → Reader (Container × (Spelling × ℕ))
head_text true l s = do
  s₁ ← expect l (bytes ":") s
  (n, s₂) ← count_text l s₁
  ok ((array, n), s₂)
head_text false l s = do
  (q, s₁) ← quoted_text l (bytes "\":") s
  (n, s₂) ← count_text l s₁
  ok ((object q, n), s₂)

-- r, R: "letter, `:`, number, `;`": the ordinal that a reference names
unfoldable pub named_text : Reader (Spelling × ℕ)
named_text l s = do
  s₁ ← expect l (bytes ":") s
  (n, s₂) ← number l s₁
  s₃ ← expect l (bytes ";") s₂
  ok (n, s₃)

-- a key of an array or an object: an i or an s, since `read_key` lets no other kind through
unfoldable pub key_text : (of_array : Bool) → Kind → Reader Key
key_text of_array k l s = elim (eqb (tag k) (tag Kind.int)) [
  | true ↦ int_text l s >>= λ (x, s₁). ok (int_key x, s₁)
  | false ↦ quoted_text l (bytes "\";") s >>= λ (q, s₁). ok (string_key q, s₁)
]

-- ---- a form of writing: the first byte of each kind, the texts that may follow it, and what closes a container
pub record Form : Type 0 where
  pub first : Kind → ℕ
  pub scalar_text : Kind → Reader Scalar
  pub key_text : (of_array : Bool) → Kind → Reader Key
  pub head_text : (of_array : Bool) → Reader (Container × (Spelling × ℕ))
  pub named_text : Reader (Spelling × ℕ)
  pub close : List ℕ

abbrev pub plan_form : Form
plan_form = record { first = tag; scalar_text = scalar_text; key_text = key_text; head_text = head_text; named_text = named_text; close = bytes "}" }

-- ---- the order of refusals, in any form

-- "a choice among nine kind letters and nothing else": refusal `code` for another byte
abbrev pub kind_of : (first : Kind → ℕ) → List Kind → (code at : ℕ) → ℕ → Answer Kind
kind_of first [] code at b = refused code at
kind_of first (k ∷ more) code at b = elim (eqb (first k) b) [ true ↦ ok k | false ↦ kind_of first more code at b ]

-- the kind of the tag that stands here, and what follows; 2 at "plan's length if one should begin there"
abbrev pub tag_of : (first : Kind → ℕ) → List Kind → (code at : ℕ) → List ℕ → Answer (Kind × List ℕ)
tag_of first among code at [] = refused 2 at
tag_of first among code at (b ∷ s) = kind_of first among code at b >>= λ k. ok (k, s)

-- what a reading goes by: the form of writing, the length of the whole, and the service's terms
pub record Setting : Type 0 where
  pub form : Form
  pub size : ℕ
  pub terms : Terms

abbrev pub setting_in : Form → Terms → List ℕ → Setting
setting_in form terms source = record { form = form; size = length source; terms = terms }

abbrev pub setting : Terms → List ℕ → Setting
setting terms source = setting_in plan_form terms source

-- the position of the first byte of what is left
abbrev pub position : Setting → List ℕ → ℕ
position set s = set.size - length s

abbrev pub is_array : Container → Bool
is_array array = true
is_array (object q) = false

-- the reading of a value one level deeper: what is seen, the nodes before it, the bytes left
abbrev pub Inner : Type 0
Inner = Seen → (before : ℕ) → List ℕ → Answer (Value × List ℕ)

module _ (set : Setting) where
  -- 7: "no room for the node", so many being there before it
  abbrev pub room_for : (before at : ℕ) → Answer (Unit {0})
  room_for before at = require (ltb before set.terms.capacity) 7 at

  -- a key of an array or an object with the keys `earlier`: 4, then 7, then the text, then 9
  unfoldable pub read_key : (of_array : Bool) → (earlier : List Key) → (before : ℕ) → List ℕ → Answer (Key × List ℕ)
  read_key of_array earlier before s = do
    (k, s₁) ← tag_of set.form.first (key_kinds of_array) 4 (position set s) s
    _ ← room_for before (position set s)
    (x, s₂) ← set.form.key_text of_array k (position set s) s₁
    _ ← require (not (has_key x earlier)) 9 (position set s)
    ok (x, s₂)

  -- so many pairs
  abbrev pub read_pairs : Inner → (of_array : Bool) → (count : ℕ) → (earlier : List Key) → Seen → (before : ℕ) → List ℕ → Answer (Values × List ℕ)
  read_pairs inner of_array zero earlier seen before s = ok (none, s)
  read_pairs inner of_array (suc n) earlier seen before s = do
    (k, s₁) ← read_key of_array earlier before s
    (v, s₂) ← inner seen (suc before) s₁
    (ps, s₃) ← read_pairs inner of_array n (k ∷ earlier) (see seen v) (suc (before + nodes v)) s₂
    ok (pair k v ps, s₃)

  -- the head, the pairs and the end of a container whose tag stands at `l`
  unfoldable pub read_branch : Inner → (of_array : Bool) → (l : ℕ) → Seen → (before : ℕ) → List ℕ → Answer (Value × List ℕ)
  read_branch inner of_array l seen before s = do
    ((c, (w, n)), s₁) ← set.form.head_text of_array l s
    (ps, s₂) ← read_pairs inner (is_array c) n [] (see_branch seen) (suc before) s₁
    s₃ ← expect l set.form.close s₂
    ok (branch (record { container = c; spelling = w }) ps, s₃)

  -- "6 and 9 come after the closing `;`."
  unfoldable pub read_reference : RefKind → (l : ℕ) → Seen → List ℕ → Answer (Value × List ℕ)
  read_reference k l seen s = do
    ((w, t), s₁) ← set.form.named_text l s
    _ ← require (ltb 0 t && leb t seen) 6 l
    ok (ref (record { kind = k; spelling = w; named = t }), s₁)

  unfoldable pub read_scalar : Kind → (l : ℕ) → List ℕ → Answer (Value × List ℕ)
  read_scalar k l s = do
    (x, s₁) ← set.form.scalar_text k l s
    ok (leaf x, s₁)

  -- "The kind of a byte decides everything that follows": what follows the tag of a value
  unfoldable pub read_body : Inner → Kind → (l : ℕ) → Seen → (before : ℕ) → List ℕ → Answer (Value × List ℕ)
  read_body inner Kind.null l seen before s = read_scalar Kind.null l s
  read_body inner Kind.bool l seen before s = read_scalar Kind.bool l s
  read_body inner Kind.int l seen before s = read_scalar Kind.int l s
  read_body inner Kind.float l seen before s = read_scalar Kind.float l s
  read_body inner Kind.string l seen before s = read_scalar Kind.string l s
  read_body inner Kind.array l seen before s = read_branch inner true l seen before s
  read_body inner Kind.object l seen before s = read_branch inner false l seen before s
  read_body inner Kind.object_reference l seen before s = read_reference object_ref l seen s
  read_body inner Kind.variable_reference l seen before s = read_reference variable_ref l seen s

  -- "At a letter: 3 or 4, then 8, then 7, then the text from left to right": a value, so many levels being left
  abbrev pub read_value : (levels : ℕ) → Inner
  read_value zero seen before s = do
    _ ← tag_of set.form.first kinds 3 (position set s) s
    refused 8 (position set s)
  read_value (suc levels) seen before s = do
    (k, s₁) ← tag_of set.form.first kinds 3 (position set s) s
    _ ← room_for before (position set s)
    read_body (read_value levels) k (position set s) seen before s₁

-- "Reading: 1 first, then left to right. … 10 is last."
unfoldable pub read_in : Form → Terms → List ℕ → Answer Value
read_in form terms source = do
  _ ← require (leb (length source) source_limit) 1 0
  (v, s) ← read_value (setting_in form terms source) depth_limit unseen 0 source
  _ ← require (is_empty s) 10 (position (setting_in form terms source) s)
  ok v

-- reading a plan
abbrev pub read : Terms → List ℕ → Answer Value
read terms source = read_in plan_form terms source
