-- The nine kinds, by their tags. (The paper's letter of a kind is its tag.)
use Rattle.std.specs.Prelude.{List, [], ◌∷◌, Bool, true, false, ◌||◌, ℕ, eqb}
use Rattle.format.specs.Bytes.{byte}

-- "Taken: the kinds N, b, i, d, s, a, O, r and R."
pub data Kind : Type 0 where
  null bool int float string array object object_reference variable_reference : Kind

abbrev pub kinds : List Kind
kinds = null ∷ bool ∷ int ∷ float ∷ string ∷ array ∷ object ∷ object_reference ∷ variable_reference ∷ []

abbrev pub tag : Kind → ℕ
tag null = byte "N"
tag bool = byte "b"
tag int = byte "i"
tag float = byte "d"
tag string = byte "s"
tag array = byte "a"
tag object = byte "O"
tag object_reference = byte "r"
tag variable_reference = byte "R"

-- "plain value (N, b, i, d or s)"
abbrev pub scalar_kinds : List Kind
scalar_kinds = null ∷ bool ∷ int ∷ float ∷ string ∷ []

-- whether a byte is the tag of one of these kinds
abbrev pub is_tag_of : List Kind → ℕ → Bool
is_tag_of [] b = false
is_tag_of (k ∷ more) b = eqb b (tag k) || is_tag_of more b

-- "Each value takes the next number … Two things take none: keys, and every R. An r does take one."
abbrev pub ordinal_kinds : List Kind
ordinal_kinds = null ∷ bool ∷ int ∷ float ∷ string ∷ array ∷ object ∷ object_reference ∷ []

abbrev pub has_ordinal : ℕ → Bool
has_ordinal b = is_tag_of ordinal_kinds b

-- "A key of `a` is an i or an s; a key of `O` is an s"
abbrev pub key_kinds : (of_array : Bool) → List Kind
key_kinds true = int ∷ string ∷ []
key_kinds false = string ∷ []

abbrev pub may_be_key : ℕ → Bool
may_be_key b = is_tag_of (key_kinds true) b

-- "d, s: offset of the text. O: offset of the class name."
abbrev pub text_kinds : List Kind
text_kinds = float ∷ string ∷ object ∷ []

abbrev pub has_text : ℕ → Bool
has_text b = is_tag_of text_kinds b
