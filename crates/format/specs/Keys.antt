-- What a key means, and when two keys are equal.
use Rattle.std.specs.Prelude.{List, [], ◌∷◌, Bool, false, ◌||◌, ℕ, eqb, ℤ, pos, negsuc, neg_ℤ}
use Rattle.format.specs.Bytes.{same_bytes}
use Rattle.format.specs.Syntax.{Sign, unsigned, plus, minus, Literal, KeyOf, int_key, string_key, map_key, Key}

abbrev pub signed : Sign → ℕ → ℤ
signed unsigned n = pos n
signed plus n = pos n
signed minus n = neg_ℤ (pos n)

abbrev pub integer : Literal → ℤ
integer x = signed x.sign x.magnitude

-- "a key its integer or bytes"
abbrev pub KeyMeaning : Type 0
KeyMeaning = KeyOf ℤ (List ℕ)

abbrev pub key_meaning : Key → KeyMeaning
key_meaning k = map_key integer (λ q. q.text) k

abbrev pub same_integer : ℤ → ℤ → Bool
same_integer (pos m) (pos n) = eqb m n
same_integer (pos m) (negsuc n) = false
same_integer (negsuc m) (pos n) = false
same_integer (negsuc m) (negsuc n) = eqb m n

-- "Two keys of one container are equal when both are i with equal value or both are s with equal bytes."
abbrev pub same_meaning : KeyMeaning → KeyMeaning → Bool
same_meaning (int_key m) (int_key n) = same_integer m n
same_meaning (int_key m) (string_key t) = false
same_meaning (string_key s) (int_key n) = false
same_meaning (string_key s) (string_key t) = same_bytes s t

abbrev pub same_key : Key → Key → Bool
same_key j k = same_meaning (key_meaning j) (key_meaning k)

-- 9: "key equal to an earlier key of its container"
abbrev pub has_key : Key → List Key → Bool
has_key k [] = false
has_key k (j ∷ js) = same_key k j || has_key k js
