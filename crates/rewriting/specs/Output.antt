-- Texts put into a lent output.
use Rattle.std.specs.Prelude.{◌≡◌, List, ◌∷◌, Bool, true, false, ℕ, ◌+◌, ◌≤◌, min, length}
use Rattle.std.proofs.lemmas.List.Edits.{sets}
use Rattle.decimal.specs.Digits.{decimal}
use Rattle.decimal.specs.Complement.{is_negative, magnitude}
use Rattle.format.specs.Bytes.{byte}
use Rattle.rewriting.specs.declared.output.Output.{Output}

abbrev pub with_sign : (negative : Bool) → List ℕ → List ℕ
with_sign true t = byte "-" ∷ t
with_sign false t = t

-- the shortest text of the integer of a word
unfoldable pub signed_digits : (word : ℕ) → List ℕ
signed_digits w = with_sign (is_negative 64 w) (decimal (magnitude 64 w))

-- no index is greater
abbrev pub index_limit : ℕ
index_limit = 18446744073709551615

-- a text stored from index `w` on, as far as there is room, and the index behind it
pub record Puts (t : List ℕ) (w : ℕ) (out : List ℕ) (e : ℕ) (out' : List ℕ) : Type 0 where
  pub end : e ≡ w + length t
  pub text : out' ≡ sets out w t

-- a text stored behind what an output has, as far as there is room, and its length added; it is the same output
pub record Appends (t : List ℕ) (o o' : Output) : Type 0 where
  pub end : o'.length ≡ min index_limit (o.length + length t)
  pub text : o'.bytes.now ≡ sets o.bytes.now o.length t
  pub lent : o'.bytes.ghost_name ≡ o.bytes.ghost_name
  pub room : length o.bytes.now ≤ index_limit
