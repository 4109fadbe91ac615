-- What the functions of this crate promise.
use Rattle.std.specs.Prelude.{◌≡◌, ℕ, ◌+◌, min, List, length, drop}
use Rattle.std.proofs.lemmas.List.Edits.{sets}
use Rattle.decimal.specs.Digits.{digits_of, value, decimal}
use Rattle.decimal.specs.Complement.{is_negative, magnitude}
use Rattle.decimal.specs.declared.Run.{Run}
use Rattle.decimal.specs.declared.Signed.{Signed}

-- a run from an index on: where it ends, and its value, held at a cap
pub record RunAt (source : List ℕ) (at cap : ℕ) (r : Run) : Type 0 where
  pub next : r.next ≡ at + length (digits_of (drop at source))
  pub value : r.value ≡ min cap (value (digits_of (drop at source)))

-- the shortest text of n stored from an index on, as far as there is room, and its length
pub record Stored (before : List ℕ) (at n written : ℕ) (after : List ℕ) : Type 0 where
  pub size : written ≡ length (decimal n)
  pub output : after ≡ sets before at (decimal n)

-- sign and magnitude of a word of so many bits
pub record SignedOf (bits word : ℕ) (r : Signed) : Type 0 where
  pub negative : r.negative ≡ is_negative bits word
  pub magnitude : r.magnitude ≡ magnitude bits word
