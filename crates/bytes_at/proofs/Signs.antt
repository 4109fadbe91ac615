-- Laws of a sign at an index, and of a number's plus. Assumes nothing.
use Prim.Native.Nat.{ℕ, ◌+◌, ◌≤◌}
use native.Mathlib.Omega.{arith}
use mathlib.Core.Path.{◌≡◌, ap}
use mathlib.Core.Bool.{true, false}
use mathlib.Core.List.{List}
use lib.Dec.{eqb, lit<}
use lib.ListN.{length, drop, drop_of_length-le}
use lib.Seq.{drop-cons}
use Rattle.decimal.proofs.Decide.{Order, below, above, order}
use Rattle.format.specs.Bytes.{byte}
use Rattle.format.specs.Syntax.{Sign, unsigned, plus, minus}
use Rattle.format.specs.Limits.{sign_of}
use Rattle.format.specs.Read.{plus_of}
use Rattle.bytes_at.specs.ByteAt.{byte_at}
use Rattle.bytes_at.proofs.BytesAt.{drop-byte, byte-other}

-- the sign in front, and the index behind it
pub record SignAt (s : List ℕ) (at : ℕ) (sign : Sign) (next : ℕ) : Type 0 where
  pub is : sign_of (drop at s) ≡ (sign, drop next s)
  pub on : at ≤ next

module _ (s : List ℕ) (at : ℕ) where
  pub sign-plus : eqb (byte_at s at) (byte "+") ≡ true → SignAt s at plus (at + 1)
  sign-plus e = record { is = ap sign_of (drop-byte s at (byte "+") (lit< tt) e); on = omega arith }

  pub sign-minus : eqb (byte_at s at) (byte "-") ≡ true → SignAt s at minus (at + 1)
  sign-minus e = record { is = ap sign_of (drop-byte s at (byte "-") (lit< tt) e); on = omega arith }

  pub sign-none : eqb (byte_at s at) (byte "+") ≡ false → eqb (byte_at s at) (byte "-") ≡ false → SignAt s at unsigned at
  sign-none p m = record { is = go (order at (length s)); on = omega arith }
    where
      go : Order at (length s) → sign_of (drop at s) ≡ (unsigned, drop at s)
      go (below k) = rw (drop-cons s at 0 k, sign_of, byte-other s at (byte "+") k p, byte-other s at (byte "-") k m)
      go (above k) = rw (drop_of_length-le s k)

  -- a number's plus
  pub plus-there : eqb (byte_at s at) (byte "+") ≡ true → plus_of (drop at s) ≡ (true, drop (at + 1) s)
  plus-there e = ap plus_of (drop-byte s at (byte "+") (lit< tt) e)

  pub plus_none : eqb (byte_at s at) (byte "+") ≡ false → plus_of (drop at s) ≡ (false, drop at s)
  plus_none p = go (order at (length s))
    where
      go : Order at (length s) → plus_of (drop at s) ≡ (false, drop at s)
      go (below k) = rw (drop-cons s at 0 k, plus_of, byte-other s at (byte "+") k p)
      go (above k) = rw (drop_of_length-le s k)
