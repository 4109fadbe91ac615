-- The answer of a part of reading: what was read, or a refusal with its number and position.
use Rattle.std.specs.Prelude.{Bool, true, false, ℕ}

pub data Answer (A : Type 0) : Type 0 where
  ok : A → Answer A
  refused : (code at : ℕ) → Answer A

infixl 10 ◌>>=◌
abbrev pub ◌>>=◌ : {A B : Type 0} → Answer A → (A → Answer B) → Answer B
◌>>=◌ (ok a) f = f a
◌>>=◌ (refused n p) f = refused n p

-- a refusal unless the test passes
abbrev pub require : Bool → (code at : ℕ) → Answer (Unit {0})
require true n p = ok tt
require false n p = refused n p
