-- What a token's first byte tells of it. Assumes nothing.
use Prim.Native.Nat.{ℕ}
use native.Mathlib.Omega.{arith}
use mathlib.Core.Path.{◌≡◌, refl}
use mathlib.Core.Logic.{inl, inr, ⊎_elim}
use mathlib.Core.List.{List, ◌∷◌}
use Rattle.format.specs.Syntax.{null, bool, int, float, string, array, object, Spelling, Scalar, Container, RefKind, object_ref, variable_ref}
use Rattle.tokens.specs.Tokens.{Token, scalar, reference, opening, closing, write_token, closes_of, opens_of, closes, opens}
use Rattle.tokens.specs.Tokens.{ReferenceTag}

abbrev pub Refers : Token → Type 0
Refers (scalar x) = ⊥
Refers (reference r) = Unit {0}
Refers (opening h n) = ⊥
Refers closing = ⊥

pub record Tagged (t : Token) (rest : List ℕ) : Type 0 where
  pub byte : ℕ
  pub behind : List ℕ
  pub is : write_token t rest ≡ byte ∷ behind
  pub opens : opens_of byte ≡ opens t
  pub closes : closes_of byte ≡ closes t
  pub refers : ReferenceTag byte → Refers t
  pub referred : Refers t → ReferenceTag byte

scalar-tagged : (x : Scalar) (rest : List ℕ) → Tagged (scalar x) rest
scalar-tagged null rest = record {
  byte = 78;
  behind = _;
  is = refl;
  opens = refl;
  closes = refl;
  refers = λ o. ⊎_elim (λ i. omega (arith, i)) (λ i. omega (arith, i)) o;
  referred = λ e. absurd e;
}
scalar-tagged (bool b) rest = record {
  byte = 98;
  behind = _;
  is = refl;
  opens = refl;
  closes = refl;
  refers = λ o. ⊎_elim (λ i. omega (arith, i)) (λ i. omega (arith, i)) o;
  referred = λ e. absurd e;
}
scalar-tagged (int x) rest = record {
  byte = 105;
  behind = _;
  is = refl;
  opens = refl;
  closes = refl;
  refers = λ o. ⊎_elim (λ i. omega (arith, i)) (λ i. omega (arith, i)) o;
  referred = λ e. absurd e;
}
scalar-tagged (float f) rest = record {
  byte = 100;
  behind = _;
  is = refl;
  opens = refl;
  closes = refl;
  refers = λ o. ⊎_elim (λ i. omega (arith, i)) (λ i. omega (arith, i)) o;
  referred = λ e. absurd e;
}
scalar-tagged (string q) rest = record {
  byte = 115;
  behind = _;
  is = refl;
  opens = refl;
  closes = refl;
  refers = λ o. ⊎_elim (λ i. omega (arith, i)) (λ i. omega (arith, i)) o;
  referred = λ e. absurd e;
}

opening-tagged : (c : Container) (w : Spelling) (n : ℕ) (rest : List ℕ) → Tagged (opening (record { container = c; spelling = w }) n) rest
opening-tagged array w n rest = record {
  byte = 97;
  behind = _;
  is = refl;
  opens = refl;
  closes = refl;
  refers = λ o. ⊎_elim (λ i. omega (arith, i)) (λ i. omega (arith, i)) o;
  referred = λ e. absurd e;
}
opening-tagged (object q) w n rest = record {
  byte = 79;
  behind = _;
  is = refl;
  opens = refl;
  closes = refl;
  refers = λ o. ⊎_elim (λ i. omega (arith, i)) (λ i. omega (arith, i)) o;
  referred = λ e. absurd e;
}

reference-tagged : (d : RefKind) (w : Spelling) (n : ℕ) (rest : List ℕ) → Tagged (reference (record { kind = d; spelling = w; named = n })) rest
reference-tagged object_ref w n rest = record { byte = 114; behind = _; is = refl; opens = refl; closes = refl; refers = λ o. tt; referred = λ e. inr refl }
reference-tagged variable_ref w n rest = record { byte = 82; behind = _; is = refl; opens = refl; closes = refl; refers = λ o. tt; referred = λ e. inl refl }

pub tagged : (t : Token) (rest : List ℕ) → Tagged t rest
tagged (scalar x) rest = scalar-tagged x rest
tagged (reference r) rest = reference-tagged r.kind r.spelling r.named rest
tagged (opening h n) rest = opening-tagged h.container h.spelling n rest
tagged closing rest = record {
  byte = 125;
  behind = _;
  is = refl;
  opens = refl;
  closes = refl;
  refers = λ o. ⊎_elim (λ i. omega (arith, i)) (λ i. omega (arith, i)) o;
  referred = λ e. absurd e;
}
