-- One higher from an ordinal on: inserting's renumbering. Assumes nothing.
use Prim.Native.Nat.{ℕ, suc}
use native.Mathlib.Omega.{arith}
use mathlib.Core.Path.{◌≡◌, refl, ap, ap₂}
use mathlib.Core.Bool.{Bool, true, false}
use mathlib.Core.List.{List, [], ◌∷◌, map}
use lib.Dec.{leb}
use Rattle.format.specs.Syntax.{Reference}
use Rattle.format.specs.Canonical.{shortest}
use Rattle.format.specs.Edit.{raised}
use Rattle.tokens.specs.Tokens.{Token, scalar, reference, opening, closing, raised_token}
use Rattle.rewriting.specs.Rewriting.{is_renumbered, new_number, raising, renumbered, renumbered_token}

abbrev higher : Reference → (n : ℕ) → Reference
higher r n = record { kind = r.kind; spelling = shortest; named = n }

pub raised_is : (k : ℕ) (r : Reference) → renumbered (raising k) r ≡ raised k r
unfolding is_renumbered
raised_is k r = by (leb k r.named)
  where
    by : (b : Bool) → ◌≡◌ {A = Reference} (elim b [ true ↦ higher r (new_number (raising k) r.named) | false ↦ r ])
        (elim b [ true ↦ higher r (suc r.named) | false ↦ r ])
    by true = let next : new_number (raising k) r.named ≡ suc r.named = omega arith in ap (higher r) next
    by false = refl

raised-token : (k : ℕ) (t : Token) → renumbered_token (raising k) t ≡ raised_token k t
raised-token k (scalar x) = refl
raised-token k (reference r) = ap reference (raised_is k r)
raised-token k (opening h n) = refl
raised-token k closing = refl

pub raised-tokens : (k : ℕ) (ts : List Token) → map (renumbered_token (raising k)) ts ≡ map (raised_token k) ts
raised-tokens k [] = refl
raised-tokens k (t ∷ ts) = ap₂ {C = List Token} ◌∷◌ (raised-token k t) (raised-tokens k ts)
