-- Accepted exactly when it fits; one syntax, so one meaning. Assumes nothing.
use mathlib.Core.Path.{◌≡◌, refl, sym, ap, ◌∙◌}
use mathlib.Core.Logic.{◌⊎◌, inl, inr, ◌↔◌}
use mathlib.Core.List.{List}
use Prim.Native.Nat.{ℕ, ◌+◌}
use native.Mathlib.Omega.{arith}
use Rattle.format.specs.Tree.{nodes}
use Rattle.format.specs.Syntax.{Value, print}
use Rattle.format.specs.Limits.{Terms}
use Rattle.format.specs.Fits.{Valid, Fits, IsPlan}
use Rattle.format.specs.Answer.{Answer, ok, refused}
use Rattle.format.specs.Read.{read}
use Rattle.format.specs.Meaning.{Meaning, meaning, Means}
use Rattle.format.proofs.Answers.{ok_same, not_both}
use Rattle.format.proofs.Printed.{read-print}
use Rattle.format.proofs.Inversion.{read_ok}

-- Demand 2: "A plan is accepted exactly when it fits paper 01."
pub accepted-exactly : (terms : Terms) (source : List ℕ) (v : Value) → (read terms source ≡ ok v) ↔ IsPlan terms source v
accepted-exactly terms source v = (read_ok terms source v, λ p. ap (read terms) p.printed ∙ read-print terms v p.fits)

-- that syntax is the only one
pub unique : (v w : Value) → Valid v → Valid w → print v ≡ print w → v ≡ w
unique v w f g e =
    let more : Terms = record { capacity = nodes v + nodes w } in
    ok_same (sym (read-print more v (record { valid = f; small = omega arith })) ∙ ap (read more) e
    ∙ read-print more w (record { valid = g; small = omega arith }))

-- "A plan's meaning follows from its bytes alone."
pub one-meaning : (source : List ℕ) (m n : Meaning) → Means source m → Means source n → m ≡ n
one-meaning source m n a b = sym a.is ∙ ap meaning (unique a.syntax b.syntax a.valid b.valid (sym a.printed ∙ b.printed)) ∙ b.is

-- what is accepted means the meaning of what was read
pub accepted-means : (terms : Terms) (source : List ℕ) (v : Value) → read terms source ≡ ok v → Means source (meaning v)
accepted-means terms source v e =
    let p = read_ok terms source v e in
    record { syntax = v; valid = p.fits.valid; printed = p.printed; is = refl }

-- Demand 1, "Bad input is refused … and never otherwise": a plan that fits is not refused
pub never-refused : (terms : Terms) (v : Value) (n p : ℕ) → Fits terms v → read terms (print v) ≡ refused n p → ⊥
never-refused terms v n p f e = not_both (sym e ∙ read-print terms v f)

-- and what is refused fits in no way
pub refused-unfit : (terms : Terms) (source : List ℕ) (n p : ℕ) → read terms source ≡ refused n p → (v : Value) → IsPlan terms source v → ⊥
refused-unfit terms source n p e v q = never-refused terms v n p q.fits (ap (read terms) (sym q.printed) ∙ e)

-- every plan is accepted or refused
told : (a : Answer Value) → ((v : Value) × (a ≡ ok v)) ⊎ ((n : ℕ) × (p : ℕ) × (a ≡ refused n p))
told (ok v) = inl (v, refl)
told (refused n p) = inr (n, p, refl)

pub accepted_or_refused : (terms : Terms) (source : List ℕ)
    → ((v : Value) × (read terms source ≡ ok v)) ⊎ ((n : ℕ) × (p : ℕ) × (read terms source ≡ refused n p))
accepted_or_refused terms source = told (read terms source)
