-- What was read of a token is what was written. Assumes nothing.
use Prim.Native.Nat.{ℕ}
use mathlib.Core.Path.{◌≡◌, refl, ap, ◌∙◌, subst}
use mathlib.Core.Bool.{Bool, true, false}
use mathlib.Core.List.{List, [], ◌∷◌}
use lib.Dec.{eqb}
use borrow.Author.Tests.{eqb-true}
use Rattle.format.specs.Kind.{Kind, scalar_kinds, tag}
use Rattle.format.specs.Syntax.{Scalar, Spelling, Container, RefKind, object_ref, variable_ref, ref_kind, write_scalar}
use Rattle.format.specs.Fits.{ScalarFits}
use Rattle.format.specs.Answer.{Answer, ok, ◌>>=◌}
use Rattle.format.specs.Read.{kind_of, named_text, head_text}
use Rattle.format.proofs.Answers.{ok_same, not_both, bind_ok}
use Rattle.format.proofs.Forms.{container_kind}
use Rattle.format.proofs.Texts.{tag-ok, scalar_text-ok, head_ok, named_ok}
use Rattle.scanner.specs.Scans.{scalar_behind}
use Rattle.tokens.specs.Tokens.{Token, scalar, closing, opening_of, reference_of, token_behind, read_token, write_token, TokenFits}

-- ---- scalars

abbrev Got : List ℕ → Scalar × List ℕ → Type 0
Got s q = (s ≡ write_scalar q.0 q.1) × ScalarFits q.0

pub scalar_read : (b l : ℕ) (s : List ℕ) (q : Scalar × List ℕ) → scalar_behind b l s ≡ ok q → Got (b ∷ s) q
unfolding scalar_behind
scalar_read b l s q e =
    let a = bind_ok (kind_of tag scalar_kinds 3 l b) _ q e in
    let tagged = (tag-ok scalar_kinds 3 l (b ∷ s) (a.0, s) (ap (λ (o : Answer Kind). o >>= λ k. ok (k, s)) a.1)).text in
    let g = scalar_text-ok a.0 l s q a.2 in
    (tagged ∙ g.text, g.fits)

-- ---- heads and references

abbrev GotToken : List ℕ → Token × List ℕ → Type 0
GotToken s q = (s ≡ write_token q.0 q.1) × TokenFits q.0

named-read : (k : RefKind) (l : ℕ) (s : List ℕ) (q : (Spelling × ℕ) × List ℕ) → named_text l s ≡ ok q
    → GotToken (tag (ref_kind k) ∷ s) (reference_of k q.0, q.1)
named-read k l s q e = let g = named_ok l s q e in (ap {B = List ℕ} (λ y. tag (ref_kind k) ∷ y) g.text, g.fits)

head_read : (of_array : Bool) (l : ℕ) (s : List ℕ) (q : (Container × (Spelling × ℕ)) × List ℕ) → head_text of_array l s ≡ ok q
    → GotToken (tag (container_kind of_array) ∷ s) (opening_of q.0, q.1)
head_read of_array l s q e = let g = head_ok of_array l s q e in (g.text, (g.fits, g.few))

-- ---- tokens

module _ (l b : ℕ) (s : List ℕ) (q : Token × List ℕ) where
  as_scalar : (scalar_behind b l s >>= λ (x, s₁). ok (scalar x, s₁)) ≡ ok q → GotToken (b ∷ s) q
  as_scalar e = let a = bind_ok (scalar_behind b l s) _ q e in subst (GotToken (b ∷ s)) (ok_same a.2) (scalar_read b l s a.0 a.1)

  as_reference : (k : RefKind) → b ≡ tag (ref_kind k) → (named_text l s >>= λ (n, s₁). ok (reference_of k n, s₁)) ≡ ok q → GotToken (b ∷ s) q
  as_reference k i e = let a = bind_ok (named_text l s) _ q e in subst (GotToken (b ∷ s)) (ok_same a.2) (rw i (named-read k l s a.0 a.1))

  as_head : (a : Bool) → b ≡ tag (container_kind a) → (head_text a l s >>= λ (h, s₁). ok (opening_of h, s₁)) ≡ ok q → GotToken (b ∷ s) q
  as_head o i e = let a = bind_ok (head_text o l s) _ q e in subst (GotToken (b ∷ s)) (ok_same a.2) (rw i (head_read o l s a.0 a.1))

  -- by the tests for the tags, in their order
  abbrev chosen : (brace array object object_reference variable_reference : Bool) → Answer (Token × List ℕ)
  chosen c₁ c₂ c₃ c₄ c₅ = elim c₁ [
    | true ↦ ok (closing, s)
    | false ↦ elim c₂ [
      | true ↦ head_text true l s >>= λ (h, s₁). ok (opening_of h, s₁)
      | false ↦ elim c₃ [
        | true ↦ head_text false l s >>= λ (h, s₁). ok (opening_of h, s₁)
        | false ↦ elim c₄ [
          | true ↦ named_text l s >>= λ (n, s₁). ok (reference_of object_ref n, s₁)
          | false ↦ elim c₅ [
            | true ↦ named_text l s >>= λ (n, s₁). ok (reference_of variable_ref n, s₁)
            | false ↦ scalar_behind b l s >>= λ (x, s₁). ok (scalar x, s₁)
          ]
        ]
      ]
    ]
  ]

  by_tests : (c₁ c₂ c₃ c₄ c₅ : Bool) → eqb b 125 ≡ c₁ → eqb b 97 ≡ c₂ → eqb b 79 ≡ c₃ → eqb b 114 ≡ c₄ → eqb b 82 ≡ c₅ → chosen c₁ c₂ c₃ c₄ c₅ ≡ ok q
      → GotToken (b ∷ s) q
  by_tests true c₂ c₃ c₄ c₅ f₁ f₂ f₃ f₄ f₅ e = subst (GotToken (b ∷ s)) (ok_same e) (ap {B = List ℕ} (λ y. y ∷ s) (eqb-true b 125 f₁), tt)
  by_tests false true c₃ c₄ c₅ f₁ f₂ f₃ f₄ f₅ e = as_head true (eqb-true b 97 f₂) e
  by_tests false false true c₄ c₅ f₁ f₂ f₃ f₄ f₅ e = as_head false (eqb-true b 79 f₃) e
  by_tests false false false true c₅ f₁ f₂ f₃ f₄ f₅ e = as_reference object_ref (eqb-true b 114 f₄) e
  by_tests false false false false true f₁ f₂ f₃ f₄ f₅ e = as_reference variable_ref (eqb-true b 82 f₅) e
  by_tests false false false false false f₁ f₂ f₃ f₄ f₅ e = as_scalar e

  behind-read : token_behind b l s ≡ ok q → GotToken (b ∷ s) q
  unfolding token_behind
  behind-read e = by_tests (eqb b 125) (eqb b 97) (eqb b 79) (eqb b 114) (eqb b 82) refl refl refl refl refl e

-- WHAT IS READ IS WHAT STANDS THERE
pub token-read : (l : ℕ) (s : List ℕ) (q : Token × List ℕ) → read_token l s ≡ ok q → GotToken s q
unfolding read_token
token-read l [] q e = absurd (not_both e)
token-read l (b ∷ s) q e = behind-read l b s q e
