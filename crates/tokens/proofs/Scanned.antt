-- One token, as scanned. Assumes nothing.
use Prim.Native.Nat.{ℕ, ◌+◌, ◌≤◌, ◌<◌}
use native.Mathlib.Numerals.{add-one}
use native.Mathlib.Omega.{arith}
use mathlib.Core.Path.{◌≡◌, refl, ◌∙◌}
use mathlib.Core.Bool.{true, false}
use mathlib.Core.Logic.{◌⊎◌, inl, inr, ⊎_elim}
use mathlib.Core.List.{List, ◌∷◌}
use lib.ListN.{length, get_or, drop, drop_of_length-le}
use lib.Seq.{drop-cons}
use borrow.Author.Tests.{ne_eqb}
use Rattle.std.specs.Prelude.{Ok, Err}
use Rattle.format.specs.declared.codes.Code.{Code}
use Rattle.format.specs.Bytes.{byte}
use Rattle.format.specs.Kind.{Kind, tag}
use Rattle.format.specs.Syntax.{object_ref, variable_ref}
use Rattle.format.specs.Read.{named_text, head_text}
use Rattle.scanner.specs.Scans.{Scan, Scans, scalar_behind, tell, value_told, scalar_told, head_told}
use Rattle.scanner.proofs.Numbers.{scans-is, scans_not, scans-from, scans-map}
use Rattle.tokens.specs.Tokens.{scalar, closing, opening_of, reference_of, token_behind, read_token, token_told}

module _ (s : List ℕ) (at : ℕ) where
  pub token-none : length s ≤ at → Scans read_token (token_told at) s at (Err Code.TextUnfit)
  unfolding read_token
  token-none h = scans_not Code.TextUnfit (λ l. rw (drop_of_length-le s {i = at} h))

  module _ (b : ℕ) (h : at < length s) (e : get_or s at 0 ≡ b) where
    tagged : drop at s ≡ b ∷ drop (at + 1) s
    tagged = drop-cons s at 0 h ∙ rw (e, add-one)

    -- a tag, and what follows it
    behind : (r : Scan) → Scans (token_behind b) (token_told at) s (at + 1) r → Scans read_token (token_told at) s at r
    unfolding read_token
    behind r h = scans-from h (omega arith) (λ l. rw tagged)

    pub token-closing : b ≡ byte "}" → Scans read_token (token_told at) s at (Ok (tell 0 0 0 (at + 1)))
    unfolding read_token token_behind
    token-closing i = scans-is (tell 0 0 0 (at + 1)) record { what = closing; is = λ l. rw (tagged, i); tells = refl; on = omega arith; inside = omega arith }

    module _ (r : Scan) where
      pub token-array : b ≡ tag Kind.array → Scans (head_text true) (head_told (at + 1)) s (at + 1) r → Scans read_token (token_told at) s at r
      unfolding token_behind
      token-array i f = behind r (scans-map opening_of (λ l s. rw i) (λ x next. refl) f)

      pub token-object : b ≡ tag Kind.object → Scans (head_text false) (head_told (at + 1)) s (at + 1) r → Scans read_token (token_told at) s at r
      unfolding token_behind
      token-object i f = behind r (scans-map opening_of (λ l s. rw i) (λ x next. refl) f)

      pub token-reference : (b ≡ tag Kind.variable_reference) ⊎ (b ≡ tag Kind.object_reference) → Scans named_text value_told s (at + 1) r
          → Scans read_token (token_told at) s at r
      unfolding token_behind
      token-reference o f =
          behind r
          (⊎_elim (λ i. scans-map (reference_of variable_ref) (λ l s. rw i) (λ x next. refl) f)
          (λ i. scans-map (reference_of object_ref) (λ l s. rw i) (λ x next. refl) f) o)

      pub token-scalar : (b ≡ byte "}" → ⊥) → (b ≡ tag Kind.array → ⊥) → (b ≡ tag Kind.object → ⊥)
          → ((b ≡ tag Kind.variable_reference) ⊎ (b ≡ tag Kind.object_reference) → ⊥)
          → Scans (scalar_behind b) (scalar_told (at + 1)) s (at + 1) r → Scans read_token (token_told at) s at r
      unfolding token_behind
      token-scalar c a o p f =
          behind r (scans-map scalar (λ l s. rw (
            token_behind,
            ne_eqb b 125 c,
            ne_eqb b 97 a,
            ne_eqb b 79 o,
            ne_eqb b 114 (λ i. p (inr i)),
            ne_eqb b 82 (λ i. p (inl i)),
          )) (λ x next. refl) f)
