-- Laws of the texts of scalars. Assumes nothing.
use Prim.Native.Nat.{ℕ}
use mathlib.Core.Path.{◌≡◌, refl, sym, subst}
use mathlib.Core.List.{List, [], ◌∷◌}
use borrow.Author.Tests.{ne_eqb}
use Rattle.std.specs.Prelude.{Err}
use Rattle.format.specs.declared.codes.Code.{Code}
use Rattle.format.specs.Bytes.{byte, bytes}
use Rattle.format.specs.Kind.{Kind, scalar_kinds, tag}
use Rattle.format.specs.Syntax.{null, bool, int, float, string}
use Rattle.format.specs.Answer.{ok}
use Rattle.format.specs.Read.{kind_of, expect, int_text, quoted_text, bool_text, float_text, scalar_text}
use Rattle.format.proofs.Answers.{bind-map}
use Rattle.scanner.specs.Scans.{Answers, Scan, Scans, null_text, scalar_behind, nothing_told, bool_told, literal_told, float_told}
use Rattle.scanner.specs.Scans.{Scan, quoted_told, scalar_told}
use Rattle.scanner.specs.Parts.{Sure}
use Rattle.scanner.proofs.Numbers.{scans_not, scans-map, scans-same}

module _ (s : List ℕ) (at b : ℕ) (r : Scan) where
  -- a tag's kind, where the code knows the tag
  of-kind : (k : Kind) → ((l : ℕ) → kind_of tag scalar_kinds 3 l b ≡ ok k) → Scans (scalar_text k) (scalar_told at) s at r
      → Scans (scalar_behind b) (scalar_told at) s at r
  unfolding scalar_behind
  of-kind k e h = scans-same (λ l s. rw (e l)) h

  pub scalar-null : b ≡ tag Kind.null → Scans null_text nothing_told s at r → Scans (scalar_behind b) (scalar_told at) s at r
  unfolding scalar_text null_text
  scalar-null e h = of-kind Kind.null (λ l. rw e)
      (scans-map (λ u. null) (λ l s. bind-map (expect l (bytes ";") s) (λ x. (tt, x)) (λ q. (null, q.1))) (λ x next. refl) h)

  pub scalar-bool : b ≡ tag Kind.bool → Scans bool_text bool_told s at r → Scans (scalar_behind b) (scalar_told at) s at r
  unfolding scalar_text
  scalar-bool e h = of-kind Kind.bool (λ l. rw e) (scans-map bool (λ l s. refl) (λ x next. refl) h)

  pub scalar-int : b ≡ tag Kind.int → Scans int_text literal_told s at r → Scans (scalar_behind b) (scalar_told at) s at r
  unfolding scalar_text
  scalar-int e h = of-kind Kind.int (λ l. rw e) (scans-map int (λ l s. refl) (λ x next. refl) h)

  pub scalar-float : b ≡ tag Kind.float → Scans float_text (float_told at) s at r → Scans (scalar_behind b) (scalar_told at) s at r
  unfolding scalar_text
  scalar-float e h = of-kind Kind.float (λ l. rw e) (scans-map float (λ l s. refl) (λ x next. refl) h)

  pub scalar-string : b ≡ tag Kind.string → Scans (λ l. quoted_text l (byte "\"" ∷ byte ";" ∷ [])) (quoted_told at) s at r
      → Scans (scalar_behind b) (scalar_told at) s at r
  unfolding scalar_text
  scalar-string e h = of-kind Kind.string (λ l. rw e) (scans-map string (λ l s. refl) (λ x next. refl) h)

-- a tag that the code knows
pub answers_as : (s : List ℕ) (at b : ℕ) (r : Scan) {k : ℕ} → b ≡ k → Answers (scalar_behind k) (scalar_told at) s at r
    → Answers (scalar_behind b) (scalar_told at) s at r
answers_as s at b r e h = subst (λ (x : ℕ). Answers (scalar_behind x) (scalar_told at) s at r) (sym e) h

pub tag_as : (s : List ℕ) (at b : ℕ) (r : Scan) {k : ℕ} → b ≡ k → Sure (scalar_behind k) (scalar_told at) s at r → Sure (scalar_behind b) (scalar_told at) s at r
tag_as s at b r e h = subst (λ (x : ℕ). Sure (scalar_behind x) (scalar_told at) s at r) (sym e) h

pub scalar-none : (s : List ℕ) (at b : ℕ) → (b ≡ tag Kind.null → ⊥) → (b ≡ tag Kind.bool → ⊥) → (b ≡ tag Kind.int → ⊥) → (b ≡ tag Kind.float → ⊥)
    → (b ≡ tag Kind.string → ⊥)
    → Scans (scalar_behind b) (scalar_told at) s at (Err Code.TagUnknown)
unfolding scalar_behind
scalar-none s at b n o i f t =
    scans_not Code.TagUnknown (λ l. rw (
      ne_eqb 78 b (λ e. n (sym e)),
      kind_of,
      ne_eqb 98 b (λ e. o (sym e)),
      ne_eqb 105 b (λ e. i (sym e)),
      ne_eqb 100 b (λ e. f (sym e)),
      ne_eqb 115 b (λ e. t (sym e)),
    ))
