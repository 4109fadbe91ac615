-- A token's shortest text, and its text with a reference renumbered, by its tag. Assumes nothing.
use Prim.Native.Nat.{ℕ, ◌+◌, ◌-◌, ◌≤◌}
use native.Mathlib.Omega.{arith}
use mathlib.Core.Path.{◌≡◌, refl, sym, ap, ap₂, ◌∙◌}
use mathlib.Core.Logic.{inl, inr, ⊎_elim}
use mathlib.Core.Bool.{Bool, true, false, not, ◌&&◌}
use mathlib.Core.List.{List, [], ◌∷◌, ◌++◌, append_assoc, append-nil}
use lib.Dec.{eqb, leb, leb→le}
use lib.ListN.{length, get_or}
use lib.Seq.{slice, slice_empty}
use borrow.Author.Tests.{ne_eqb}
use Rattle.decimal.specs.Digits.{decimal}
use Rattle.decimal.proofs.Decide.{T_of, and_right}
use Rattle.format.specs.Kind.{Kind, tag, is_tag_of}
use Rattle.scanner.specs.declared.Text.{Text}
use Rattle.tokens.specs.Tokens.{ReferenceTag}
use Rattle.rewriting.specs.Rewriting.{is_renumbered, new_number, renumbered_if, renumbered_text, respelled_text}
use Rattle.rewriting.specs.declared.rewrite.Change.{Change}
use Rattle.rewriting.specs.declared.splice.Renumbering.{Renumbering}
use Rattle.rewriting.specs.declared.output.Output.{Output}
use Rattle.rewriting.specs.Output.{Appends}
use Rattle.rewriting.proofs.Outputs.{slice_join}
use Rattle.rewriting.specs.Shortest.{Respells, numbered_text, shortest_signed, object_head_text, shortest_by, shortest_text}

module _ (s : List ℕ) (at : ℕ) (x : Text) where
  pub int-text : get_or s at 0 ≡ tag Kind.int → shortest_text s at x ≡ shortest_signed s at x.content x.next
  unfolding shortest_text
  int-text i = rw i

  pub string-text : get_or s at 0 ≡ tag Kind.string → shortest_text s at x ≡ numbered_text s at x.size (x.content - 2) x.next
  unfolding shortest_text
  string-text i = rw i

  pub array-text : get_or s at 0 ≡ tag Kind.array → shortest_text s at x ≡ numbered_text s at x.link (x.next - 2) x.next
  unfolding shortest_text
  array-text i = rw i

  pub object-text : get_or s at 0 ≡ tag Kind.object → shortest_text s at x ≡ object_head_text s at x
  unfolding shortest_text
  object-text i = rw i

  -- what is written between its tag and the bytes that stay
  pub object-parts : get_or s at 0 ≡ tag Kind.object
      → shortest_text s at x
      ≡ slice at (at + 2) s ++ ((decimal x.size ++ (slice (x.content - 2) (x.content + x.size + 2) s ++ decimal x.link)) ++ slice (x.next - 2) x.next s)
  object-parts i =
      let front : List ℕ = slice at (at + 2) s in
      let name : List ℕ = slice (x.content - 2) (x.content + x.size + 2) s in
      let tail : List ℕ = slice (x.next - 2) x.next s in
      object-text i
      ∙ append_assoc front (decimal x.size ++ name) (decimal x.link ++ tail)
      ∙ ap (λ (l : List ℕ). front ++ l) (sym (append_assoc (decimal x.size ++ name) (decimal x.link) tail)
      ∙ ap (λ (l : List ℕ). l ++ tail) (append_assoc (decimal x.size) name (decimal x.link)))

  pub reference-text : ReferenceTag (get_or s at 0) → shortest_text s at x ≡ numbered_text s at x.content (x.next - 1) x.next
  unfolding shortest_text
  reference-text o = ⊎_elim (λ i. rw i) (λ i. rw i) o

  pub copied_text : (get_or s at 0 ≡ tag Kind.int → ⊥) → (get_or s at 0 ≡ tag Kind.string → ⊥) → (get_or s at 0 ≡ tag Kind.array → ⊥)
      → (get_or s at 0 ≡ tag Kind.object → ⊥) → (ReferenceTag (get_or s at 0) → ⊥)
      → shortest_text s at x ≡ slice at x.next s
  unfolding shortest_text
  copied_text n₁ n₂ n₃ n₄ n₅ =
      rw (
        shortest_by,
        ne_eqb (get_or s at 0) 105 n₁,
        ne_eqb (get_or s at 0) 115 n₂,
        ne_eqb (get_or s at 0) 97 n₃,
        ne_eqb (get_or s at 0) 79 n₄,
        ne_eqb (get_or s at 0) 114 (λ i. n₅ (inr i)),
        ne_eqb (get_or s at 0) 82 (λ i. n₅ (inl i)),
      )

-- all of it stays
pub copies : {s : List ℕ} {at next : ℕ} {all : List ℕ} {o o' : Output} → all ≡ slice at next s → at + 2 ≤ next → next ≤ length s
    → Appends (slice (at + 2) next s) o o' → Respells all s at next o next o'
copies {s} {at} {next} e h i p = record {
  numbers = slice (at + 2) next s;
  wrote = p;
  split =
      e ∙ sym (slice_join at (at + 2) next s (omega arith) h i)
      ∙ ap (λ (l : List ℕ). slice at (at + 2) s ++ l)
      (sym (append-nil (slice (at + 2) next s)) ∙ ap (λ (l : List ℕ). slice (at + 2) next s ++ l) (sym (slice_empty next s)));
  inside = omega arith;
}

-- ---- renumbered

referring : (b : ℕ) → ReferenceTag b → is_tag_of (Kind.object_reference ∷ Kind.variable_reference ∷ []) b ≡ true
referring b o = ⊎_elim (λ i. rw i) (λ i. rw i) o

-- what is renumbered names one from the first on
pub from_on : (m : Renumbering) (n : ℕ) → is_renumbered m n ≡ true → m.from ≤ n
unfolding is_renumbered
from_on m n e = leb→le m.from n (and_right (not (eqb m.down m.up)) (leb m.from n) (T_of e))

module _ (m : Renumbering) (s : List ℕ) (at : ℕ) (x : Text) where
  renumbered_as : (a b : Bool) → is_tag_of (Kind.object_reference ∷ Kind.variable_reference ∷ []) (get_or s at 0) ≡ a → is_renumbered m x.content ≡ b
      → renumbered_text m s at x ≡ renumbered_if (a && b) m s at x
  unfolding renumbered_text
  renumbered_as a b e f = ap₂ (λ (p q : Bool). renumbered_if (p && q) m s at x) e f

  pub spelled-moved : ReferenceTag (get_or s at 0) → is_renumbered m x.content ≡ true
      → renumbered_text m s at x ≡ numbered_text s at (new_number m x.content) (x.next - 1) x.next
  spelled-moved o e = renumbered_as true true (referring (get_or s at 0) o) e

  pub spelled_kept : ReferenceTag (get_or s at 0) → is_renumbered m x.content ≡ false → renumbered_text m s at x ≡ slice at x.next s
  spelled_kept o e = renumbered_as true false (referring (get_or s at 0) o) e

  pub spelled-other : (ReferenceTag (get_or s at 0) → ⊥) → renumbered_text m s at x ≡ slice at x.next s
  spelled-other n =
      renumbered_as false (is_renumbered m x.content) (rw (ne_eqb (get_or s at 0) 114 (λ i. n (inr i)), ne_eqb (get_or s at 0) 82 (λ i. n (inl i)))) refl

-- ---- by the change

module _ {c : Change} (g : ℕ) (s : List ℕ) (at : ℕ) (x : Text) where
  pub as_canonical : c ≡ Change.Canonical → respelled_text c g s at x ≡ shortest_text s at x
  as_canonical e = ap (λ (d : Change). respelled_text d g s at x) e

  pub as_renumbered : {m : Renumbering} → c ≡ Change.Renumber m → respelled_text c g s at x ≡ renumbered_text m s at x
  as_renumbered e = ap (λ (d : Change). respelled_text d g s at x) e
