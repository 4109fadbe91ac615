-- Spliced bytes, by the tokens around the array's head and what is left out. Assumes nothing.
use Prim.Native.Nat.{ℕ, ◌+◌, ◌-◌, ◌≤◌}
use native.Mathlib.Omega.{arith}
use mathlib.Core.Path.{◌≡◌, refl, ap, ap₂, ◌∙◌}
use mathlib.Core.Bool.{true}
use mathlib.Core.List.{List, [], ◌∷◌, ◌++◌}
use lib.ListN.{length, drop, length-drop}
use borrow.Author.Tests.{le-leb}
use Rattle.format.specs.Bytes.{byte}
use Rattle.format.specs.Kind.{Kind, tag}
use Rattle.format.specs.Syntax.{write_number}
use Rattle.format.specs.Limits.{number_limit}
use Rattle.format.specs.Canonical.{shortest}
use Rattle.format.proofs.Fronts.{number-adds}
use Rattle.scanner.specs.Scans.{tell}
use Rattle.tokens.specs.Tokens.{Token}
use Rattle.tokens.proofs.Stretches.{between_stretch}
use Rattle.rewriting.specs.declared.splice.Renumbering.{Renumbering}
use Rattle.rewriting.specs.declared.splice.Splice.{Splice}
use Rattle.rewriting.specs.Rewriting.{renumbered_bytes}
use Rattle.rewriting.specs.Edited.{spliced_head, spliced_text, stands, Parted}
use Rattle.rewriting.proofs.Respelled.{tail_of}
use Rattle.placing.specs.Placing.{HeadAhead}

-- the source around the array's head and what is left out; and numbers that do not overflow
pub record Splices (s : List ℕ) (p : Splice) : Type 0 where
  pub head : HeadAhead s p.at
  pub behind : head.rest ≡ drop p.inside s
  pub inside : p.inside ≤ length s
  pub parted : Parted s p
  pub few : p.count ≤ number_limit
  pub up : p.renumbering.up ≤ number_limit
  pub down : p.renumbering.down ≤ p.renumbering.from

-- "the old ones with three changes": the references in each part, the count of the array's head, and the texts between the parts
abbrev pub pieces : (front middle back : List Token) → Renumbering → (count : ℕ) (key value : List ℕ) → List ℕ
pieces front middle back m count key value =
    renumbered_bytes m front
    ++ ((tag Kind.array ∷ byte ":" ∷ write_number shortest count (byte ":" ∷ byte "{" ∷ []))
    ++ (renumbered_bytes m middle ++ (key ++ (value ++ renumbered_bytes m back))))

module _ {s : List ℕ} {p : Splice} (e : Splices s p) where
  head-here : drop p.at s ≡ 97 ∷ 58 ∷ write_number e.head.spelling e.head.pairs ((58 ∷ 123 ∷ []) ++ drop p.inside s)
  head-here = e.head.text ∙ ap (λ (r : List ℕ). 97 ∷ 58 ∷ write_number e.head.spelling e.head.pairs (58 ∷ 123 ∷ r)) e.behind

  head_spliced : spliced_head s p ≡ tag Kind.array ∷ byte ":" ∷ write_number shortest p.count (byte ":" ∷ byte "{" ∷ [])
  head_spliced = tail_of s p.at (tell 0 0 0 p.inside) 97 e.head.spelling e.head.pairs p.count 2 (58 ∷ 123 ∷ []) e.inside head-here refl

  pub spliced_is : (key value : List ℕ) → spliced_text s key value p
      ≡ pieces e.parted.front.tokens e.parted.middle.tokens e.parted.back.tokens p.renumbering p.count key value
  spliced_is key value =
      let moved : List Token → List ℕ = renumbered_bytes p.renumbering in
      let g : Parted s p = e.parted in
      ap₂ ◌++◌ (ap moved (between_stretch g.front))
      (ap₂ ◌++◌ head_spliced
      (ap₂ ◌++◌ (ap moved (between_stretch g.middle)) (ap (λ (ts : List Token). key ++ (value ++ moved ts)) (between_stretch g.back))))

  -- a tag, a colon, and at the end a colon and a brace
  head-long : p.at + 4 ≤ p.inside
  head-long = omega (
    arith,
    e.inside,
    ap length head-here,
    number-adds e.head.spelling e.head.pairs (58 ∷ 123 ∷ drop p.inside s),
    length-drop p.at s,
    length-drop p.inside s,
  )

  pub head-stands : stands (length s) p ≡ true
  head-stands = rw (
    le-leb 2 p.inside (omega (arith, head-long)),
    le-leb p.at (p.inside - 2) (omega (arith, head-long)),
    le-leb p.inside (length s) e.inside,
    le-leb p.count number_limit e.few,
    le-leb p.renumbering.up number_limit e.up,
    le-leb p.renumbering.down p.renumbering.from e.down,
  )
