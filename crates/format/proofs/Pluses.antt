-- Paper 02, L1: a number's plus changes nothing of what a plan means, and canonical text has none. Assumes nothing.
use mathlib.Core.Path.{◌≡◌, refl, sym, ap, ◌∙◌, subst}
use mathlib.Core.List.{List, ◌∷◌}
use mathlib.Core.Bool.{Bool, true, false}
use Prim.Native.Nat.{ℕ, ◌≤◌}
use lib.ListN.{length}
use Rattle.format.specs.Bytes.{byte}
use Rattle.format.specs.Tree.{map_tree}
use Rattle.format.specs.Syntax.{map_key, map_scalar, map_container, Spelling, Literal, Quoted, Container, Head, Reference, Value, print}
use Rattle.format.specs.Limits.{number_limit, source_limit}
use Rattle.format.specs.Fits.{Valid}
use Rattle.format.specs.Answer.{Answer, ok, refused, ◌>>=◌}
use Rattle.format.specs.Read.{plus_of, digits, number}
use Rattle.format.specs.Meaning.{meaning, Means}
use Rattle.format.specs.Canonical.{shortest, shortest_int, canonical}
use Rattle.format.proofs.Maps.{refs_all, map-map, key-map, scalar-map, container-map}
use Rattle.format.proofs.NormalForm.{canonical-meaning, canonical-valid, spelled-valid}
use Rattle.format.proofs.Unique.{unique}

-- what was read of a number, but with a plus
abbrev pub with_plus : (Spelling × ℕ) × List ℕ → Answer ((Spelling × ℕ) × List ℕ)
with_plus ((w, n), r) = ok ((record { plus = true; zeros = w.zeros }, n), r)

-- a text with a plus is the number, or the refusal, that it is without
pub plus-reads : (l : ℕ) (s : List ℕ) → plus_of s ≡ (false, s) → number l (byte "+" ∷ s) ≡ (number l s >>= with_plus)
unfolding number
plus-reads l s e = rw e (go (digits l number_limit s))
  where
    spelled_so : Bool → (ℕ × ℕ) × List ℕ → Answer ((Spelling × ℕ) × List ℕ)
    spelled_so p ((z, n), r) = ok ((record { plus = p; zeros = z }, n), r)

    go : (a : Answer ((ℕ × ℕ) × List ℕ)) → (a >>= spelled_so true) ≡ ((a >>= spelled_so false) >>= with_plus)
    go (ok q) = refl
    go (refused c p) = refl

-- "A `-` there is still 2."
pub minus-refused : (l : ℕ) (s : List ℕ) → number l (byte "-" ∷ s) ≡ refused 2 l
unfolding number digits
minus-refused l s = refl

-- ---- integers and numbers spelled otherwise

module _ (f : Spelling → Spelling) where
  abbrev quoted_by : Quoted → Quoted
  quoted_by q = record { spelling = f q.spelling; text = q.text }

  abbrev head_by : Head → Head
  head_by h = record { container = map_container quoted_by h.container; spelling = f h.spelling }

  abbrev reference_by : Reference → Reference
  reference_by r = record { kind = r.kind; spelling = f r.spelling; named = r.named }

abbrev map_spelling : (Literal → Literal) → (Spelling → Spelling) → Value → Value
map_spelling i f v = map_tree (map_key i (quoted_by f)) (map_scalar i (quoted_by f)) (head_by f) (reference_by f) v

module _ (i j : Literal → Literal) (f g : Spelling → Spelling) where
  abbrev ji : Literal → Literal
  ji x = j (i x)

  abbrev gf : Spelling → Spelling
  gf w = g (f w)

  spelled-twice : (v : Value) → map_spelling j g (map_spelling i f v) ≡ map_spelling ji gf v
  spelled-twice v =
      map-map (map_key i (quoted_by f)) (map_scalar i (quoted_by f)) (head_by f) (reference_by f)
      (map_key j (quoted_by g)) (map_scalar j (quoted_by g)) (head_by g) (reference_by g)
      (map_key ji (quoted_by gf)) (map_scalar ji (quoted_by gf)) (head_by gf) (reference_by gf) (λ r. Unit {0})
      (key-map i (quoted_by f) j (quoted_by g) ji (quoted_by gf) (λ x. refl) (λ q. refl))
      (scalar-map i (quoted_by f) j (quoted_by g) ji (quoted_by gf) (λ x. refl) (λ q. refl))
      (λ h. ap (λ (c : Container). record { container = c; spelling = gf h.spelling })
      (container-map (quoted_by f) (quoted_by g) (quoted_by gf) (λ q. refl) h.container))
      (λ r t. refl) v (refs_all (λ r. Unit {0}) (λ r. tt) v)

abbrev plusless : Spelling → Spelling
plusless w = record { plus = false; zeros = w.zeros }

-- the plus of each number left out
unfoldable pub without_plus : Value → Value
without_plus v = map_spelling (λ x. x) plusless v

canonical_without : (v : Value) → canonical (without_plus v) ≡ canonical v
unfolding canonical without_plus
canonical_without v = spelled-twice (λ x. x) shortest_int plusless (λ w. shortest) v

-- WITH AND WITHOUT: two plans that differ in nothing but pluses mean the same, and where one is a plan, so is the other, if it is short enough
pub plus-means : (v w : Value) → without_plus v ≡ without_plus w → Valid v → length (print w) ≤ source_limit → Means (print w) (meaning v)
plus-means v w e f h =
    let one : canonical v ≡ canonical w = sym (canonical_without v) ∙ ap canonical e ∙ canonical_without w in
    record {
      syntax = w;
      valid = spelled-valid w (subst Valid one (canonical-valid v f)) h;
      printed = refl;
      is = sym (canonical-meaning w) ∙ ap meaning (sym one) ∙ canonical-meaning v;
    }

without_canonical : (v : Value) → without_plus (canonical v) ≡ canonical v
unfolding canonical without_plus
without_canonical v = spelled-twice shortest_int (λ x. x) (λ w. shortest) plusless v

-- "Canonical text never has it.", whatever plan its bytes are taken for
pub canonical-no-plus : (v w : Value) → Valid v → Valid w → print w ≡ print (canonical v) → without_plus w ≡ w
canonical-no-plus v w f g e =
    let one : w ≡ canonical v = unique w (canonical v) g (canonical-valid v f) e in
    ap without_plus one ∙ without_canonical v ∙ sym one
