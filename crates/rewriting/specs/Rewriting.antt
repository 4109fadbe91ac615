-- The tokens of any bytes, each changed in the same way.
use Rattle.std.specs.Prelude.{◌≡◌, List, [], ◌∷◌, map, Bool, true, false, not, ◌&&◌, ℕ, ◌+◌, ◌-◌, ◌≤◌, eqb, leb, get_or}
use Rattle.std.proofs.Math.Seq.{slice}
use Rattle.format.specs.Kind.{Kind, is_tag_of}
use Rattle.format.specs.Syntax.{Reference}
use Rattle.format.specs.Limits.{number_limit}
use Rattle.format.specs.Table.{word_at, tag_word}
use Rattle.format.specs.Canonical.{shortest}
use Rattle.scanner.specs.declared.Text.{Text}
use Rattle.rewriting.specs.declared.rewrite.Change.{Change}
use Rattle.rewriting.specs.declared.splice.Renumbering.{Renumbering}
use Rattle.rewriting.specs.Shortest.{numbered_text, shortest_text}
use Rattle.tokens.specs.Tokens.{Token, scalar, reference, opening, closing, ReferenceTag, write_tokens, canonical_token, at_nodes}
use Rattle.tokens.specs.Between.{tokens_between}

-- no number falls below zero, and none overflows
pub record ChangeFits (c : Change) : Type 0 where
  pub numbers : (m : Renumbering) → c ≡ Change.Renumber m → (m.up ≤ number_limit) × (m.down ≤ m.from)

-- ---- one token, by what its text tells

-- a reference names a *number*
abbrev pub Named : List ℕ → (at : ℕ) → Text → Type 0
Named s at x = ReferenceTag (get_or s at 0) → x.content ≤ number_limit

-- whether a reference to this ordinal moves: from the first one on, if it comes to name another
unfoldable pub is_renumbered : Renumbering → (named : ℕ) → Bool
is_renumbered m n = not (eqb m.down m.up) && leb m.from n

abbrev pub new_number : Renumbering → (named : ℕ) → ℕ
new_number m n = n - m.down + m.up

-- inserting's: one higher from an ordinal on
abbrev pub raising : (ordinal : ℕ) → Renumbering
raising k = record { from = k; down = 0; up = 1 }

abbrev pub renumbered_if : Bool → Renumbering → List ℕ → (at : ℕ) → Text → List ℕ
renumbered_if true m s at x = numbered_text s at (new_number m x.content) (x.next - 1) x.next
renumbered_if false m s at x = slice at x.next s

-- a reference that moves, by its new number; all else copied
unfoldable pub renumbered_text : Renumbering → List ℕ → (at : ℕ) → Text → List ℕ
renumbered_text m s at x =
    renumbered_if (is_tag_of (Kind.object_reference ∷ Kind.variable_reference ∷ []) (get_or s at 0) && is_renumbered m x.content) m s at x

-- told the tag that the table has for its node; neither change asks for it yet
abbrev pub respelled_text : Change → (tag : ℕ) → List ℕ → (at : ℕ) → Text → List ℕ
respelled_text Change.Canonical tag s at x = shortest_text s at x
respelled_text (Change.Renumber m) tag s at x = renumbered_text m s at x

-- ---- tokens

-- "Each reference naming t with t ≥ k is rewritten as t + 1, shortest form; other references keep their bytes.", for any numbers (`raised_is`)
abbrev pub renumbered : Renumbering → Reference → Reference
renumbered m r = elim (is_renumbered m r.named) [
  | true ↦ record { kind = r.kind; spelling = shortest; named = new_number m r.named }
  | false ↦ r
]

abbrev pub renumbered_token : Renumbering → Token → Token
renumbered_token m (scalar x) = scalar x
renumbered_token m (reference r) = reference (renumbered m r)
renumbered_token m (opening h n) = opening h n
renumbered_token m closing = closing

-- what becomes of a token, the table's tag of its node being told
abbrev pub changed_token : Change → (tag : ℕ) → Token → Token
changed_token Change.Canonical tag t = canonical_token t
changed_token (Change.Renumber m) tag t = renumbered_token m t

abbrev pub changed_text : Change → (table : List ℕ) → (node : ℕ) → List Token → List ℕ
changed_text c table node ts = write_tokens (at_nodes (λ i. changed_token c (word_at table i tag_word)) node ts) []

-- of whatever stands from one index up to another, the first token's node being given
abbrev pub rewritten_text : Change → (table : List ℕ) → (node : ℕ) → List ℕ → (from to : ℕ) → List ℕ
rewritten_text c table node s from to = changed_text c table node (tokens_between s from to)

-- renumbering asks for no node (`renumbered_anywhere`)
abbrev pub renumbered_bytes : Renumbering → List Token → List ℕ
renumbered_bytes m ts = write_tokens (map (renumbered_token m) ts) []

abbrev pub renumbered_between : Renumbering → List ℕ → (from to : ℕ) → List ℕ
renumbered_between m s from to = renumbered_bytes m (tokens_between s from to)
