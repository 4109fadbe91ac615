-- The kinds of tags, and what keys tell their nodes.
use Rattle.std.specs.Prelude.{◌≡◌, ℕ, Bool, true, false, ◌⊎◌, List, [], ◌∷◌, ◌==◌}
use Rattle.format.specs.Kind.{Kind, kinds, scalar_kinds, tag}
use Rattle.format.specs.Syntax.{int_key, string_key, Key}
use Rattle.scanner.specs.Scans.{Told, literal_told, quoted_told}

-- the first of some kinds with this tag
abbrev pub among : List Kind → ℕ → Kind
among [] b = Kind.variable_reference
among (k ∷ ks) b = elim (tag k == b) [ true ↦ k | false ↦ among ks b ]

-- the kind of a tag that is one of the nine
unfoldable pub kind_for : ℕ → Kind
kind_for b = among kinds b

unfoldable pub is_array_tag : ℕ → Bool
is_array_tag b = b == tag Kind.array

-- which of some kinds it is the tag of
abbrev pub OneOf : List Kind → ℕ → Type 0
OneOf [] b = ⊥
OneOf (k ∷ ks) b = (b ≡ tag k) ⊎ OneOf ks b

abbrev pub scalar_tag : ℕ → Type 0
scalar_tag b = OneOf scalar_kinds b

abbrev pub container_kinds : List Kind
container_kinds = Kind.array ∷ Kind.object ∷ []

abbrev pub container_tag : ℕ → Type 0
container_tag b = OneOf container_kinds b

abbrev pub reference_kinds : List Kind
reference_kinds = Kind.object_reference ∷ Kind.variable_reference ∷ []

abbrev pub reference_tag : ℕ → Type 0
reference_tag b = OneOf reference_kinds b

abbrev pub key_told : (at : ℕ) → Told Key
key_told at (int_key x) next = literal_told x next
key_told at (string_key q) next = quoted_told at q next
