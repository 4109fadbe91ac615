-- Neither change asks for a token's node: what is written is the same whatever the table holds. Assumes nothing.
use Prim.Native.Nat.{ℕ}
use mathlib.Core.Path.{◌≡◌, refl, ap}
use mathlib.Core.List.{List, [], map}
use Rattle.format.specs.Table.{word_at, tag_word}
use Rattle.tokens.specs.Tokens.{Token, write_tokens, canonical_token}
use Rattle.tokens.specs.Between.{tokens_between}
use Rattle.tokens.proofs.Nodes.{all-nodes}
use Rattle.rewriting.specs.declared.rewrite.Change.{Change}
use Rattle.rewriting.specs.declared.splice.Renumbering.{Renumbering}
use Rattle.rewriting.specs.Rewriting.{renumbered_token, changed_token, changed_text, rewritten_text, renumbered_between}

module _ (c : Change) (f : Token → Token) (same : (tag : ℕ) (u : Token) → changed_token c tag u ≡ f u) where
  unasked : (t : List ℕ) (i : ℕ) (ts : List Token) → changed_text c t i ts ≡ write_tokens (map f ts) []
  unasked t i ts =
      ap (λ (us : List Token). write_tokens us []) (all-nodes (λ j. changed_token c (word_at t j tag_word)) f (λ j u. same (word_at t j tag_word) u) i ts)

pub canonical_anywhere : (t : List ℕ) (i : ℕ) (ts : List Token) → changed_text Change.Canonical t i ts ≡ write_tokens (map canonical_token ts) []
canonical_anywhere = unasked Change.Canonical canonical_token (λ g u. refl)

pub renumbered_anywhere : (m : Renumbering) (t : List ℕ) (i : ℕ) (s : List ℕ) (from to : ℕ)
    → rewritten_text (Change.Renumber m) t i s from to ≡ renumbered_between m s from to
renumbered_anywhere m t i s from to = unasked (Change.Renumber m) (renumbered_token m) (λ g u. refl) t i (tokens_between s from to)
