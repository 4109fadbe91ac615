-- Nodes as the table has them.
use Rattle.std.specs.Prelude.{◌≡◌, ℕ, ◌+◌, ◌-◌, ◌*◌, ◌<◌, ◌≤◌, Bool, List, ◌≢◌, Option, IfSome, IfNone}
use Rattle.std.proofs.lemmas.List.Edits.{sets}
use Rattle.format.specs.Kind.{has_ordinal}
use Rattle.format.specs.Tree.{one}
use Rattle.format.specs.Table.{Node, words, width, word_at, ordinal_word, taken}
use Rattle.scanner.specs.declared.Text.{Text}
use Rattle.reader.specs.declared.cursor.Cursor.{Cursor}

-- a node whose words 2, 3 and 4 a text tells
abbrev pub node_of : (tag ordinal end : ℕ) → Text → Node
node_of tag ordinal end x = record { tag = tag; ordinal = ordinal; content = x.content; size = x.size; link = x.link; end = end }

-- a node is written as one that holds no others, and the cursor stands behind it
pub record NodeAdded (t t' : List ℕ) (c : Cursor) (tag : ℕ) (x : Text) (own : Bool) (r : Cursor) : Type 0 where
  pub table : t' ≡ sets t (c.node * width) (words (node_of tag (taken own (c.ordinal + 1)) (c.node + 1) x))
  pub cursor : r ≡ record { at = x.next; node = c.node + 1; ordinal = c.ordinal + one own; levels = c.levels }

-- a container's node is written but for its end, and the cursor stands at its first pair
pub record NodeOpened (t t' : List ℕ) (c : Cursor) (tag : ℕ) (x : Text) (r : Cursor) : Type 0 where
  pub table : t' ≡ sets t (c.node * width) (words (node_of tag (taken (has_ordinal tag) (c.ordinal + 1)) (c.node + 1) x))
  pub cursor : r ≡ record { at = x.next; node = c.node + 1; ordinal = c.ordinal + one (has_ordinal tag); levels = c.levels - 1 }

-- a node from one index up to another that carries the ordinal, or none where none does
pub record CarrierIn (t : List ℕ) (from to ordinal : ℕ) (r : Option ℕ) : Type 0 where
  pub found : IfSome r (λ i. (i < to) × (word_at t i ordinal_word ≡ ordinal))
  pub none : IfNone r ((i : ℕ) → from ≤ i → i < to → word_at t i ordinal_word ≢ ordinal)
