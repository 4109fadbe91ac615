-- Tokens that stay as they are, one behind another.
use Rattle.std.specs.Prelude.{◌≡◌, List, [], ◌++◌, Bool, true, false, ℕ, suc, ◌+◌, ◌-◌, ◌≤◌, ◌<◌, length, get_or}
use Rattle.std.proofs.Math.Seq.{slice}
use Rattle.format.specs.Bytes.{byte}
use Rattle.scanner.specs.declared.Text.{Text}
use Rattle.scanner.specs.Scans.{Found}
use Rattle.tokens.specs.Tokens.{read_token, token_told, ReferenceTag, closes_of}
use Rattle.rewriting.specs.declared.rewrite.Change.{Change}
use Rattle.rewriting.specs.declared.splice.Renumbering.{Renumbering}
use Rattle.rewriting.specs.declared.stretch.Stop.{Stop}
use Rattle.rewriting.specs.Rewriting.{is_renumbered, respelled_text, rewritten_text}

-- ---- one token

-- it is written again: it is no closing brace, and where references are renumbered, it is one that is
pub record Changes (c : Change) (s : List ℕ) (at : ℕ) (x : Text) : Type 0 where
  pub number : get_or s at 0 ≡ byte "}" → ⊥
  pub moves : (m : Renumbering) → c ≡ Change.Renumber m → ReferenceTag (get_or s at 0) × (is_renumbered m x.content ≡ true)

pub record Stays (c : Change) (tag : ℕ) (s : List ℕ) (at : ℕ) (x : Text) (r : Bool) : Type 0 where
  pub kept : r ≡ true → respelled_text c tag s at x ≡ slice at x.next s
  pub changes : r ≡ false → Changes c s at x

pub record TagAt (s : List ℕ) (at tag : ℕ) : Type 0 where
  pub inside : at < length s
  pub is : get_or s at 0 ≡ tag

-- whatever the change, the bytes up to an index, one node, and what is written from there on
pub record Passes (s : List ℕ) (at next : ℕ) : Type 0 where
  pub on : at < next
  pub inside : next ≤ length s
  pub split : (c : Change) (t : List ℕ) (node to : ℕ) → at < to → rewritten_text c t node s at to ≡ slice at next s ++ rewritten_text c t (suc node) s next to

-- the next node behind a token, by its first byte
abbrev pub node_next : List ℕ → (at node : ℕ) → ℕ
node_next s at node = node + (1 - closes_of (get_or s at 0))

-- ---- a stretch

-- what is written from one index and node on are the bytes up to another index and what is written from there and a node on; before an index there are no
-- more nodes than bytes
pub record Keeps (c : Change) (t s : List ℕ) (first from to at node : ℕ) : Type 0 where
  pub on : from ≤ at
  pub inside : at ≤ length s
  pub low : node ≤ at
  pub split : rewritten_text c t first s from to ≡ slice from at s ++ rewritten_text c t node s at to

-- there a token is written again
pub record Halts (c : Change) (s : List ℕ) (to at : ℕ) (x : Text) : Type 0 where
  pub before : at < to
  pub found : Found read_token (token_told at) s at x
  pub changes : Changes c s at x

-- or nothing is left to write
pub record Ends (c : Change) (t s : List ℕ) (to at node : ℕ) : Type 0 where
  pub none : rewritten_text c t node s at to ≡ []

pub data Stops (c : Change) (t s : List ℕ) (first from to : ℕ) : Stop → Type 0 where
  halted : (at : ℕ) (x : Text) (node : ℕ) → Keeps c t s first from to at node → Halts c s to at x → Stops c t s first from to (Stop.Token at x node)
  ended : (at node : ℕ) → Keeps c t s first from to at node → Ends c t s to at node → Stops c t s first from to (Stop.End at)
