-- What the service of reading answers, and what it leaves in the lent table.
use Rattle.std.specs.Prelude.{◌≡◌, List, ◌++◌, ℕ, ◌/◌, ◌≤◌, ◌<◌, length, drop, replicate}
use Rattle.format.specs.Tree.{nodes, ordinals}
use Rattle.format.specs.Syntax.{Value, own}
use Rattle.format.specs.Limits.{Terms}
use Rattle.format.specs.Answer.{Answer, ok, refused, ◌>>=◌}
use Rattle.format.specs.Read.{read}
use Rattle.format.specs.Table.{width, flat, table_of}

-- "Room is the slice's length divided by six, rounded down."
abbrev pub capacity_of : (table : List ℕ) → ℕ
capacity_of t = length t / width

abbrev pub terms_of : (table : List ℕ) → Terms
terms_of t = record { capacity = capacity_of t }

-- "Reading returns the count of nodes and of numbers taken."
pub record Counts : Type 0 where
  pub nodes : ℕ
  pub ordinals : ℕ

unfoldable pub answer : Terms → (source : List ℕ) → Answer Counts
answer terms source = do
  v ← read terms source
  ok (record { nodes = nodes v; ordinals = ordinals own v })

-- what the table of refusals says of a number and its position in a plan of so many bytes: 1 at 0, 2 up to the plan's end, 3 to 10 at a byte
pub record RefusalRow (size code at : ℕ) : Type 0 where
  pub least : 1 ≤ code
  pub most : code ≤ 10
  pub start : code ≡ 1 → at ≡ 0
  pub inside : at ≤ size
  pub byte : 2 < code → at < size

-- "Words after the last node keep what they held."
abbrev pub over : (words table : List ℕ) → List ℕ
over ws t = ws ++ drop (length ws) t

-- "makes every word of the table zero"
abbrev pub cleared : (table : List ℕ) → List ℕ
cleared t = replicate (length t) 0

abbrev pub filled : Answer Value → (table : List ℕ) → List ℕ
filled (ok v) t = over (flat (table_of v)) t
filled (refused n p) t = cleared t

unfoldable pub table_after : Terms → (source table : List ℕ) → List ℕ
table_after terms source t = filled (read terms source) t
