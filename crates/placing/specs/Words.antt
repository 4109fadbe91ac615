-- What inserting takes from the table of the plan that was read, by its words.
use Rattle.std.specs.Prelude.{List, Bool, true, not, ◌&&◌, ℕ, zero, suc, ◌+◌, ◌-◌, ◌*◌, ◌≤◌, ◌<◌, eqb, ltb, leb, length, Option, Some, None}
use Rattle.format.specs.Kind.{Kind, tag}
use Rattle.format.specs.Tree.{one}
use Rattle.format.specs.Answer.{Answer, ok, refused, ◌>>=◌, require}
use Rattle.format.specs.Keys.{has_key}
use Rattle.format.specs.Table.{width, word_at, tag_word, ordinal_word, link_word, end_word, pair_end}
use Rattle.keys.specs.KeyWords.{key_said, keys_said}
use Rattle.keys.specs.declared.KeyWords.{KeyWords}
use Rattle.placing.specs.declared.target.ArrayWords.{ArrayWords}
use Rattle.placing.specs.declared.target.GapWords.{GapWords}

-- ---- 11

-- the paper's number and values for each case: "index names no `a` node"
abbrev pub target_answer : Option ArrayWords → Answer ArrayWords
target_answer (Some a) = ok a
target_answer None = refused 11 0

-- the array at a node of so many
unfoldable pub array_words : List ℕ → (nodes node : ℕ) → Answer ArrayWords
array_words t n i = do
  _ ← require (ltb i n && eqb (word_at t i tag_word) (tag Kind.array)) 11 0
  ok (record { count = word_at t i link_word; ordinal = word_at t i ordinal_word })

-- ---- 12

-- of pairs that stand from node i on, the node of the key at a place
abbrev pub pair_node : List ℕ → (i place : ℕ) → ℕ
pair_node t i zero = i
pair_node t i (suc q) = word_at t (pair_node t i q) pair_end

-- each pair before the place has its words
abbrev pub Walkable : List ℕ → (i place : ℕ) → Type 0
Walkable t i p = (q : ℕ) → q < p → pair_node t i q * width + pair_end < length t

-- how many of the nodes from i on carry an ordinal
abbrev pub carriers : List ℕ → (i count : ℕ) → ℕ
carriers t i zero = 0
carriers t i (suc n) = carriers t i n + one (not (eqb (word_at t (i + n) ordinal_word) 0))

pub record Walked (t : List ℕ) (node place : ℕ) : Type 0 where
  pub walk : Walkable t (node + 1) place
  pub on : node + 1 ≤ pair_node t (node + 1) place
  pub inside : pair_node t (node + 1) place * width ≤ length t

pub record GapBounds (t : List ℕ) (node count ordinal place : ℕ) : Type 0 where
  pub walked : place ≤ count → Walked t node place
  pub low : ordinal ≤ node + 1
  pub inside : node < length t

-- the paper's number and values for each case: "place above the array's count"
abbrev pub gap_answer : Option GapWords → Answer GapWords
gap_answer (Some g) = ok g
gap_answer None = refused 12 0

-- the gap at a place of the array at a node, whose count and ordinal are known
unfoldable pub gap_words : List ℕ → (node count ordinal place : ℕ) → Answer GapWords
gap_words t i n o p = do
  _ ← require (leb p n) 12 0
  ok (record { node = pair_node t (i + 1) p; ordinal = o + carriers t (i + 1) (pair_node t (i + 1) p - (i + 1)) + 1 })

-- ---- 9

-- whether a key, whose words and text are known, is equal to a key of the array at a node: its pairs stand behind it, up to its end
unfoldable pub key_present : (source key : List ℕ) → KeyWords → (table : List ℕ) → (node : ℕ) → Bool
key_present s k w t i = has_key (key_said true k w) (keys_said true s t (i + 1) (word_at t i end_word))
