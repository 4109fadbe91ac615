-- What a step of reading answers and leaves in the table, by the definitions of `Read`.
use Rattle.std.specs.Prelude.{◌≡◌, ℕ, suc, ◌+◌, ◌*◌, ◌<◌, ◌≤◌, Bool, T, List, [], ◌∷◌, ◌++◌, length, drop, nat_lt, slice_index, slice_index_or, Result, Ok, Err}
use Rattle.std.proofs.lemmas.List.Edits.{sets}
use Rattle.format.specs.Tree.{leaf, ref, branch, none, pair, nodes, nodes_in, ordinals, ordinals_in}
use Rattle.format.specs.Syntax.{Key, Value, Values, own}
use Rattle.format.specs.Keys.{has_key}
use Rattle.format.specs.Limits.{Terms}
use Rattle.format.specs.declared.codes.Refusal.{Refusal}
use Rattle.format.specs.Codes.{number_of}
use Rattle.format.specs.Answer.{Answer, ok, refused, ◌>>=◌, require}
use Rattle.format.specs.Read.{Setting, setting, Inner, read_key, read_pairs, read_value, read}
use Rattle.format.specs.Table.{words, width, word_at, ordinal_word, end_word, flat, key_node, table, table_in, table_of}
use Rattle.reader.specs.declared.cursor.Cursor.{Cursor}
use Rattle.keys.specs.KeyWords.{key_words_at, Held, Chain}
use Rattle.key_filter.specs.Filter.{Grows}
use Rattle.reader.specs.declared.seen.Seen.{Seen}
use Rattle.reader.specs.Texts.{is_array_tag}
use Rattle.reader.specs.KeysSeen.{Known, next}

-- ---- ordinals and the nodes that take them

-- `to` names the node of each ordinal taken so far
pub record Points (to : ℕ → ℕ) (t : List ℕ) (node ordinal : ℕ) : Type 0 where
  pub below : (i : ℕ) → i < node → word_at t i ordinal_word ≤ ordinal
  pub found : (n : ℕ) → 1 ≤ n → n ≤ ordinal → (to n < node) × (word_at t (to n) ordinal_word ≡ n)
  pub only : (n i : ℕ) → 1 ≤ n → i < node → word_at t i ordinal_word ≡ n → i ≡ to n

-- `to` names the nodes of a value's ordinals: its own node is i, the next ordinal n
abbrev mutual
  pub Takes : (to : ℕ → ℕ) (i n : ℕ) → Value → Type 0
  Takes to i n (leaf x) = to n ≡ i
  Takes to i n (ref r) = T (own r) → to n ≡ i
  Takes to i n (branch h ps) = (to n ≡ i) × TakesIn to (suc i) (suc n) ps

  pub TakesIn : (to : ℕ → ℕ) (i n : ℕ) → Values → Type 0
  TakesIn to i n none = Unit {0}
  TakesIn to i n (pair k v ps) = Takes to (suc i) n v × TakesIn to (suc (i + nodes v)) (n + ordinals own v) ps

-- ---- reading at a cursor

-- what the cycle goes by
abbrev pub terms_at : (capacity : ℕ) → Terms
terms_at capacity = record { capacity = capacity }

abbrev pub setting_at : (s : List ℕ) (capacity : ℕ) → Setting
setting_at s capacity = setting (terms_at capacity) s

-- a value with so many levels left
unfoldable pub inner_at : (s : List ℕ) (capacity levels : ℕ) → Inner
inner_at s capacity levels seen before rest = read_value (setting_at s capacity) levels seen before rest

unfoldable pub value_at : (s : List ℕ) (capacity : ℕ) → Cursor → Answer (Value × List ℕ)
value_at s capacity c = read_value (setting_at s capacity) c.levels c.ordinal c.node (drop c.at s)

-- the tag of a value
pub record TagAt (s : List ℕ) (c : Cursor) (tag : ℕ) : Type 0 where
  pub inside : c.at < length s
  pub is : slice_index_or s c.at 0 ≡ tag

-- "At a letter: 3 or 4, then 8, then 7": the checks behind the choice of its kind
unfoldable pub room_at : (capacity : ℕ) → Cursor → Answer (Unit {0})
room_at capacity c = do
  _ ← require (nat_lt 0 c.levels) 8 c.at
  require (nat_lt c.node capacity) 7 c.at

-- so many pairs of a container with this tag
unfoldable pub pairs_at : (s : List ℕ) (capacity container count : ℕ) → Cursor → Answer (Values × List ℕ)
pairs_at s capacity container count c =
    read_pairs (setting_at s capacity) (inner_at s capacity c.levels) (is_array_tag container) count [] c.ordinal c.node (drop c.at s)

unfoldable pub key_at : (s : List ℕ) (capacity container : ℕ) → (earlier : List Key) → Cursor → Answer (Key × List ℕ)
key_at s capacity container earlier c = read_key (setting_at s capacity) (is_array_tag container) earlier c.node (drop c.at s)

-- ---- the answers of the steps

-- the cursor behind a step, or its refusal
abbrev pub Step : Type 0
Step = Result Cursor Refusal

-- the paper's number and values: "A refusal returns its number and a position"
abbrev pub step_answer : {A : Type 0} → Result A Refusal → Answer A
step_answer (Ok x) = ok x
step_answer (Err r) = refused (number_of r.code) r.at

-- what a step answers where the definition answers `o`: what is good, or the same refusal
abbrev pub GoodOr : {A B : Type 0} → (B → Type 0) → (o : Answer A) → Answer B → Type 0
GoodOr Good o (ok x) = Good x
GoodOr Good o (refused code at) = o ≡ refused code at

-- ---- what a step leaves

-- a cursor is within the source and the table, and no more ordinals than nodes are taken
pub record Fit (s t : List ℕ) (capacity : ℕ) (c : Cursor) : Type 0 where
  pub inside : c.at ≤ length s
  pub table : capacity * width ≤ length t
  pub node : c.node ≤ capacity
  pub ordinal : c.ordinal ≤ c.node

-- the words before those of a node are as they were
abbrev pub KeptBelow : List ℕ → List ℕ → ℕ → Type 0
KeptBelow t t' node = (i : ℕ) → i < node * width → slice_index t' i ≡ slice_index t i

-- a value's words stand in the table, whichever nodes the ordinals before it belong to
pub record Wrote (t t' : List ℕ) (c c' : Cursor) (v : Value) : Type 0 where
  pub of : (to : ℕ → ℕ) → Points to t c.node c.ordinal → Takes to c.node (suc c.ordinal) v
      → (t' ≡ sets t (c.node * width) (flat (table to c.at c.node (suc c.ordinal) v))) × Points to t' c'.node c'.ordinal

pub record WroteIn (t t' : List ℕ) (c c' : Cursor) (ps : Values) : Type 0 where
  pub of : (to : ℕ → ℕ) → Points to t c.node c.ordinal → TakesIn to c.node (suc c.ordinal) ps
      → (t' ≡ sets t (c.node * width) (flat (table_in to c.at c.node (suc c.ordinal) ps))) × Points to t' c'.node c'.ordinal

-- a value is read, and its words are written
pub record GoodValue (s t t' : List ℕ) (capacity : ℕ) (c : Cursor) (o : Answer (Value × List ℕ)) (c' : Cursor) : Type 0 where
  pub value : Value
  pub is : o ≡ ok (value, drop c'.at s)
  pub on : c.at < c'.at
  pub inside : c'.at ≤ length s
  pub node : c'.node ≡ c.node + nodes value
  pub fits : c'.node ≤ capacity
  pub ordinal : c'.ordinal ≡ c.ordinal + ordinals own value
  pub levels : c'.levels ≡ c.levels
  pub end : word_at t' c.node end_word ≡ c'.node
  pub kept : KeptBelow t t' c.node
  pub wrote : Wrote t t' c c' value

-- a refusal says nothing of the table: `read` clears it
abbrev pub Meets : (s t t' : List ℕ) (capacity : ℕ) (c : Cursor) → Answer (Value × List ℕ) → Step → Type 0
Meets s t t' capacity c o r = GoodOr (GoodValue s t t' capacity c o) o (step_answer r)

-- the same of pairs
pub record GoodPairs (s t t' : List ℕ) (capacity : ℕ) (c : Cursor) (o : Answer (Values × List ℕ)) (c' : Cursor) : Type 0 where
  pub pairs : Values
  pub is : o ≡ ok (pairs, drop c'.at s)
  pub on : c.at ≤ c'.at
  pub inside : c'.at ≤ length s
  pub node : c'.node ≡ c.node + nodes_in pairs
  pub fits : c'.node ≤ capacity
  pub ordinal : c'.ordinal ≡ c.ordinal + ordinals_in own pairs
  pub levels : c'.levels ≡ c.levels
  pub kept : KeptBelow t t' c.node
  pub wrote : WroteIn t t' c c' pairs

abbrev pub MeetsPairs : (s t t' : List ℕ) (capacity : ℕ) (c : Cursor) → Answer (Values × List ℕ) → Step → Type 0
MeetsPairs s t t' capacity c o r = GoodOr (GoodPairs s t t' capacity c o) o (step_answer r)

-- the same of a key
pub record GoodKey (of_array : Bool) (s t t' : List ℕ) (capacity : ℕ) (c : Cursor) (o : Answer (Key × List ℕ)) (c' : Cursor) : Type 0 where
  pub key : Key
  pub is : o ≡ ok (key, drop c'.at s)
  pub on : c.at < c'.at
  pub inside : c'.at ≤ length s
  pub node : c'.node ≡ c.node + 1
  pub fits : c'.node ≤ capacity
  pub ordinal : c'.ordinal ≡ c.ordinal
  pub levels : c'.levels ≡ c.levels
  pub table : t' ≡ sets t (c.node * width) (words (key_node c.at c.node key))
  pub held : Held of_array s key (key_words_at t' c.node)

abbrev pub MeetsKey : (of_array : Bool) (s t t' : List ℕ) (capacity : ℕ) (c : Cursor) → Answer (Key × List ℕ) → Step → Type 0
MeetsKey of_array s t t' capacity c o r = GoodOr (GoodKey of_array s t t' capacity c o) o (step_answer r)

-- the keys read before are those that stand in the table
pub record Earlier (of_array : Bool) (s t m : List ℕ) (first node : ℕ) (seen : Seen) (earlier : List Key) : Type 0 where
  pub keys : List Key
  pub chain : Chain of_array s t first node keys
  pub same : (k : Key) → has_key k earlier ≡ has_key k keys
  pub known : Known seen m first keys

-- what is known of the keys once one more is read
pub record Remembers (of_array : Bool) (s t t' m m' : List ℕ) (first node : ℕ) (seen : Seen) (r : Step) : Type 0 where
  pub grows : Grows m m'
  pub known : (c' : Cursor) → step_answer r ≡ ok c' → (k : Key) (ks : List Key) → Held of_array s k (key_words_at t' node) → Chain of_array s t first node ks
      → Known seen m first ks → Known (next seen (key_words_at t' node)) m' first (ks ++ (k ∷ []))

-- ---- a whole plan

pub record GoodWhole (s t t' : List ℕ) (capacity : ℕ) (c : Cursor) : Type 0 where
  pub value : Value
  pub is : read (terms_at capacity) s ≡ ok value
  pub node : c.node ≡ nodes value
  pub fits : c.node ≤ capacity
  pub ordinal : c.ordinal ≡ ordinals own value
  pub table : t' ≡ sets t 0 (flat (table_of value))

abbrev pub Whole : (s t t' : List ℕ) (capacity : ℕ) → Step → Type 0
Whole s t t' capacity r = GoodOr (GoodWhole s t t' capacity) (read (terms_at capacity) s) (step_answer r)
