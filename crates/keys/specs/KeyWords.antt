-- Keys as the words of their nodes and the source say them.
use Rattle.std.specs.Prelude.{◌≡◌, List, [], ◌∷◌, Bool, true, false, not, ◌&&◌, ◌||◌, ℕ, zero, suc, ◌+◌, ◌-◌, ◌≤◌, ◌<◌, min, leb, ltb, length, take, drop}
use Rattle.format.specs.Kind.{Kind, tag, is_tag_of, key_kinds, has_text}
use Rattle.format.specs.Syntax.{int_key, string_key, Key}
use Rattle.format.specs.Keys.{integer}
use Rattle.format.specs.Fits.{KeyFits}
use Rattle.format.specs.Table.{word, word_at, tag_word, content_word, size_word, pair_end}
use Rattle.format.specs.Canonical.{literal_of, quoted_of}
use Rattle.format.specs.Shows.{integer_of}
use Rattle.format.specs.Reading.{capacity_of}
use Rattle.keys.specs.declared.KeyWords.{KeyWords}

-- the bytes of a text that stands at an offset
unfoldable pub text_of : List ℕ → (offset size : ℕ) → List ℕ
text_of s o n = elim (leb o (length s) && leb n (length s - o)) [ true ↦ take n (drop o s) | false ↦ [] ]

-- words 0, 2 and 3 of a node
abbrev pub key_words_at : List ℕ → (node : ℕ) → KeyWords
key_words_at t i = record { tag = word_at t i tag_word; content = word_at t i content_word; size = word_at t i size_word }

-- those of a node that the table has room for, or zeros
unfoldable pub key_words_in : List ℕ → (node : ℕ) → KeyWords
key_words_in t i = elim (ltb i (capacity_of t)) [ true ↦ key_words_at t i | false ↦ record { tag = 0; content = 0; size = 0 } ]

-- ---- the keys that words say

-- "A key of `a` is an i or an s; a key of `O` is an s": whether the words of a key tell a text
unfoldable pub says_text : (of_array : Bool) → KeyWords → Bool
says_text of_array w = not of_array || has_text w.tag

-- the string of that text, or the integer of the pattern
unfoldable pub key_said : (of_array : Bool) → (source : List ℕ) → KeyWords → Key
key_said of_array s w =
    elim (says_text of_array w) [
      | true ↦ string_key (quoted_of (text_of s w.content w.size))
      | false ↦ int_key (literal_of (integer_of w.content))
    ]

-- the node behind the pair at node i, as word 5 of its value says; where that leads back, the end
unfoldable pub behind_pair : (table : List ℕ) → (i end : ℕ) → ℕ
behind_pair t i end = elim (ltb i (word_at t i pair_end)) [ true ↦ word_at t i pair_end | false ↦ end ]

module _ (of_array : Bool) (source table : List ℕ) where
  -- the keys of the pairs from node i on, so many at the most, whose keys and values stand before an end
  unfoldable pub keys_from : (most i end : ℕ) → List Key
  keys_from zero i end = []
  keys_from (suc most) i end =
      elim (ltb (i + 1) end) [
        | true ↦ key_said of_array source (key_words_at table i) ∷ keys_from most (behind_pair table i end) end
        | false ↦ []
      ]

  -- the keys of the pairs that stand in the table from node `first` up to node `end`; there are fewer pairs than nodes
  unfoldable pub keys_said : (first end : ℕ) → List Key
  keys_said first end = keys_from end first (min end (capacity_of table))

-- ---- which key of a plan the words say

abbrev pub key_kind : Key → Kind
key_kind (int_key x) = Kind.int
key_kind (string_key q) = Kind.string

-- words 2 and 3, and the source
abbrev pub Says : List ℕ → Key → (content size : ℕ) → Type 0
Says s (int_key x) content size = word (integer x) ≡ content
Says s (string_key q) content size = (q.text ≡ take size (drop content s)) × (content + size ≤ length s)

-- of an array, or of an object
pub record Held (of_array : Bool) (s : List ℕ) (k : Key) (w : KeyWords) : Type 0 where
  pub is : w.tag ≡ tag (key_kind k)
  pub allowed : is_tag_of (key_kinds of_array) w.tag ≡ true
  pub says : Says s k w.content w.size
  pub fits : KeyFits k

-- from node i on pairs stand up to node n, with these keys; a pair ends where word 5 of its value says
pub data Chain (of_array : Bool) (s t : List ℕ) : ℕ → ℕ → List Key → Type 0 where
  none : {n : ℕ} → Chain of_array s t n n []
  pair : {i n next : ℕ} {k : Key} {ks : List Key} → Held of_array s k (key_words_at t i) → word_at t i pair_end ≡ next → i + 1 < next
      → Chain of_array s t next n ks → Chain of_array s t i n (k ∷ ks)
