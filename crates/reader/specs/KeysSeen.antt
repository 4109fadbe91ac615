-- The keys of a container's pairs, as the table has them.
use Rattle.std.specs.Prelude.{◌≡◌, ℕ, ◌+◌, ◌%◌, ◌^◌, ◌≤◌, Bool, true, false, ◌&&◌, List, [], ◌∷◌, ◌++◌, ◌==◌, nat_lt}
use Rattle.format.specs.Kind.{Kind, tag}
use Rattle.format.specs.Syntax.{int_key, string_key, Key}
use Rattle.format.specs.Keys.{integer, has_key}
use Rattle.format.specs.Table.{word}
use Rattle.keys.specs.declared.KeyWords.{KeyWords}
use Rattle.keys.specs.KeyWords.{key_words_at, Held, Chain}
use Rattle.key_filter.specs.Filter.{Grows, AllMarked}
use Rattle.reader.specs.declared.seen.Seen.{Seen}

-- the place of an integer's pattern in the order of the integers
abbrev pub rank : ℕ → ℕ
rank w = (w + 9223372036854775808) % 2 ^ 64

-- those of node i, or these behind node n
unfoldable pub key_or : List ℕ → (i n : ℕ) → KeyWords → KeyWords
key_or t i n w = elim (nat_lt i n) [ true ↦ key_words_at t i | false ↦ w ]

-- pairs of an array, or of an object, stand from one node up to another
pub record Walk (s t : List ℕ) (first node : ℕ) : Type 0 where
  pub of_array : Bool
  pub keys : List Key
  pub chain : Chain of_array s t first node keys

-- ---- what is known of earlier keys

-- the rank is not below any integer key's
abbrev pub KeyUnder : (top : ℕ) → Key → Type 0
KeyUnder top (int_key x) = rank (word (integer x)) ≤ top
KeyUnder top (string_key q) = Unit {0}

abbrev pub Under : (top : ℕ) → List Key → Type 0
Under top [] = Unit {0}
Under top (k ∷ ks) = KeyUnder top k × Under top ks

abbrev pub Known : Seen → (filter : List ℕ) → (first : ℕ) → List Key → Type 0
Known Seen.Nothing m first ks = ks ≡ []
Known (Seen.Upto top) m first ks = Under top ks
Known Seen.Marked m first ks = AllMarked m first ks

-- where the pairs begin whose keys are not marked
abbrev pub unmarked_from : Seen → (first node : ℕ) → ℕ
unmarked_from Seen.Nothing first n = first
unmarked_from (Seen.Upto top) first n = first
unmarked_from Seen.Marked first n = n

-- an integer above all before
abbrev pub above : Seen → ℕ → Bool
above Seen.Nothing r = true
above (Seen.Upto top) r = nat_lt top r
above Seen.Marked r = false

unfoldable pub rises : Seen → KeyWords → Bool
rises h w = w.tag == tag Kind.int && above h (rank w.content)

-- one key more
unfoldable pub next : Seen → KeyWords → Seen
next h w = elim (rises h w) [ true ↦ Seen.Upto (rank w.content) | false ↦ Seen.Marked ]

-- the keys of the pairs are marked, and then one more, which is new if it was not
pub record MarkedAll (s t m m' : List ℕ) (first node : ℕ) (w : KeyWords) (h : Seen) (r : Bool) : Type 0 where
  pub grows : Grows m m'
  pub all : (of_array : Bool) (k : Key) (ks : List Key) → Held of_array s k w → Chain of_array s t first node ks → Known h m first ks
      → AllMarked m' first (ks ++ (k ∷ []))
  pub new : r ≡ false → (of_array : Bool) (k : Key) (ks : List Key) → Held of_array s k w → Chain of_array s t first node ks → Known h m first ks
      → has_key k ks ≡ false

-- the test of a key: whether it is among the pairs', and what is known with it
pub record Tested (of_array : Bool) (s t m m' : List ℕ) (first node : ℕ) (w : KeyWords) (h : Seen) (r : Bool) : Type 0 where
  pub answer : (k : Key) (ks : List Key) → Held of_array s k w → Chain of_array s t first node ks → Known h m first ks → r ≡ has_key k ks
  pub known : (k : Key) (ks : List Key) → Held of_array s k w → Chain of_array s t first node ks → Known h m first ks → Known (next h w) m' first (ks ++ (k ∷ []))
  pub grows : Grows m m'
