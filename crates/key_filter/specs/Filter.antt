-- A Bloom filter of hashes: three bits in each of two words.
use Rattle.std.specs.Prelude.{◌≡◌, List, [], ◌∷◌, Bool, true, false, ℕ, ◌-◌, ◌*◌, ◌/◌, ◌%◌, ◌^◌, eqb, length, get_or, set}
use Rattle.std.specs.Int.Bits.{bit_and, bit_or}
use Rattle.format.specs.Syntax.{Key}
use Rattle.key_filter.specs.Hash.{hash_key}

-- the word that a number picks among so many
unfoldable pub slot_of : (count : ℕ) → ℕ → ℕ
slot_of n x = bit_and x (n - 1)

abbrev pub first : (count : ℕ) → ℕ → ℕ
first n h = slot_of n (h / 2 ^ 44)

abbrev pub second : (count : ℕ) → ℕ → ℕ
second n h = slot_of n (h / 2 ^ 32)

unfoldable pub bit_of : ℕ → ℕ
bit_of n = 1 * 2 ^ (n % 64) % 2 ^ 64

unfoldable pub mask_of : ℕ → ℕ
mask_of h = bit_or (bit_or (bit_of (h / 2 ^ 26)) (bit_of (h / 2 ^ 20))) (bit_of (h / 2 ^ 14))

-- two words have all bits of a mask
unfoldable pub covers : (a b mask : ℕ) → Bool
covers a b m = eqb (bit_and (bit_and a b) m) m

-- where there is no word each hash counts as marked
unfoldable pub marked : List ℕ → ℕ → Bool
marked m h = elim (eqb (length m) 0) [ true ↦ true | false ↦ covers (get_or m (first (length m) h) 0) (get_or m (second (length m) h) 0) (mask_of h) ]

-- two words get the bits of a mask
unfoldable pub with_mask : List ℕ → (i j mask : ℕ) → List ℕ
with_mask m i j q = set (set m i (bit_or (get_or m i 0) q)) j (bit_or (get_or m j 0) q)

unfoldable pub mark : List ℕ → ℕ → List ℕ
mark m h = with_mask m (first (length m) h) (second (length m) h) (mask_of h)

pub record Entered (m m' : List ℕ) (h : ℕ) (r : Bool) : Type 0 where
  pub answer : r ≡ marked m h
  pub filter : m' ≡ mark m h

-- no mark is lost
pub record Grows (m m' : List ℕ) : Type 0 where
  pub keeps : (h : ℕ) → marked m h ≡ true → marked m' h ≡ true

-- each of these keys of a container is marked
abbrev pub AllMarked : List ℕ → (holder : ℕ) → List Key → Type 0
AllMarked m holder [] = Unit {0}
AllMarked m holder (k ∷ ks) = (marked m (hash_key holder k) ≡ true) × AllMarked m holder ks
