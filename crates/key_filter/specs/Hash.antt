-- The hash of a key. Nothing rests on its numbers but that equal keys have one hash.
use Rattle.std.specs.Prelude.{List, true, false, ℕ, zero, suc, ◌+◌, ◌-◌, ◌*◌, ◌/◌, ◌%◌, ◌^◌, leb, length, get_or, drop}
use Rattle.std.specs.Int.Bits.{bit_xor}
use Rattle.format.specs.Kind.{has_text}
use Rattle.format.specs.Syntax.{int_key, string_key, Key}
use Rattle.format.specs.Keys.{integer}
use Rattle.format.specs.Table.{word}
use Rattle.keys.specs.declared.KeyWords.{KeyWords}
use Rattle.keys.specs.KeyWords.{text_of}

unfoldable pub halves : ℕ → ℕ
halves x = bit_xor (x % 2 ^ 32 * 2654435761) (x / 2 ^ 32 * 2246822519)

unfoldable pub mixed : ℕ → ℕ → ℕ
mixed a b = halves (bit_xor a b)

unfoldable pub spread : ℕ → ℕ
spread x = mixed (x / 2 ^ 32) x

-- ---- the words of a text

-- its first four bytes
unfoldable pub half_of : List ℕ → ℕ
half_of t = get_or t 0 0 + get_or t 1 0 * 2 ^ 8 + get_or t 2 0 * 2 ^ 16 + get_or t 3 0 * 2 ^ 24

-- all of its bytes, which are fewer than eight
unfoldable pub rest_of : List ℕ → ℕ
rest_of t =
    elim (leb 4 (length t)) [
      | true ↦ half_of t + half_of (drop (length t - 4) t) * 2 ^ 32
      | false ↦ get_or t 0 0 + get_or t (length t / 2) 0 * 2 ^ 8 + get_or t (length t - 1) 0 * 2 ^ 16 + 0 * 2 ^ 24
    ]

-- its first eight bytes, or those that there are
unfoldable pub word_of : List ℕ → ℕ
word_of t = elim (leb 8 (length t)) [ true ↦ half_of t + half_of (drop 4 t) * 2 ^ 32 | false ↦ rest_of t ]

unfoldable pub mixed_words : (count : ℕ) → ℕ → List ℕ → ℕ
mixed_words zero h t = h
mixed_words (suc n) h t = mixed_words n (mixed h (word_of t)) (drop 8 t)

unfoldable pub mixed_text : ℕ → List ℕ → ℕ
mixed_text h t = mixed_words ((length t + 7) / 8) h t

-- ---- the hash

unfoldable pub start : (holder size : ℕ) → ℕ
start holder n = bit_xor (holder % 2 ^ 32 * 3266489917) (n % 2 ^ 16 * 2 ^ 48)

unfoldable pub int_hash : (holder pattern : ℕ) → ℕ
int_hash holder n = spread (mixed (start holder 0) n)

unfoldable pub text_hash : (holder : ℕ) → List ℕ → ℕ
text_hash holder t = spread (mixed_text (start holder (length t)) t)

-- by the words of its node
unfoldable pub hash_words : List ℕ → (holder : ℕ) → KeyWords → ℕ
hash_words s holder w = elim (has_text w.tag) [ true ↦ text_hash holder (text_of s w.content w.size) | false ↦ int_hash holder w.content ]

-- by what it is
unfoldable pub hash_key : (holder : ℕ) → Key → ℕ
hash_key holder (int_key x) = int_hash holder (word (integer x))
hash_key holder (string_key q) = text_hash holder q.text
