-- The hash of a key: of its text word by word, and the same by its words and by what it is. Assumes nothing.
use Prim.Native.Nat.{ℕ, suc, ◌+◌, ◌-◌, ◌*◌, ◌/◌, ◌^◌, ◌≤◌, ◌<◌}
use native.Mathlib.Nat.{add-zero}
use native.Mathlib.Omega.{arith}
use mathlib.Core.Path.{◌≡◌, refl, sym, ap, ◌∙◌}
use mathlib.Core.Bool.{Bool, true, false}
use mathlib.Core.List.{List, []}
use lib.Dec.{T}
use lib.ListN.{length, get_or, take, drop, length-drop}
use lib.Seq.{length-take-le, get_or-take, get_or-drop, drop-drop, take-add, drop_at}
use borrow.Author.Tests.{le-leb, lt-leb}
use Rattle.format.specs.Kind.{has_text}
use Rattle.format.specs.Syntax.{int_key, string_key, Key}
use Rattle.format.specs.Keys.{KeyMeaning, key_meaning, same_key}
use Rattle.format.specs.Table.{word}
use Rattle.format.proofs.Keys.{equal-keys}
use Rattle.keys.specs.declared.KeyWords.{KeyWords}
use Rattle.keys.specs.KeyWords.{text_of, Held}
use Rattle.keys.proofs.SaidKeys.{text-part}
use Rattle.key_filter.specs.Hash.{mixed, spread, half_of, rest_of, word_of, mixed_words, mixed_text, start, int_hash, text_hash, hash_words, hash_key}

-- ---- the words of a text

rest_four : (t : List ℕ) → 4 ≤ length t → rest_of t ≡ half_of t + half_of (drop (length t - 4) t) * 2 ^ 32
unfolding rest_of
rest_four t l = rw (rest_of, le-leb 4 (length t) l)

rest-fewer : (t : List ℕ) → length t < 4 → rest_of t ≡ get_or t 0 0 + get_or t (length t / 2) 0 * 2 ^ 8 + get_or t (length t - 1) 0 * 2 ^ 16 + 0 * 2 ^ 24
unfolding rest_of
rest-fewer t l = rw (rest_of, lt-leb 4 (length t) l)

word_eight : (t : List ℕ) → 8 ≤ length t → word_of t ≡ half_of t + half_of (drop 4 t) * 2 ^ 32
unfolding word_of
word_eight t l = rw (word_of, le-leb 8 (length t) l)

word_fewer : (t : List ℕ) → length t < 8 → word_of t ≡ rest_of t
unfolding word_of
word_fewer t l = rw (word_of, lt-leb 8 (length t) l)

pub half_is : (s : List ℕ) (at : ℕ)
    → half_of (drop at s) ≡ get_or s at 0 + get_or s (at + 1) 0 * 2 ^ 8 + get_or s (at + 2) 0 * 2 ^ 16 + get_or s (at + 3) 0 * 2 ^ 24
unfolding half_of
half_is s at = omega (arith, ap (λ (n : ℕ). get_or s n 0) (add-zero at), get_or-drop at s 0 0, get_or-drop at s 1 0, get_or-drop at s 2 0, get_or-drop at s 3 0)

-- a part of the source: so many bytes from an index on
module _ (s : List ℕ) (at n : ℕ) (inside : at + n ≤ length s) where
  abbrev part : List ℕ
  part = take n (drop at s)

  size_is : length part ≡ n
  size_is = length-take-le n (drop at s) (omega (arith, length-drop at s))

  byte-is : (i k : ℕ) → i < n → at + i ≡ k → get_or part i 0 ≡ get_or s k 0
  byte-is i k l e = get_or-take n (drop at s) i 0 l ∙ get_or-drop at s i 0 ∙ ap (λ (j : ℕ). get_or s j 0) e

  half_part : (i k : ℕ) → i + 4 ≤ n → at + i ≡ k → half_of (drop i part) ≡ half_of (drop k s)
  half_part i k l e =
      let b₀ = byte-is i k (omega arith) e in
      let b₁ = byte-is (i + 1) (k + 1) (omega arith) (omega arith) in
      let b₂ = byte-is (i + 2) (k + 2) (omega arith) (omega arith) in
      let b₃ = byte-is (i + 3) (k + 3) (omega arith) (omega arith) in
      omega (arith, half_is part i, half_is s k, b₀, b₁, b₂, b₃)

  pub rest-long : 4 ≤ n → rest_of part ≡ half_of (drop at s) + half_of (drop (at + n - 4) s) * 2 ^ 32
  rest-long l =
      let low = half_part 0 at l (add-zero at) in
      let high = half_part (length part - 4) (at + n - 4) (omega (arith, size_is)) (omega (arith, size_is)) in
      rest_four part (omega (arith, size_is)) ∙ omega (arith, low, high)

  pub rest-short : n < 4 → 0 < n → rest_of part ≡ get_or s at 0 + get_or s (at + n / 2) 0 * 2 ^ 8 + get_or s (at + n - 1) 0 * 2 ^ 16 + 0 * 2 ^ 24
  rest-short l some =
      let first = byte-is 0 at some (add-zero at) in
      let middle = byte-is (length part / 2) (at + n / 2) (omega (arith, size_is)) (omega (arith, size_is)) in
      let last = byte-is (length part - 1) (at + n - 1) (omega (arith, size_is)) (omega (arith, size_is)) in
      rest-fewer part (omega (arith, size_is)) ∙ omega (arith, first, middle, last)

  word-part : 8 ≤ n → word_of part ≡ half_of (drop at s) + half_of (drop (at + 4) s) * 2 ^ 32
  word-part l =
      let low = half_part 0 at (omega arith) (add-zero at) in
      let high = half_part 4 (at + 4) l refl in
      word_eight part (omega (arith, size_is)) ∙ omega (arith, low, high)

drop-take : (i n : ℕ) (t : List ℕ) → i ≤ length t → drop i (take (i + n) t) ≡ take n (drop i t)
drop-take i n t l = ap (drop i) (take-add i n t) ∙ drop_at (take i t) (take n (drop i t)) i (length-take-le i t l)

next-part : (s : List ℕ) (at n : ℕ) → 8 ≤ n → at + n ≤ length s → drop 8 (take n (drop at s)) ≡ take (n - 8) (drop (at + 8) s)
next-part s at n l inside =
    let e : n ≡ 8 + (n - 8) = omega arith in
    ap (λ (k : ℕ). drop 8 (take k (drop at s))) e
    ∙ drop-take 8 (n - 8) (drop at s) (omega (arith, length-drop at s))
    ∙ ap (take (n - 8)) (drop-drop 8 at s)

-- ---- word by word

count-more : (n : ℕ) → 8 ≤ n → (n + 7) / 8 ≡ suc ((n - 8 + 7) / 8)
count-more n l = omega arith

text-more : (h : ℕ) (t : List ℕ) → 8 ≤ length t → mixed_text h t ≡ mixed_text (mixed h (word_of t)) (drop 8 t)
unfolding mixed_text mixed_words
text-more h t l =
    ap (λ (n : ℕ). mixed_words n h t) (count-more (length t) l)
    ∙ ap (λ (n : ℕ). mixed_words ((n + 7) / 8) (mixed h (word_of t)) (drop 8 t)) (sym (length-drop 8 t))

text-last : (h : ℕ) (t : List ℕ) → length t < 8 → 0 < length t → mixed_text h t ≡ mixed h (word_of t)
unfolding mixed_text mixed_words
text-last h t l some = let e : (length t + 7) / 8 ≡ 1 = omega arith in ap (λ (n : ℕ). mixed_words n h t) e

text-none : (h : ℕ) (t : List ℕ) → length t ≡ 0 → mixed_text h t ≡ h
unfolding mixed_text mixed_words
text-none h t e = ap (λ (n : ℕ). mixed_words ((n + 7) / 8) h t) e

-- what is mixed in when so many bytes are left
module _ (s : List ℕ) (h₀ h at n : ℕ) (all : List ℕ) (inside : at + n ≤ length s) (so_far : mixed_text h (take n (drop at s)) ≡ mixed_text h₀ all) where
  pub words_more : (h' w : ℕ) → 8 ≤ n → w ≡ half_of (drop at s) + half_of (drop (at + 4) s) * 2 ^ 32 → h' ≡ mixed h w
      → mixed_text h' (take (n - 8) (drop (at + 8) s)) ≡ mixed_text h₀ all
  words_more h' w l e f =
      let t = take n (drop at s) in
      ap (mixed_text h') (sym (next-part s at n l inside))
      ∙ ap (λ (x : ℕ). mixed_text x (drop 8 t)) (f ∙ ap (mixed h) (e ∙ sym (word-part s at n inside l)))
      ∙ sym (text-more h t (omega (arith, size_is s at n inside)))
      ∙ so_far

  pub words_last : (h' w : ℕ) → n < 8 → 0 < n → w ≡ rest_of (take n (drop at s)) → h' ≡ mixed h w → h' ≡ mixed_text h₀ all
  words_last h' w l some e f =
      let t = take n (drop at s) in
      let short : length t < 8 = omega (arith, size_is s at n inside) in
      f ∙ ap (mixed h) (e ∙ sym (word_fewer t short)) ∙ sym (text-last h t short (omega (arith, size_is s at n inside))) ∙ so_far

  pub words-end : n ≡ 0 → h ≡ mixed_text h₀ all
  words-end e = sym (text-none h (take n (drop at s)) (size_is s at n inside ∙ e)) ∙ so_far

-- ---- the hash of a text

pub text-inside : (s : List ℕ) (holder o n : ℕ) → o + n ≤ length s → spread (mixed_text (start holder n) (take n (drop o s))) ≡ text_hash holder (text_of s o n)
unfolding text_hash
text-inside s holder o n l =
    let e : o + n - o ≡ n = omega arith in
    ap (λ (k : ℕ). spread (mixed_text (start holder k) (take n (drop o s)))) (sym (size_is s o n l))
    ∙ ap (text_hash holder) (sym (text-part s o n l ∙ ap (λ (k : ℕ). take k (drop o s)) e))

pub text-outside : (s : List ℕ) (holder o n : ℕ) → text_of s o n ≡ [] → spread (start holder 0) ≡ text_hash holder (text_of s o n)
unfolding text_hash
text-outside s holder o n e = ap spread (sym (text-none (start holder 0) [] refl)) ∙ ap (text_hash holder) (sym e)

-- ---- words and keys

pub words-text : (s : List ℕ) (holder : ℕ) (w : KeyWords) → has_text w.tag ≡ true
    → hash_words s holder w ≡ text_hash holder (text_of s w.content w.size)
unfolding hash_words
words-text s holder w h = rw (hash_words, h)

pub words-int : (s : List ℕ) (holder : ℕ) (w : KeyWords) → has_text w.tag ≡ false → hash_words s holder w ≡ int_hash holder w.content
unfolding hash_words
words-int s holder w n = rw (hash_words, n)

pub hash_held : {of_array : Bool} (s : List ℕ) (holder : ℕ) (w : KeyWords) (k : Key) → Held of_array s k w → hash_words s holder w ≡ hash_key holder k
unfolding hash_key
hash_held s holder w (int_key x) h = words-int s holder w (ap has_text h.is) ∙ ap (int_hash holder) (sym h.says)
hash_held s holder w (string_key q) h =
    words-text s holder w (ap has_text h.is)
    ∙ ap (text_hash holder) (text-part s w.content w.size h.says.1 ∙ ap (λ (n : ℕ). take n (drop w.content s)) size_is ∙ sym h.says.0)
  where
    size_is : w.content + w.size - w.content ≡ w.size
    size_is = omega arith

-- equal keys have one hash
hash_meaning : (holder : ℕ) → KeyMeaning → ℕ
hash_meaning holder (int_key n) = int_hash holder (word n)
hash_meaning holder (string_key t) = text_hash holder t

of-meaning : (holder : ℕ) (k : Key) → hash_key holder k ≡ hash_meaning holder (key_meaning k)
unfolding hash_key hash_meaning
of-meaning holder (int_key x) = refl
of-meaning holder (string_key q) = refl

pub one_hash : (holder : ℕ) (j k : Key) → T (same_key j k) → hash_key holder j ≡ hash_key holder k
one_hash holder j k e = of-meaning holder j ∙ ap (hash_meaning holder) ((equal-keys j k).0 e) ∙ sym (of-meaning holder k)
