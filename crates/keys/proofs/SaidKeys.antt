-- The key that words say, and when two of them are equal. Assumes nothing.
use Prim.Native.Nat.{ℕ, ◌+◌, ◌-◌, ◌^◌, ◌≤◌, ◌<◌}
use native.Mathlib.Omega.{arith}
use mathlib.Core.Path.{◌≡◌, refl, sym, ap, ap₂, ◌∙◌}
use mathlib.Core.Bool.{Bool, true, false, not, true≢false}
use mathlib.Core.List.{List, []}
use lib.ListN.{length, take, drop}
use borrow.Author.Tests.{ne_eqb, le-leb, lt-leb}
use Rattle.decimal.proofs.Decide.{Test, passed, failed, test, T_true}
use Rattle.format.specs.Bytes.{same_bytes}
use Rattle.format.specs.Kind.{is_tag_of, key_kinds, has_text}
use Rattle.format.specs.Syntax.{int_key, string_key, Key}
use Rattle.format.specs.Keys.{KeyMeaning, key_meaning, same_integer, same_key}
use Rattle.format.specs.Canonical.{literal_of, quoted_of}
use Rattle.format.specs.Shows.{integer_of}
use Rattle.format.proofs.Keys.{integers-same}
use Rattle.format.proofs.NormalForm.{literal-means}
use Rattle.format.proofs.Words.{word_back, same_read}
use Rattle.keys.specs.declared.KeyWords.{KeyWords}
use Rattle.keys.specs.KeyWords.{text_of, says_text, key_said, Held}

-- ---- texts

text-inside : (s : List ℕ) (o n : ℕ) → o + n ≤ length s → text_of s o n ≡ take n (drop o s)
unfolding text_of
text-inside s o n h = rw (text_of, le-leb o (length s) (omega arith), le-leb n (length s - o) (omega arith))

-- the same as a part of the slice
pub text-part : (s : List ℕ) (o n : ℕ) → o + n ≤ length s → text_of s o n ≡ take (o + n - o) (drop o s)
text-part s o n h = let e : n ≡ o + n - o = omega arith in text-inside s o n h ∙ ap (λ (k : ℕ). take k (drop o s)) e

pub text-past : (s : List ℕ) (o n : ℕ) → length s < o → text_of s o n ≡ []
unfolding text_of
text-past s o n h = rw (text_of, lt-leb o (length s) h)

pub text-long : (s : List ℕ) (o n : ℕ) → o ≤ length s → length s - o < n → text_of s o n ≡ []
unfolding text_of
text-long s o n h k = rw (text_of, le-leb o (length s) h, lt-leb n (length s - o) k)

-- ---- kinds

pub text-array : (o : Bool) (w : KeyWords) → o ≡ true → says_text o w ≡ has_text w.tag
unfolding says_text
text-array o w e = rw (says_text, e)

pub text-object : (o : Bool) (w : KeyWords) → o ≡ false → says_text o w ≡ true
unfolding says_text
text-object o w e = rw (says_text, e)

-- ---- the key

module _ (o : Bool) (s : List ℕ) (w : KeyWords) where
  said_text : says_text o w ≡ true → key_said o s w ≡ string_key (quoted_of (text_of s w.content w.size))
  unfolding key_said
  said_text e = rw (key_said, e)

  said_integer : says_text o w ≡ false → key_said o s w ≡ int_key (literal_of (integer_of w.content))
  unfolding key_said
  said_integer e = rw (key_said, e)

-- THE WORDS SAY THE KEY of which they are: one that means the same
pub held-means : (o : Bool) (s : List ℕ) (w : KeyWords) (k : Key) → Held o s k w → key_meaning (key_said o s w) ≡ key_meaning k
held-means true s w (int_key x) h =
    ap key_meaning (said_integer true s w (text-array true w refl ∙ ap has_text h.is))
    ∙ ap {B = KeyMeaning} int_key (literal-means (integer_of w.content) ∙ ap integer_of (sym h.says) ∙ word_back x h.fits)
held-means false s w (int_key x) h = absurd (true≢false (sym h.allowed ∙ ap (is_tag_of (key_kinds false)) h.is))
held-means o s w (string_key q) h =
    ap key_meaning (said_text o s w (told o))
    ∙ ap {B = KeyMeaning} string_key (text-inside s w.content w.size h.says.1 ∙ sym h.says.0)
  where
    told : (o : Bool) → says_text o w ≡ true
    told true = text-array true w refl ∙ ap has_text h.is
    told false = text-object false w refl

-- ---- two keys

module _ (o : Bool) (s : List ℕ) (a : KeyWords) (t : List ℕ) (b : KeyWords) where
  module _ (text : says_text o a ≡ true) where
    pub same_texts : says_text o b ≡ true
        → same_key (key_said o s a) (key_said o t b) ≡ same_bytes (text_of s a.content a.size) (text_of t b.content b.size)
    same_texts e = ap₂ same_key (said_text o s a text) (said_text o t b e)

    pub text-integer : says_text o b ≡ false → same_key (key_said o s a) (key_said o t b) ≡ false
    text-integer e = ap₂ same_key (said_text o s a text) (said_integer o t b e)

  module _ (pattern : says_text o a ≡ false) where
    integer-text : says_text o b ≡ true → same_key (key_said o s a) (key_said o t b) ≡ false
    integer-text e = ap₂ same_key (said_integer o s a pattern) (said_text o t b e)

    integers : says_text o b ≡ false → same_key (key_said o s a) (key_said o t b) ≡ same_integer (integer_of a.content) (integer_of b.content)
    integers e =
        ap₂ same_key (said_integer o s a pattern) (said_integer o t b e)
        ∙ ap₂ same_integer (literal-means (integer_of a.content)) (literal-means (integer_of b.content))

    pub patterns_differ : a.content < 2 ^ 64 → b.content < 2 ^ 64 → (a.content ≡ b.content → ⊥) → same_key (key_said o s a) (key_said o t b) ≡ false
    patterns_differ l m n = go (test (says_text o b))
      where
        go : Test (says_text o b) → same_key (key_said o s a) (key_said o t b) ≡ false
        go (passed e) = integer-text e
        go (failed e) = integers e ∙ same_read a.content b.content l m ∙ ne_eqb a.content b.content n

    pub patterns_same : a.content ≡ b.content → same_key (key_said o s a) (key_said o t b) ≡ not (says_text o b)
    patterns_same q = go (test (says_text o b))
      where
        go : Test (says_text o b) → same_key (key_said o s a) (key_said o t b) ≡ not (says_text o b)
        go (passed e) = integer-text e ∙ ap not (sym e)
        go (failed e) =
            integers e ∙ ap (λ (n : ℕ). same_integer (integer_of a.content) (integer_of n)) (sym q)
            ∙ T_true (same_integer (integer_of a.content) (integer_of a.content)) (integers-same (integer_of a.content)) ∙ ap not (sym e)
