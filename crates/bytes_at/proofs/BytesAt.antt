-- Laws of the bytes of a source. Assumes nothing.
use Prim.Native.Nat.{ℕ, suc, ◌+◌, ◌≤◌, ◌<◌}
use native.Mathlib.Numerals.{add-one}
use native.Mathlib.Omega.{arith}
use mathlib.Core.Path.{◌≡◌, refl, sym, ap, ◌∙◌}
use mathlib.Core.Bool.{true, false, ◌&&◌, true≢false, and-false}
use mathlib.Core.List.{List, [], ◌∷◌}
use lib.Dec.{eqb}
use lib.ListN.{length, get_or, drop, get_or-eq_default, drop_of_length-le}
use lib.Seq.{drop-cons}
use borrow.Author.Tests.{ne_eqb, eq-eqb, eqb-true, eqb-false}
use Rattle.std.proofs.lemmas.Bool.{and_parts}
use Rattle.std.proofs.lemmas.List.{get_or_default}
use Rattle.decimal.proofs.Decide.{Order, below, above, order, Test, passed, failed, test}
use Rattle.format.specs.Bytes.{same_bytes}
use Rattle.format.specs.Answer.{refused}
use Rattle.format.specs.Read.{expect}
use Rattle.bytes_at.specs.ByteAt.{byte_at}

pub byte_in : (s : List ℕ) (i : ℕ) → i < length s → byte_at s i ≡ get_or s i 0
unfolding byte_at
byte_in s i h = get_or_default s i 256 0 h

byte_out : (s : List ℕ) (i : ℕ) → length s ≤ i → byte_at s i ≡ 256
unfolding byte_at
byte_out s i h = get_or-eq_default s 256 h

-- a byte's test fails past the end, so where it passes, the index is inside
byte-none : (s : List ℕ) (i b : ℕ) → length s ≤ i → b < 256 → eqb (byte_at s i) b ≡ false
byte-none s i b h l = ne_eqb (byte_at s i) b (λ e. no (byte_out s i h) e)
  where
    no : byte_at s i ≡ 256 → byte_at s i ≡ b → ⊥
    no p q = omega arith

pub byte-there : (s : List ℕ) (i b : ℕ) → b < 256 → eqb (byte_at s i) b ≡ true → i < length s
byte-there s i b l e = go (order i (length s))
  where
    go : Order i (length s) → i < length s
    go (below h) = h
    go (above h) = absurd (true≢false (sym e ∙ byte-none s i b h l))

-- what is left of the source begins with the byte
pub drop-byte : (s : List ℕ) (i b : ℕ) → b < 256 → eqb (byte_at s i) b ≡ true → drop i s ≡ b ∷ drop (i + 1) s
drop-byte s i b l e =
    let h : i < length s = byte-there s i b l e in
    drop-cons s i 0 h
    ∙ ap (λ (x : ℕ). x ∷ drop (suc i) s) (sym (byte_in s i h) ∙ eqb-true (byte_at s i) b e)
    ∙ ap (λ (k : ℕ). b ∷ drop k s) (sym (add-one i))

-- another byte, or none
pub byte-other : (s : List ℕ) (i w : ℕ) → i < length s → eqb (byte_at s i) w ≡ false → eqb w (get_or s i 0) ≡ false
byte-other s i w k e = ne_eqb w (get_or s i 0) (λ q. eqb-false (byte_at s i) w e (byte_in s i k ∙ sym q))

pub expect_yes : (l : ℕ) (s : List ℕ) (i w : ℕ) (ws : List ℕ) → w < 256 → eqb (byte_at s i) w ≡ true
    → expect l (w ∷ ws) (drop i s) ≡ expect l ws (drop (i + 1) s)
expect_yes l s i w ws h e = ap (expect l (w ∷ ws)) (drop-byte s i w h e) ∙ rw (expect, eq-eqb w w refl)

pub expect-no : (l : ℕ) (s : List ℕ) (i w : ℕ) (ws : List ℕ) → eqb (byte_at s i) w ≡ false → expect l (w ∷ ws) (drop i s) ≡ refused 2 l
expect-no l s i w ws e = go (order i (length s))
  where
    go : Order i (length s) → expect l (w ∷ ws) (drop i s) ≡ refused 2 l
    go (below k) = ap (expect l (w ∷ ws)) (drop-cons s i 0 k) ∙ rw (expect, byte-other s i w k e)
    go (above k) = ap (expect l (w ∷ ws)) (drop_of_length-le s k)

-- ---- two bytes

pub plus-two : (m : ℕ) → m + 1 + 1 ≡ m + 2
plus-two m = omega arith

module _ (s : List ℕ) (i v w : ℕ) where
  module _ (e : (eqb (byte_at s i) v && eqb (byte_at s (i + 1)) w) ≡ true) where
    pub pair-first : eqb (byte_at s i) v ≡ true
    pair-first = (and_parts (eqb (byte_at s i) v) (eqb (byte_at s (i + 1)) w) e).0

    pub pair-second : eqb (byte_at s (i + 1)) w ≡ true
    pair-second = (and_parts (eqb (byte_at s i) v) (eqb (byte_at s (i + 1)) w) e).1

    pub pair-there : w < 256 → i + 1 < length s
    pair-there h = byte-there s (i + 1) w h pair-second

    pub pair_yes : (l : ℕ) (ws : List ℕ) → v < 256 → w < 256 → expect l (v ∷ w ∷ ws) (drop i s) ≡ expect l ws (drop (i + 2) s)
    pair_yes l ws h k = expect_yes l s i v (w ∷ ws) h pair-first ∙ expect_yes l s (i + 1) w ws k pair-second
        ∙ ap (λ (m : ℕ). expect l ws (drop m s)) (plus-two i)

  pub pair-no : (l : ℕ) (ws : List ℕ) → v < 256 → (eqb (byte_at s i) v && eqb (byte_at s (i + 1)) w) ≡ false → expect l (v ∷ w ∷ ws) (drop i s) ≡ refused 2 l
  pair-no l ws h e = go (test (eqb (byte_at s i) v)) (test (eqb (byte_at s (i + 1)) w))
    where
      go : Test (eqb (byte_at s i) v) → Test (eqb (byte_at s (i + 1)) w) → expect l (v ∷ w ∷ ws) (drop i s) ≡ refused 2 l
      go (failed a) b = expect-no l s i v (w ∷ ws) a
      go (passed a) (failed b) = expect_yes l s i v (w ∷ ws) h a ∙ expect-no l s (i + 1) w ws b
      go (passed a) (passed b) = absurd (true≢false (rw (a, b) at e))

-- ---- bytes compared

pub differ_length : (a b : List ℕ) → (length a ≡ length b → ⊥) → false ≡ same_bytes a b
differ_length [] [] h = absurd (h refl)
differ_length [] (y ∷ b) h = refl
differ_length (x ∷ a) [] h = refl
differ_length (x ∷ a) (y ∷ b) h = rw (← differ_length a b (λ e. h (ap suc e))) (sym (and-false (eqb x y)))

module _ (a b : List ℕ) (i : ℕ) (l : length a ≡ length b) where
  at_both : i < length a → same_bytes (drop i a) (drop i b) ≡ (eqb (get_or a i 0) (get_or b i 0) && same_bytes (drop (i + 1) a) (drop (i + 1) b))
  at_both h =
      ap (λ (x : List ℕ). same_bytes x (drop i b)) (drop-cons a i 0 h)
      ∙ ap (same_bytes (get_or a i 0 ∷ drop (suc i) a)) (drop-cons b i 0 (omega arith))
      ∙ ap (λ (k : ℕ). eqb (get_or a i 0) (get_or b i 0) && same_bytes (drop k a) (drop k b)) (sym (add-one i))

  module _ (e : same_bytes a b ≡ same_bytes (drop i a) (drop i b)) where
    pub same_more : i < length a → get_or a i 0 ≡ get_or b i 0 → same_bytes a b ≡ same_bytes (drop (i + 1) a) (drop (i + 1) b)
    same_more h q = e ∙ at_both h ∙ rw (eq-eqb (get_or a i 0) (get_or b i 0) q)

    pub same_not : i < length a → (get_or a i 0 ≡ get_or b i 0 → ⊥) → false ≡ same_bytes a b
    same_not h q = sym (e ∙ at_both h ∙ rw (ne_eqb (get_or a i 0) (get_or b i 0) q))

    pub same_end : length a ≤ i → true ≡ same_bytes a b
    same_end h =
        let m : length b ≤ i = omega arith in
        sym (e ∙ ap (λ (x : List ℕ). same_bytes x (drop i b)) (drop_of_length-le a h) ∙ ap (same_bytes []) (drop_of_length-le b m))
