-- An integer's word is read back as the integer. Assumes nothing.
use mathlib.Core.Path.{◌≡◌, sym, ap, ap₂, ◌∙◌, subst}
use mathlib.Core.Bool.{true, false}
use Prim.Native.Nat.{ℕ, zero, suc, ◌-◌, ◌*◌, ◌^◌, ◌≤◌, ◌<◌}
use native.Mathlib.Omega.{arith}
use lib.Dec.{T, eqb}
use lib.IntN.{ℤ, pos, neg_ℤ}
use borrow.Author.Tests.{eqb-true, eqb-false, le-leb, lt-leb}
use Rattle.decimal.proofs.Decide.{Test, passed, failed, test, Order, below, above, order, T_of, T_true}
use Rattle.decimal.proofs.Complements.{negate-some, sign-back, magnitude-back}
use Rattle.format.specs.Syntax.{Sign, unsigned, plus, minus, Literal}
use Rattle.format.specs.Keys.{signed, integer, same_integer}
use Rattle.format.specs.Limits.{integer_limit}
use Rattle.format.specs.Fits.{IntFits}
use Rattle.format.specs.Table.{word}
use Rattle.format.specs.Shows.{from_sign, integer_of}
use Rattle.format.proofs.Keys.{integers-equal, integers-same}

pos_back : (n : ℕ) → n ≤ 9223372036854775807 → integer_of (word (pos n)) ≡ pos n
pos_back n h = ap₂ from_sign (sign-back 64 false n (omega arith)) (magnitude-back 64 false n (omega arith))

signed_back : (s : Sign) (n : ℕ) → n ≤ integer_limit s → integer_of (word (signed s n)) ≡ signed s n
signed_back unsigned n h = pos_back n h
signed_back plus n h = pos_back n h
signed_back minus zero h = pos_back 0 (omega arith)
signed_back minus (suc n) h = ap₂ from_sign (sign-back 64 true (suc n) (omega arith)) (magnitude-back 64 true (suc n) (omega arith))

-- "i: the integer's two's complement pattern": of an integer in range, and of no other
pub word_back : (x : Literal) → IntFits x → integer_of (word (integer x)) ≡ integer x
word_back x h = signed_back x.sign x.magnitude h

-- two integers that are read back are equal exactly when their words are
same_back : (m n : ℤ) → integer_of (word m) ≡ m → integer_of (word n) ≡ n → same_integer m n ≡ eqb (word m) (word n)
same_back m n h k = go (test (eqb (word m) (word n))) (test (same_integer m n))
  where
    equal : eqb (word m) (word n) ≡ true → m ≡ n
    equal e = sym h ∙ ap integer_of (eqb-true (word m) (word n) e) ∙ k

    go : Test (eqb (word m) (word n)) → Test (same_integer m n) → same_integer m n ≡ eqb (word m) (word n)
    go (passed e) b = T_true (same_integer m n) (subst (λ (i : ℤ). T (same_integer m i)) (equal e) (integers-same m)) ∙ sym e
    go (failed e) (passed s) = absurd (eqb-false (word m) (word n) e (ap word (integers-equal m n (T_of s))))
    go (failed e) (failed s) = s ∙ sym e

-- those in range are
pub same_word : (x y : Literal) → IntFits x → IntFits y → same_integer (integer x) (integer y) ≡ eqb (word (integer x)) (word (integer y))
same_word x y h k = same_back (integer x) (integer y) (word_back x h) (word_back y k)

-- and every word of 64 bits is the word of the integer read back from it
read_word : (w : ℕ) → w < 2 ^ 64 → word (integer_of w) ≡ w
read_word w h = go (order (2 * w) (2 ^ 64))
  where
    negative : (m : ℕ) → 0 < m → m ≤ 2 ^ 64 → word (neg_ℤ (pos m)) ≡ 2 ^ 64 - m
    negative zero p l = absurd (omega arith)
    negative (suc m) p l = negate-some 64 (suc m) p l

    go : Order (2 * w) (2 ^ 64) → word (integer_of w) ≡ w
    go (below l) = rw (lt-leb (2 ^ 64) (2 * w) l)
    go (above l) =
        rw (le-leb (2 ^ 64) (2 * w) l, negate-some 64 w (omega arith) (omega arith)) (negative (2 ^ 64 - w) (omega arith) (omega arith) ∙ omega arith)

pub same_read : (v w : ℕ) → v < 2 ^ 64 → w < 2 ^ 64 → same_integer (integer_of v) (integer_of w) ≡ eqb v w
same_read v w h k =
    same_back (integer_of v) (integer_of w) (ap integer_of (read_word v h)) (ap integer_of (read_word w k)) ∙ ap₂ eqb (read_word v h) (read_word w k)
