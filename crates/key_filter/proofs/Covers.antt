-- A word that has all bits of a mask. Assumes nothing.
use Prim.Native.Nat.{ℕ, zero, ◌+◌, ◌*◌, ◌/◌, ◌%◌, min, max}
use native.Mathlib.Nat.{div-add-mod'}
use native.Mathlib.Omega.{arith}
use mathlib.Core.Path.{◌≡◌, sym, ap, ap₂, ◌∙◌}
use lib.Arith.{bin_ind}
use lib.Bits.{bit_and, bit_or, and_step, and_zero_r, or_step}

-- the lowest bit, and those above
or_low : (a b : ℕ) → bit_or a b % 2 ≡ max (a % 2) (b % 2)
or_low a b = omega (arith, or_step a b)

or_half : (a b : ℕ) → bit_or a b / 2 ≡ bit_or (a / 2) (b / 2)
or_half a b = omega (arith, or_step a b)

and_low : (a b : ℕ) → bit_and a b % 2 ≡ min (a % 2) (b % 2)
and_low a b = omega (arith, and_step a b)

and_half : (a b : ℕ) → bit_and a b / 2 ≡ bit_and (a / 2) (b / 2)
and_half a b = omega (arith, and_step a b)

and_bits : (w m : ℕ) → bit_and (w / 2) (m / 2) ≡ m / 2 → min (w % 2) (m % 2) ≡ m % 2 → bit_and w m ≡ m
and_bits w m e f = and_step w m ∙ ap₂ (λ (x y : ℕ). x * 2 + y) e f ∙ div-add-mod' m 2

pub set-covers : (w m : ℕ) → bit_and (bit_or w m) m ≡ m
set-covers w m = go m w
  where
    go : (m w : ℕ) → bit_and (bit_or w m) m ≡ m
    go = bin_ind (λ (m : ℕ). (w : ℕ) → bit_and (bit_or w m) m ≡ m) (λ w. and_zero_r (bit_or w zero))
        (λ m ih w. and_bits (bit_or w m) m (ap (λ (x : ℕ). bit_and x (m / 2)) (or_half w m) ∙ ih (w / 2)) (omega (arith, or_low w m)))

pub more-covers : (w n m : ℕ) → bit_and w m ≡ m → bit_and (bit_or w n) m ≡ m
more-covers w n m = go m w n
  where
    go : (m w n : ℕ) → bit_and w m ≡ m → bit_and (bit_or w n) m ≡ m
    go = bin_ind (λ (m : ℕ). (w n : ℕ) → bit_and w m ≡ m → bit_and (bit_or w n) m ≡ m) (λ w n e. and_zero_r (bit_or w n))
        (λ m ih w n e. and_bits (bit_or w n) m
        (ap (λ (x : ℕ). bit_and x (m / 2)) (or_half w n) ∙ ih (w / 2) (n / 2) (omega (arith, and_step w m)))
        (omega (arith, or_low w n, and_step w m)))

-- two words at once
pub both_cover : (a b m : ℕ) → bit_and a m ≡ m → bit_and b m ≡ m → bit_and (bit_and a b) m ≡ m
both_cover a b m = go m a b
  where
    go : (m a b : ℕ) → bit_and a m ≡ m → bit_and b m ≡ m → bit_and (bit_and a b) m ≡ m
    go = bin_ind (λ (m : ℕ). (a b : ℕ) → bit_and a m ≡ m → bit_and b m ≡ m → bit_and (bit_and a b) m ≡ m) (λ a b e f. and_zero_r (bit_and a b))
        (λ m ih a b e f. and_bits (bit_and a b) m
        (ap (λ (x : ℕ). bit_and x (m / 2)) (and_half a b) ∙ ih (a / 2) (b / 2) (omega (arith, and_step a m)) (omega (arith, and_step b m)))
        (omega (arith, and_low a b, and_step a m, and_step b m)))

pub one_covers : (a b m : ℕ) → bit_and (bit_and a b) m ≡ m → bit_and a m ≡ m
one_covers a b m = go m a b
  where
    go : (m a b : ℕ) → bit_and (bit_and a b) m ≡ m → bit_and a m ≡ m
    go = bin_ind (λ (m : ℕ). (a b : ℕ) → bit_and (bit_and a b) m ≡ m → bit_and a m ≡ m) (λ a b e. and_zero_r a)
        (λ m ih a b e. and_bits a m
        (ih (a / 2) (b / 2) (ap (λ (x : ℕ). bit_and x (m / 2)) (sym (and_half a b)) ∙ omega (arith, and_step (bit_and a b) m)))
        (omega (arith, and_low a b, and_step (bit_and a b) m)))
