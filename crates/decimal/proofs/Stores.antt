-- Laws of runs of stores, and of the digits stored. Assumes nothing.
use Rattle.std.proofs.Common.{◌≡◌, ℕ, suc, ◌+◌, ◌/◌, ◌%◌, ◌^◌, ◌<◌, ◌≤◌, List, [], ◌∷◌, ◌++◌, length, set}
use Rattle.std.proofs.Common.{sym, ap, ◌∙◌, add-zero, add-suc, suc-add, arith, length-append}
use lib.Seq.{sets}
use Rattle.decimal.specs.Digits.{decimal}
use Rattle.decimal.specs.Promise.{Stored}
use Rattle.decimal.proofs.Numerals.{decimal-small, decimal-large, decimal-length}

-- a run of stores and the run after it are one run
pub sets-append : (a b l : List ℕ) (i j : ℕ) → j ≡ i + length a → sets (sets l i a) j b ≡ sets l i (a ++ b)
sets-append [] b l i j e = ap (λ (k : ℕ). sets l k b) (e ∙ add-zero i)
sets-append (x ∷ a) b l i j e = sets-append a b (set l i x) (suc i) j (e ∙ add-suc i (length a) ∙ sym (suc-add i (length a)))

pub stored_small : (before after : List ℕ) (at n : ℕ) → n < 10 → after ≡ set before (at + 0) (48 + n) → Stored before at n 1 after
stored_small before after at n h e = record {
  size = sym (ap length (decimal-small n h));
  output = e ∙ ap (λ (i : ℕ). set before i (48 + n)) (add-zero at) ∙ ap (λ (l : List ℕ). sets before at l) (sym (decimal-small n h));
}

-- so few digits that a count of them cannot overflow
pub stored_short : {before after : List ℕ} {at n written : ℕ} → Stored before at n written after → n < 10 ^ 20 → written ≤ 20
stored_short {n = n} s h = omega (arith, s.size, decimal-length 19 n h)

pub stored_large : (before high after : List ℕ) (at n written : ℕ) → 10 ≤ n → Stored before at (n / 10) written high
    → after ≡ set high (at + written) (48 + n % 10)
    → Stored before at n (written + 1) after
stored_large before high after at n written h s e = record {
  size = ap (λ (k : ℕ). k + 1) s.size ∙ sym (ap length (decimal-large n h) ∙ length-append (decimal (n / 10)) ((48 + n % 10) ∷ []));
  output = e ∙ ap (λ (l : List ℕ). set l (at + written) (48 + n % 10)) s.output
      ∙ sets-append (decimal (n / 10)) ((48 + n % 10) ∷ []) before at (at + written) (ap (λ (k : ℕ). at + k) s.size)
      ∙ ap (λ (l : List ℕ). sets before at l) (sym (decimal-large n h));
}
