-- Laws of a run of digits at an index. Assumes nothing.
use Prim.Native.Nat.{ℕ, ◌-◌, ◌≤◌}
use native.Mathlib.Omega.{arith}
use mathlib.Core.Path.{◌≡◌, sym, ap, ◌∙◌}
use mathlib.Core.List.{List}
use lib.ListN.{length, drop, length-drop, length-append}
use lib.Seq.{drop-drop, drop-append_seam}
use Rattle.decimal.specs.Digits.{digits_of, after_digits}
use Rattle.decimal.specs.Promise.{RunAt}
use Rattle.decimal.specs.declared.Run.{Run}
use Rattle.decimal.proofs.Numerals.{digits-split}

module _ (s : List ℕ) (at cap : ℕ) (r : Run) (h : RunAt s at cap r) where
  pub run_rest : after_digits (drop at s) ≡ drop r.next s
  run_rest =
      sym (drop-append_seam (digits_of (drop at s)) (after_digits (drop at s)))
      ∙ ap (drop (length (digits_of (drop at s)))) (sym (digits-split (drop at s)))
      ∙ drop-drop (length (digits_of (drop at s))) at s
      ∙ ap (λ (k : ℕ). drop k s) (sym h.next)

  pub run_short : length (digits_of (drop at s)) ≤ length s - at
  run_short = omega (arith, length-drop at s, ap length (digits-split (drop at s)), length-append (digits_of (drop at s)) (after_digits (drop at s)))

  pub run_inside : at ≤ length s → r.next ≤ length s
  run_inside l = omega (arith, run_short, h.next)
