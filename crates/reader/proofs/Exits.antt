-- What leaves a step by a `?`, and what goes on behind it. Assumes nothing.
use Rattle.std.proofs.Common.{◌≡◌, ℕ, List, drop, sym, ap, ◌∙◌}
use Rattle.std.specs.Prelude.{Result, Ok, Err, IsErrAnd}
use Rattle.format.specs.declared.codes.Refusal.{Refusal}
use Rattle.format.specs.Codes.{number_of}
use Rattle.format.specs.Answer.{Answer, ok, refused}
use Rattle.format.specs.Read.{Reader}
use Rattle.format.proofs.Answers.{not_both, refused-same}
use Rattle.scanner.specs.declared.Text.{Text}
use Rattle.scanner.specs.Scans.{Scan, scan_answer, Told, Found, Scans}
use Rattle.reader.specs.Steps.{step_answer, GoodOr}

-- a refusal is passed on as it is
pub exit : {A B : Type 0} (Good : B → Type 0) (o : Answer A) (why : Refusal) (r : Result B Refusal) → IsErrAnd r (λ e. e ≡ why)
    → o ≡ refused (number_of why.code) why.at → GoodOr Good o (step_answer r)
exit Good o why (Ok x) h e = absurd h
exit Good o why (Err y) h e = rw h e

placed : (scan : Scan) (at n p : ℕ) → refused n p ≡ scan_answer at scan → p ≡ at
placed (Ok t) at n p e = absurd (not_both e)
placed (Err c) at n p e = (refused-same e).1

-- what is read where a scan, its refusal at the tag, found a text or not
module _ {A : Type 0} {read : Reader A} {told : Told A} {s : List ℕ} {from : ℕ} {scan : Scan} (h : Scans read told s from scan) where
  pub found_at : (at : ℕ) {t : Text} → ok t ≡ scan_answer at scan → Found read told s from t
  found_at at e = h.found at _ (sym e)

  pub unfit_at : (at n p : ℕ) → refused n p ≡ scan_answer at scan → read at (drop from s) ≡ refused n p
  unfit_at at n p e =
      let q = placed scan at n p e in
      h.unfit at n (sym e ∙ ap (refused n) q) ∙ sym (ap (refused n) q)
