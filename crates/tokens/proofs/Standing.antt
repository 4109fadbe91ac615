-- A token that stands in the source, as scanned. Assumes nothing.
use Prim.Native.Nat.{ℕ, ◌≤◌}
use native.Mathlib.Nat.{add-zero}
use mathlib.Core.Path.{◌≡◌, sym, ap, ◌∙◌}
use mathlib.Core.List.{List, ◌∷◌}
use lib.ListN.{length, get_or, drop}
use lib.Seq.{get_or-drop}
use Rattle.format.specs.Answer.{refused}
use Rattle.format.proofs.Answers.{ok_same, not_both}
use Rattle.scanner.specs.declared.Text.{Text}
use Rattle.scanner.specs.Scans.{Found}
use Rattle.scanner.proofs.Numbers.{kept}
use Rattle.tokens.specs.Tokens.{Token, read_token, token_told, write_token, TokenFits}
use Rattle.tokens.proofs.TokenLaws.{token-printed}
use Rattle.tokens.proofs.TokenRead.{token-read}

pub first_byte : (s : List ℕ) (at b : ℕ) (r : List ℕ) → drop at s ≡ b ∷ r → get_or s at 0 ≡ b
first_byte s at b r e = ap (λ (i : ℕ). get_or s i 0) (sym (add-zero at)) ∙ sym (get_or-drop at s 0 0) ∙ ap (λ (l : List ℕ). get_or l 0 0) e

-- a token that stands in the source, and what its text tells
pub record Stands (s : List ℕ) (at : ℕ) (t : Token) (x : Text) : Type 0 where
  pub written : drop at s ≡ write_token t (drop x.next s)
  pub tells : x ≡ token_told at t x.next
  pub fits : TokenFits t
  pub inside : x.next ≤ length s

-- what a scan finds stands there
pub found-stands : (s : List ℕ) (at : ℕ) (x : Text) (f : Found read_token (token_told at) s at x) → Stands s at f.what x
found-stands s at x f = let r = token-read 0 (drop at s) (f.what, drop x.next s) (f.is 0) in record {
  written = r.0;
  tells = f.tells;
  fits = r.1;
  inside = f.inside;
}

-- what a scan finds where a token is known to stand is that token
pub record Standing (s : List ℕ) (at : ℕ) (t : Token) (behind : List ℕ) (x : Text) : Type 0 where
  pub stands : Stands s at t x
  pub rest : drop x.next s ≡ behind

pub standing : (s : List ℕ) (at : ℕ) (t : Token) (behind : List ℕ) (x : Text) → TokenFits t → drop at s ≡ write_token t behind
    → Found read_token (token_told at) s at x → Standing s at t behind x
standing s at t behind x fit e f =
    let q : kept f.what (drop x.next s) ≡ kept t behind = sym (f.is 0) ∙ ap (read_token 0) e ∙ token-printed 0 t behind fit in
    let same : f.what ≡ t = ap (λ (p : Token × List ℕ). p.0) (ok_same q) in
    let rest : drop x.next s ≡ behind = ap (λ (p : Token × List ℕ). p.1) (ok_same q) in
    record {
      stands = record {
        written = e ∙ ap (write_token t) (sym rest);
        tells = f.tells ∙ ap (λ (u : Token). token_told at u x.next) same;
        fits = fit;
        inside = f.inside;
      };
      rest = rest;
    }

-- and it is not unfit
pub never-unfit : (s : List ℕ) (at : ℕ) (t : Token) (behind : List ℕ) (c : ℕ) → TokenFits t → drop at s ≡ write_token t behind
    → ((l : ℕ) → read_token l (drop at s) ≡ refused c l) → ⊥
never-unfit s at t behind c fit e f = not_both (sym (f 0) ∙ ap (read_token 0) e ∙ token-printed 0 t behind fit)
