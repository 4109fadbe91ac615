-- The head of a container, as scanned. Assumes nothing.
use Rattle.std.proofs.Common.{◌≡◌, ℕ, ◌+◌, ◌≤◌, Bool, List, [], ◌∷◌, length, drop, ap, ◌∙◌, arith, length-append, length-drop}
use Rattle.format.specs.Bytes.{byte}
use Rattle.format.specs.Syntax.{Spelling, Container, write_number, write_container}
use Rattle.format.specs.Answer.{ok}
use Rattle.format.specs.Read.{head_text}
use Rattle.format.specs.Table.{pairs_offset}
use Rattle.format.proofs.Fronts.{number-front, container-front}
use Rattle.format.proofs.Texts.{head_ok}
use Rattle.scanner.specs.declared.Text.{Text}
use Rattle.scanner.specs.Scans.{Found, head_told}

-- ---- its length

head-long : (a : Bool) (l : ℕ) (s : List ℕ) (q : (Container × (Spelling × ℕ)) × List ℕ) → head_text a l s ≡ ok q
    → length s + 1 ≡ length (write_container q.0.0 (write_number q.0.1.0 q.0.1.1 [])) + 2 + length q.1
head-long a l s ((c, (w, n)), r) e =
    let rest : List ℕ = byte ":" ∷ byte "{" ∷ r in
    let written = ap length (head_ok a l s ((c, (w, n)), r) e).text in
    let front = ap length (ap (write_container c) (number-front w n [] rest) ∙ container-front c (write_number w n []) rest) in
    omega (arith, written, front, length-append (write_container c (write_number w n [])) rest)

-- the pairs begin where the definition of the table says
pub head-written : (s : List ℕ) (at : ℕ) (a : Bool) (x : Text) (f : Found (head_text a) (head_told (at + 1)) s (at + 1) x) → at ≤ length s
    → x.next ≡ pairs_offset at (record { container = f.what.0; spelling = f.what.1.0 }) f.what.1.1
head-written s at a x f h =
    omega (arith, head-long a 0 (drop (at + 1) s) (f.what, drop x.next s) (f.is 0), length-drop (at + 1) s, length-drop x.next s, f.on, f.inside)
