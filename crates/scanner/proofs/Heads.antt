-- Laws of the heads of containers. Assumes nothing.
use Prim.Native.Nat.{ℕ, ◌+◌}
use native.Mathlib.Omega.{arith}
use mathlib.Core.Path.{◌≡◌, refl, ap, ◌∙◌}
use mathlib.Core.Bool.{true, false}
use mathlib.Core.List.{List, [], ◌∷◌}
use lib.Dec.{eqb, lit<}
use Rattle.std.specs.Prelude.{Ok, Err}
use Rattle.format.specs.declared.codes.Code.{Code}
use Rattle.format.specs.Bytes.{byte}
use Rattle.format.specs.Syntax.{array, object, Container, Spelling}
use Rattle.format.specs.Read.{quoted_text, count_text, head_text}
use Rattle.scanner.specs.declared.Text.{Text}
use Rattle.bytes_at.specs.ByteAt.{byte_at}
use Rattle.scanner.specs.Scans.{Scan, Found, Scans, tell, count_told, quoted_told, head_told}
use Rattle.bytes_at.proofs.BytesAt.{expect_yes, expect-no}
use Rattle.scanner.proofs.Numbers.{scans-is, scans_not, unfit-part, scans-part}

module _ (s : List ℕ) (at : ℕ) where
  pub array_colon : eqb (byte_at s at) (byte ":") ≡ false → Scans (head_text true) (head_told at) s at (Err Code.TextUnfit)
  unfolding head_text
  array_colon e = scans_not Code.TextUnfit (λ l. rw (head_text, expect-no l s at (byte ":") [] e))

  pub array-is : (r : Scan) → eqb (byte_at s at) (byte ":") ≡ true → Scans count_text count_told s (at + 1) r → Scans (head_text true) (head_told at) s at r
  unfolding head_text
  array-is r e h =
      scans-part {B = Container × (Spelling × ℕ)} h (omega arith) (λ n. (array, n)) (λ l. rw (head_text, expect_yes l s at (byte ":") [] (lit< tt) e))
      (λ n next. refl)

  pub object_not : (r : Scan) (c : Code) → Scans (λ l. quoted_text l (byte "\"" ∷ byte ":" ∷ [])) (quoted_told at) s at r → r ≡ Err c
      → Scans (head_text false) (head_told at) s at (Err c)
  unfolding head_text
  object_not r c h e = unfit-part h e (λ l q. rw (head_text, q))

  module _ (name : Text) (n : Found (λ l. quoted_text l (byte "\"" ∷ byte ":" ∷ [])) (quoted_told at) s at name) where
    pub object-count : (r : Scan) (c : Code) → Scans count_text count_told s name.next r → r ≡ Err c
        → Scans (head_text false) (head_told at) s at (Err c)
    unfolding head_text
    object-count r c h e = unfit-part h e (λ l q. rw (head_text, n.is l, q))

    pub object-is : (pairs : Text) → Found count_text count_told s name.next pairs
        → Scans (head_text false) (head_told at) s at (Ok (tell name.content name.size pairs.link pairs.next))
    unfolding head_text
    object-is pairs f =
        scans-is (tell name.content name.size pairs.link pairs.next) record {
          what = (object n.what, f.what);
          is = λ l. rw (head_text, n.is l, f.is l);
          tells =
              ap (λ (u : Text). tell u.content u.size pairs.link pairs.next) n.tells
              ∙ ap (λ (u : Text). tell (quoted_told at n.what name.next).content (quoted_told at n.what name.next).size u.link pairs.next)
              f.tells;
          on = omega (arith, n.on, f.on);
          inside = f.inside;
        }
