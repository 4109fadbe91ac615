-- Laws of the texts of N and b. Assumes nothing.
use Prim.Native.Nat.{ℕ, ◌+◌, ◌<◌}
use native.Mathlib.Omega.{arith}
use mathlib.Core.Path.{◌≡◌, refl, sym, ap, ◌∙◌}
use mathlib.Core.Bool.{Bool, true, false, ◌&&◌, ◌||◌}
use mathlib.Core.List.{List, [], ◌∷◌}
use lib.Dec.{eqb, lit<}
use lib.ListN.{length, get_or, take, drop, drop_of_length-le}
use lib.Seq.{drop-cons}
use Rattle.decimal.proofs.Decide.{Order, below, above, order, Test, passed, failed, test}
use Rattle.std.specs.Prelude.{Ok, Err}
use Rattle.format.specs.declared.codes.Code.{Code}
use Rattle.format.specs.Bytes.{byte, bytes, same_bytes}
use Rattle.format.specs.Answer.{Answer, ok, refused, ◌>>=◌, require}
use Rattle.format.specs.Read.{expect, bool_text}
use Rattle.bytes_at.specs.ByteAt.{byte_at}
use Rattle.scanner.specs.Scans.{Scans, null_text, tell, nothing_told, bool_told}
use Rattle.scanner.proofs.Numbers.{scans-is, scans_not}
use Rattle.bytes_at.proofs.BytesAt.{byte_in, byte-there, drop-byte, expect_yes, expect-no, pair-first, pair-second, pair-there}

module _ (s : List ℕ) (at : ℕ) where
  pub null_open : eqb (byte_at s at) (byte ";") ≡ false → Scans null_text nothing_told s at (Err Code.TextUnfit)
  unfolding null_text
  null_open e = scans_not Code.TextUnfit (λ l. rw (null_text, expect-no l s at (byte ";") [] e))

  pub null_is : eqb (byte_at s at) (byte ";") ≡ true → Scans null_text nothing_told s at (Ok (tell 0 0 0 (at + 1)))
  unfolding null_text
  null_is e =
      let k : at < length s = byte-there s at (byte ";") (lit< tt) e in
      scans-is (tell 0 0 0 (at + 1)) record {
        what = tt;
        is = λ l. rw (null_text, expect_yes l s at (byte ";") [] (lit< tt) e);
        tells = refl;
        on = omega arith;
        inside = omega arith;
      }

  pub bool_open : eqb (byte_at s at) (byte ":") ≡ false → Scans bool_text bool_told s at (Err Code.TextUnfit)
  unfolding bool_text
  bool_open e = scans_not Code.TextUnfit (λ l. rw (bool_text, expect-no l s at (byte ":") [] e))

  module _ (colon : eqb (byte_at s at) (byte ":") ≡ true) where
    -- what follows the colon
    abbrev rest : (l : ℕ) → List ℕ → Answer (Bool × List ℕ)
    rest l s₁ = do
      _ ← require (same_bytes (take 1 s₁) (bytes "0") || same_bytes (take 1 s₁) (bytes "1")) 2 l
      s₂ ← expect l (bytes ";") (drop 1 s₁)
      ok (same_bytes (take 1 s₁) (bytes "1"), s₂)

    opened : (l : ℕ) → bool_text l (drop at s) ≡ rest l (drop (at + 1) s)
    unfolding bool_text
    opened l = rw (bool_text, expect_yes l s at (byte ":") [] (lit< tt) colon)

    plus_three : (m : ℕ) → m + 1 + 1 + 1 ≡ m + 3
    plus_three m = omega arith

    -- a bit that is there, and its semicolon
    rest-is : (b : ℕ) (v : Bool) → b < 256 → ((l : ℕ) (s₂ : List ℕ) → rest l (b ∷ s₂) ≡ (expect l (bytes ";") s₂ >>= λ s₃. ok (v, s₃)))
        → (eqb (byte_at s (at + 1)) b && eqb (byte_at s (at + 1 + 1)) (byte ";")) ≡ true → (l : ℕ) → bool_text l (drop at s) ≡ ok (v, drop (at + 3) s)
    rest-is b v h f e l =
        opened l
        ∙ ap (rest l) (drop-byte s (at + 1) b h (pair-first s (at + 1) b (byte ";") e))
        ∙ f l (drop (at + 1 + 1) s)
        ∙ rw (expect_yes l s (at + 1 + 1) (byte ";") [] (lit< tt) (pair-second s (at + 1) b (byte ";") e)) (ap (λ (k : ℕ). ok (v, drop k s)) (plus_three at))

    bool_is : (v : Bool) (b w : ℕ) → b < 256 → ((l : ℕ) (s₂ : List ℕ) → rest l (b ∷ s₂) ≡ (expect l (bytes ";") s₂ >>= λ s₃. ok (v, s₃)))
        → w ≡ (bool_told v 0).content
        → (eqb (byte_at s (at + 1)) b && eqb (byte_at s (at + 1 + 1)) (byte ";")) ≡ true → Scans bool_text bool_told s at (Ok (tell w 0 0 (at + 3)))
    bool_is v b w h f q e =
        let k : at + 1 + 1 < length s = pair-there s (at + 1) b (byte ";") e (lit< tt) in
        scans-is (tell w 0 0 (at + 3)) record {
          what = v;
          is = rest-is b v h f e;
          tells = ap (λ (x : ℕ). tell x 0 0 (at + 3)) q;
          on = omega arith;
          inside = omega arith;
        }

    pub bool_zero : (eqb (byte_at s (at + 1)) (byte "0") && eqb (byte_at s (at + 1 + 1)) (byte ";")) ≡ true
        → Scans bool_text bool_told s at (Ok (tell 0 0 0 (at + 3)))
    bool_zero e = bool_is false (byte "0") 0 (lit< tt) (λ l s₂. refl) refl e

    pub bool-one : (eqb (byte_at s (at + 1)) (byte "1") && eqb (byte_at s (at + 1 + 1)) (byte ";")) ≡ true
        → Scans bool_text bool_told s at (Ok (tell 1 0 0 (at + 3)))
    bool-one e = bool_is true (byte "1") 1 (lit< tt) (λ l s₂. refl) refl e

    pub bool_not : (eqb (byte_at s (at + 1)) (byte "0") && eqb (byte_at s (at + 1 + 1)) (byte ";")) ≡ false
        → (eqb (byte_at s (at + 1)) (byte "1") && eqb (byte_at s (at + 1 + 1)) (byte ";")) ≡ false → Scans bool_text bool_told s at (Err Code.TextUnfit)
    bool_not z o = scans_not Code.TextUnfit (λ l. opened l ∙ go l (test (eqb (byte_at s (at + 1)) (byte "0"))) (test (eqb (byte_at s (at + 1)) (byte "1"))))
      where
        bare : (l b : ℕ) → b < 256 → eqb (byte_at s (at + 1)) b ≡ true → (eqb (byte_at s (at + 1)) b && eqb (byte_at s (at + 1 + 1)) (byte ";")) ≡ false
            → (v : Bool) → ((s₂ : List ℕ) → rest l (b ∷ s₂) ≡ (expect l (bytes ";") s₂ >>= λ s₃. ok (v, s₃))) → rest l (drop (at + 1) s) ≡ refused 2 l
        bare l b h e n v f =
            ap (rest l) (drop-byte s (at + 1) b h e) ∙ f (drop (at + 1 + 1) s) ∙ rw (expect-no l s (at + 1 + 1) (byte ";") [] (rw e at n))

        neither : (l : ℕ) → eqb (byte_at s (at + 1)) (byte "0") ≡ false → eqb (byte_at s (at + 1)) (byte "1") ≡ false → Order (at + 1) (length s)
            → rest l (drop (at + 1) s) ≡ refused 2 l
        neither l a b (above k) = rw (drop_of_length-le s k)
        neither l a b (below k) = rw (drop-cons s (at + 1) 0 k, same_bytes, flip (byte "0") a, flip (byte "1") b)
          where
            flip : (w : ℕ) → eqb (byte_at s (at + 1)) w ≡ false → eqb (get_or s (at + 1) 0) w ≡ false
            flip w e = ap (λ (x : ℕ). eqb x w) (sym (byte_in s (at + 1) k)) ∙ e

        go : (l : ℕ) → Test (eqb (byte_at s (at + 1)) (byte "0")) → Test (eqb (byte_at s (at + 1)) (byte "1")) → rest l (drop (at + 1) s) ≡ refused 2 l
        go l (passed a) b = bare l (byte "0") (lit< tt) a z false (λ s₂. refl)
        go l (failed a) (passed b) = bare l (byte "1") (lit< tt) b o true (λ s₂. refl)
        go l (failed a) (failed b) = neither l a b (order (at + 1) (length s))
