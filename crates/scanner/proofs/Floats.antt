-- Laws of float texts. Assumes nothing.
use Prim.Native.Nat.{ℕ, ◌+◌, ◌-◌, ◌≤◌, ◌<◌}
use native.Mathlib.Numerals.{add-one}
use native.Mathlib.Omega.{arith}
use mathlib.Core.Path.{◌≡◌, refl, sym, ap, ◌∙◌}
use mathlib.Core.Bool.{Bool, true, false}
use mathlib.Core.List.{List, [], ◌++◌, append_assoc, append-nil}
use lib.Dec.{eqb, lit<}
use lib.ListN.{length, get_or, take, drop, length-drop, drop_of_length-le}
use lib.Seq.{drop-cons, drop-drop, take-add, length-take-le}
use borrow.Author.Tests.{ne_eqb}
use Rattle.std.proofs.lemmas.List.{take_all, take-append-drop}
use Rattle.std.specs.Prelude.{Ok, Err}
use Rattle.format.specs.declared.codes.Code.{Code}
use Rattle.format.specs.Bytes.{byte, bytes}
use Rattle.format.specs.Limits.{is_float}
use Rattle.format.specs.Answer.{Answer, ok, refused, require, ◌>>=◌}
use Rattle.format.specs.Read.{expect, until, float_text}
use Rattle.scanner.specs.Scans.{Scans, tell, float_told}
use Rattle.scanner.specs.Parts.{Passed, SemicolonAt, NoSemicolon}
use Rattle.bytes_at.specs.ByteAt.{byte_at}
use Rattle.bytes_at.proofs.BytesAt.{expect_yes, expect-no}
use Rattle.scanner.proofs.Numbers.{scans-is, scans_not}

-- ---- the semicolon

pub passed_none : (s : List ℕ) (at : ℕ) → Passed s at at
passed_none s at = record { part = ap (λ (k : ℕ). take k (drop at s) ++ until (byte ";") (drop at s)) (zero_is at); on = omega arith }
  where
    zero_is : (m : ℕ) → 0 ≡ m - m
    zero_is m = omega arith

pub passed-one : (s : List ℕ) (i : ℕ) → i < length s → (get_or s i 0 ≡ byte ";" → ⊥) → Passed s i (i + 1)
passed-one s i h n =
    let one : i + 1 - i ≡ 1 = omega arith in
    record { part = rw (one, drop-cons s i 0 h, until, ne_eqb (byte ";") (get_or s i 0) (λ e. n (sym e)), add-one i); on = omega arith }

-- what was passed, and what stands behind it
module _ (s : List ℕ) (at i : ℕ) (p : Passed s at i) where
  abbrev front : List ℕ
  front = take (i - at) (drop at s)

  behind : drop (i - at) (drop at s) ≡ drop i s
  behind = drop-drop (i - at) at s ∙ ap (λ (k : ℕ). drop k s) (omega (arith, p.on))

  joined : (end : ℕ) → i ≤ end → front ++ take (end - i) (drop i s) ≡ take (end - at) (drop at s)
  joined end h = sym (ap (λ (k : ℕ). take k (drop at s)) sum ∙ take-add (i - at) (end - i) (drop at s) ∙ ap (λ (x : List ℕ). front ++ take (end - i) x) behind)
    where
      sum : end - at ≡ i - at + (end - i)
      sum = omega (arith, p.on)

  pub passed-on : (end : ℕ) → Passed s i end → Passed s at end
  passed-on end q =
      record {
        part = p.part ∙ ap (λ (x : List ℕ). front ++ x) q.part ∙ sym (append_assoc front (take (end - i) (drop i s)) (until (byte ";") (drop end s)))
            ∙ ap (λ (x : List ℕ). x ++ until (byte ";") (drop end s)) (joined end q.on);
        on = omega (arith, p.on, q.on);
      }

  pub passed-more : i < length s → (get_or s i 0 ≡ byte ";" → ⊥) → Passed s at (i + 1)
  passed-more h n = passed-on (i + 1) (passed-one s i h n)

  pub semicolon-on : (end : ℕ) → SemicolonAt s i end → SemicolonAt s at end
  semicolon-on end semi =
      record {
        part = p.part ∙ ap (λ (x : List ℕ). front ++ x) semi.part ∙ joined end semi.on;
        stop = semi.stop;
        inside = semi.inside;
        on = omega (arith, p.on, semi.on);
      }

  pub none-on : NoSemicolon s i → NoSemicolon s at
  none-on none = p.part ∙ ap (λ (x : List ℕ). front ++ x) (none ∙ sym behind) ∙ take-append-drop (i - at) (drop at s)

passed-stop : (s : List ℕ) (at i : ℕ) → Passed s at i → until (byte ";") (drop i s) ≡ [] → until (byte ";") (drop at s) ≡ take (i - at) (drop at s)
passed-stop s at i p e = p.part ∙ ap (λ (x : List ℕ). take (i - at) (drop at s) ++ x) e ∙ append-nil (take (i - at) (drop at s))

pub semicolon-here : (s : List ℕ) (at i : ℕ) → Passed s at i → i < length s → get_or s i 0 ≡ byte ";" → SemicolonAt s at i
semicolon-here s at i p h e = record { part = passed-stop s at i p (rw (drop-cons s i 0 h, until, e)); stop = e; inside = h; on = p.on }

pub semicolon-none : (s : List ℕ) (at i : ℕ) → Passed s at i → length s ≤ i → NoSemicolon s at
semicolon-none s at i p h = passed-stop s at i p (ap (until (byte ";")) (drop_of_length-le s h))
    ∙ take_all (i - at) (drop at s) (omega (arith, length-drop at s, p.on))

-- ---- a float text up to its semicolon

module _ (s : List ℕ) (at : ℕ) where
  pub float_colon : eqb (byte_at s at) (byte ":") ≡ false → Scans float_text (float_told at) s at (Err Code.TextUnfit)
  unfolding float_text
  float_colon e = scans_not Code.TextUnfit (λ l. rw (float_text, expect-no l s at (byte ":") [] e))

  module _ (colon : eqb (byte_at s at) (byte ":") ≡ true) where
    abbrev ended : (part : List ℕ) → (end : ℕ) → Answer (Unit {0}) → (l : ℕ) → Answer (List ℕ × List ℕ)
    ended part end fit l = do
      _ ← fit
      s₂ ← expect l (bytes ";") (drop end s)
      ok (part, s₂)

    -- what follows the colon
    abbrev rest : (part : List ℕ) → (end l : ℕ) → Answer (List ℕ × List ℕ)
    rest part end l = ended part end (require (is_float part) 2 l) l

    opened : (part : List ℕ) (end : ℕ) → until (byte ";") (drop (at + 1) s) ≡ part → at + 1 + length part ≡ end → (l : ℕ)
        → float_text l (drop at s) ≡ rest part end l
    unfolding float_text
    opened part end e n l = rw (float_text, expect_yes l s at (byte ":") [] (lit< tt) colon, e, drop-drop (length part) (at + 1) s, n)

    pub float_open : at + 1 ≤ length s → NoSemicolon s (at + 1) → Scans float_text (float_told at) s at (Err Code.TextUnfit)
    float_open h none = scans_not Code.TextUnfit (λ l.
        opened (drop (at + 1) s) (length s) none (omega (arith, length-drop (at + 1) s)) l ∙ shut (is_float (drop (at + 1) s)) l)
      where
        shut : (b : Bool) (l : ℕ) → ended (drop (at + 1) s) (length s) (require b 2 l) l ≡ refused 2 l
        shut true l = let none : drop (length s) s ≡ [] = drop_of_length-le s (omega arith) in rw none
        shut false l = refl

    module _ (end : ℕ) (semi : SemicolonAt s (at + 1) end) where
      abbrev part : List ℕ
      part = take (end - (at + 1)) (drop (at + 1) s)

      long : length part ≡ end - (at + 1)
      long = length-take-le (end - (at + 1)) (drop (at + 1) s) (omega (arith, length-drop (at + 1) s, semi.inside, semi.on))

      there : at + 1 + length part ≡ end
      there = omega (arith, semi.on, long)

      pub float_not : is_float part ≡ false → Scans float_text (float_told at) s at (Err Code.TextUnfit)
      float_not e = scans_not Code.TextUnfit (λ l. opened part end semi.part there l ∙ rw e)

      pub float_is : is_float part ≡ true → (w : ℕ) → w ≡ at + 1 → (n : ℕ) → n ≡ end - (at + 1)
          → Scans float_text (float_told at) s at (Ok (tell w n 0 (end + 1)))
      float_is e w a n b =
          scans-is (tell w n 0 (end + 1)) record {
            what = part;
            is = λ l. opened part end semi.part there l
                ∙ rw (e, drop-cons s end 0 semi.inside, semi.stop) (ap (λ (k : ℕ). ok (part, drop k s)) (sym (add-one end)));
            tells = rw (long, a, b);
            on = omega (arith, semi.on);
            inside = omega (arith, semi.inside);
          }
