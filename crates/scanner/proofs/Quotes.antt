-- Laws of texts between quotes. Assumes nothing.
use Prim.Native.Nat.{ℕ, ◌+◌, ◌-◌, ◌≤◌, ◌<◌}
use native.Mathlib.Omega.{arith}
use mathlib.Core.Path.{◌≡◌, sym, ap, ◌∙◌}
use mathlib.Core.Bool.{Bool, true, false, ◌&&◌}
use mathlib.Core.List.{List, [], ◌∷◌}
use lib.Dec.{eqb, leb, lit<}
use lib.ListN.{length, get_or, take, drop, length-drop}
use lib.Seq.{drop-drop, length-take-le}
use borrow.Author.Tests.{le-leb, lt-leb, eq-eqb, eqb-true}
use Rattle.decimal.proofs.Decide.{Order, below, above, order, Test, passed, failed, test}
use Rattle.std.specs.Prelude.{Ok, Err}
use Rattle.format.specs.declared.codes.Code.{Code}
use Rattle.format.specs.Bytes.{byte, bytes}
use Rattle.format.specs.Syntax.{Quoted, write_number}
use Rattle.format.specs.Limits.{number_limit}
use Rattle.format.specs.Answer.{Answer, ok, refused, require, ◌>>=◌}
use Rattle.format.specs.Read.{expect, number, quoted_text}
use Rattle.format.proofs.Texts.{number_ok}
use Rattle.scanner.specs.declared.Text.{Text}
use Rattle.bytes_at.specs.ByteAt.{byte_at}
use Rattle.scanner.specs.Scans.{Scan, Found, Scans, tell, value_told, quoted_told}
use Rattle.bytes_at.proofs.BytesAt.{byte_in, expect_yes, expect-no, pair-first, pair-second, pair-there, pair_yes, pair-no}
use Rattle.scanner.proofs.Numbers.{scans-is, scans_not, unfit-part, number-ends}

-- ---- two bytes, as they are read

abbrev pair_at : (s : List ℕ) (i v w : ℕ) → Bool
pair_at s i v w = eqb (byte_at s i) v && eqb (byte_at s (i + 1)) w

module _ (s : List ℕ) (i v w : ℕ) where
  pub pair_is : i + 1 < length s → get_or s i 0 ≡ v → get_or s (i + 1) 0 ≡ w → pair_at s i v w ≡ true
  pair_is h a b = rw (eq-eqb (byte_at s i) v (byte_in s i (omega arith) ∙ a), eq-eqb (byte_at s (i + 1)) w (byte_in s (i + 1) h ∙ b))

  module _ (h : i + 1 < length s) (e : pair_at s i v w ≡ true) where
    pub first-is : get_or s i 0 ≡ v
    first-is = sym (byte_in s i (omega arith)) ∙ eqb-true (byte_at s i) v (pair-first s i v w e)

    pub second_is : get_or s (i + 1) 0 ≡ w
    second_is = sym (byte_in s (i + 1) h) ∙ eqb-true (byte_at s (i + 1)) w (pair-second s i v w e)

-- ---- texts between quotes

module _ (s : List ℕ) (at close : ℕ) (small : close < 256) where
  abbrev Answers : Scan → Type 0
  Answers r = Scans (λ l. quoted_text l (byte "\"" ∷ close ∷ [])) (quoted_told at) s at r

  pub quoted_colon : eqb (byte_at s at) (byte ":") ≡ false → Answers (Err Code.TextUnfit)
  unfolding quoted_text
  quoted_colon e = scans_not Code.TextUnfit (λ l. rw (quoted_text, expect-no l s at (byte ":") [] e))

  module _ (colon : eqb (byte_at s at) (byte ":") ≡ true) where
    pub quoted_not : (r : Scan) (c : Code) → Scans number value_told s (at + 1) r → r ≡ Err c → Answers (Err c)
    unfolding quoted_text
    quoted_not r c h e = unfit-part h e (λ l q. rw (quoted_text, expect_yes l s at (byte ":") [] (lit< tt) colon, q))

    module _ (run : Text) (n : Found number value_told s (at + 1) run) where
      -- what follows the length
      abbrev rest : (l : ℕ) → List ℕ → Answer (Quoted × List ℕ)
      rest l s₂ = do
        s₃ ← expect l (bytes ":\"") s₂
        _ ← require (leb run.content (length s₃)) 2 l
        s₄ ← expect l (byte "\"" ∷ close ∷ []) (drop run.content s₃)
        ok (record { spelling = n.what.0; text = take run.content s₃ }, s₄)

      worth : n.what.1 ≡ run.content
      worth = sym (ap (λ (u : Text). u.content) n.tells)

      pub fits : run.content ≤ number_limit
      fits = omega (arith, worth, (number_ok 0 (drop (at + 1) s) (n.what, drop run.next s) (n.is 0)).fits)

      opened : (l : ℕ) → quoted_text l (byte "\"" ∷ close ∷ []) (drop at s) ≡ rest l (drop run.next s)
      unfolding quoted_text
      opened l = rw (quoted_text, expect_yes l s at (byte ":") [] (lit< tt) colon, n.is l, worth)

      abbrev offset : ℕ
      offset = run.next + 2

      abbrev end : ℕ
      end = offset + run.content

      abbrev opens : Bool
      opens = pair_at s run.next (byte ":") (byte "\"")

      abbrev closes : Bool
      closes = pair_at s end (byte "\"") close

      entered : opens ≡ true → (l : ℕ) → expect l (bytes ":\"") (drop run.next s) ≡ ok (drop offset s)
      entered e l = pair_yes s run.next (byte ":") (byte "\"") e l [] (lit< tt) (lit< tt)

      -- whatever of its frame a text lacks, the refusal is the same
      pub quoted_unframed : (opens ≡ true → closes ≡ true → ⊥) → Answers (Err Code.TextUnfit)
      quoted_unframed never = scans_not Code.TextUnfit (λ l. opened l ∙ go l (test opens))
        where
          closed : (l : ℕ) → opens ≡ true → Test closes → expect l (byte "\"" ∷ close ∷ []) (drop end s) ≡ refused 2 l
          closed l e (failed f) = pair-no s end (byte "\"") close l [] (lit< tt) f
          closed l e (passed f) = absurd (never e f)

          enough : (l : ℕ) → opens ≡ true → Order (length s - offset) run.content → rest l (drop run.next s) ≡ refused 2 l
          enough l e (below h) = rw (entered e l, length-drop offset s, lt-leb run.content (length s - offset) h)
          enough l e (above h) = rw (
            entered e l,
            length-drop offset s,
            le-leb run.content (length s - offset) h,
            drop-drop run.content offset s,
            closed l e (test closes),
          )

          go : (l : ℕ) → Test opens → rest l (drop run.next s) ≡ refused 2 l
          go l (failed e) = rw (pair-no s run.next (byte ":") (byte "\"") l [] (lit< tt) e)
          go l (passed e) = enough l e (order (length s - offset) run.content)

      module _ (o : opens ≡ true) (e : closes ≡ true) where
        inside : end + 1 < length s
        inside = pair-there s end (byte "\"") close e small

        long : length (take run.content (drop offset s)) ≡ run.content
        long = length-take-le run.content (drop offset s) (omega (arith, length-drop offset s, inside))

        -- the text begins where its length, a colon and a quote end
        begins : offset ≡ at + 3 + length (write_number n.what.0 run.content [])
        begins = omega (arith, number-ends s (at + 1) run n, ap (λ (m : ℕ). length (write_number n.what.0 m [])) worth)

        pub quoted_is : (w : ℕ) → w ≡ offset → Answers (Ok (tell w run.content 0 (end + 2)))
        quoted_is w z =
            scans-is (tell w run.content 0 (end + 2)) record {
              what = record { spelling = n.what.0; text = take run.content (drop offset s) };
              is = λ l.
                  opened l ∙ rw (
                    entered o l,
                    length-drop offset s,
                    le-leb run.content (length s - offset) (omega (arith, inside)),
                    drop-drop run.content offset s,
                    pair_yes s end (byte "\"") close e l [] (lit< tt) small,
                  );
              tells = rw long (ap (λ (x : ℕ). tell x run.content 0 (end + 2)) (z ∙ begins));
              on = omega (arith, n.on);
              inside = omega (arith, inside);
            }
