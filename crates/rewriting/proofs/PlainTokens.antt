-- Plain tokens: they stay whatever the change. Assumes nothing.
use Prim.Native.Nat.{ℕ, zero, suc, ◌+◌, ◌-◌, ◌/◌, ◌%◌, ◌^◌, ◌≤◌, ◌<◌}
use native.Mathlib.Nat.{pow-succ'}
use native.Mathlib.Numerals.{add-one}
use native.Mathlib.Omega.{arith}
use mathlib.Core.Path.{◌≡◌, refl, sym, ap, ◌∙◌}
use mathlib.Core.Bool.{Bool, true, false}
use mathlib.Core.List.{List, [], ◌∷◌, ◌++◌}
use lib.Dec.{eqb, lit<}
use lib.ListN.{length, get_or, take, drop, length-append, length-drop, take-append-drop}
use lib.Seq.{drop-cons, drop-drop}
use Rattle.std.specs.Prelude.{Option, IfSome}
use Rattle.std.specs.Bool.{then_some}
use Rattle.decimal.specs.Digits.{digits_of, value, decimal, spelled}
use Rattle.decimal.specs.Promise.{RunAt}
use Rattle.decimal.specs.declared.Run.{Run}
use Rattle.decimal.proofs.Decide.{Order, below, above, order, T_of}
use Rattle.decimal.proofs.Numerals.{decimal-large, decimal-some, digits_are, digits-split, spelling}
use Rattle.format.specs.Bytes.{byte}
use Rattle.format.specs.Syntax.{null, int, float, unsigned, Literal}
use Rattle.format.specs.Table.{word_at, tag_word}
use Rattle.bytes_at.specs.ByteAt.{byte_at}
use Rattle.bytes_at.proofs.BytesAt.{byte-there, drop-byte}
use Rattle.bytes_at.proofs.Runs.{run_rest}
use Rattle.scanner.specs.Parts.{PlainEnd}
use Rattle.tokens.specs.Tokens.{Token, scalar, read_token, write_token, TokenFits, node_behind}
use Rattle.tokens.proofs.TokenLaws.{token-front, token_longer, token-printed}
use Rattle.tokens.proofs.Stretches.{between_more}
use Rattle.rewriting.specs.declared.rewrite.Change.{Change}
use Rattle.rewriting.specs.Shortest.{ShortestFront}
use Rattle.rewriting.specs.Rewriting.{changed_token, changed_text, rewritten_text}
use Rattle.rewriting.specs.Stretches.{TagAt, Passes}
use Rattle.rewriting.proofs.Respelled.{token-bytes}
use Rattle.rewriting.proofs.Staying.{no-zeros, front_of}

-- a place behind a token that is given under a test
pub if-passed : {s : List ℕ} {at next : ℕ} {b : Bool} {r : Option ℕ} → r ≡ then_some b next → (b ≡ true → Passes s at next) → IfSome r (Passes s at)
if-passed {b = true} e p = rw e (p refl)
if-passed {b = false} e p = rw e tt

-- a token that no change changes
passes-token : (s : List ℕ) (at : ℕ) (t : Token) (next : ℕ) → drop at s ≡ write_token t (drop next s) → next ≤ length s → TokenFits t
    → ((c : Change) (g : ℕ) → changed_token c g t ≡ t) → ((i : ℕ) → node_behind i t ≡ suc i) → Passes s at next
passes-token s at t next e h f same more =
    let longer : length (drop next s) < length (drop at s) = omega (arith, token_longer t (drop next s), ap length e) in
    record {
      on = omega (arith, longer, length-drop at s, length-drop next s);
      inside = h;
      split = λ c table node to i.
          let g : ℕ = word_at table node tag_word in
          let rest : List ℕ = rewritten_text c table (suc node) s next to in
          ap (changed_text c table node)
          (between_more s at to t next i (omega (arith, longer, length-drop at s)) (ap (read_token 0) e ∙ token-printed 0 t (drop next s) f))
          ∙ ap (λ (k : ℕ). write_token (changed_token c g t) (rewritten_text c table k s next to)) (more node)
          ∙ token-front (changed_token c g t) [] rest
          ∙ ap (λ (l : List ℕ). l ++ rest) (ap (λ (u : Token). write_token u []) (same c g) ∙ sym (token-bytes s at t next e h));
    }

-- a tag, and the byte behind it
module _ (s : List ℕ) (at b c : ℕ) (t : TagAt s at b) (l : c < 256) (e : eqb (byte_at s (at + 1)) c ≡ true) where
  tagged : drop at s ≡ b ∷ c ∷ drop (at + 2) s
  tagged =
      drop-cons s at 0 t.inside ∙ ap {B = List ℕ} (λ x. x ∷ drop (suc at) s) t.is
      ∙ ap (λ (k : ℕ). b ∷ drop k s) (sym (add-one at))
      ∙ ap {B = List ℕ} (λ x. b ∷ x) (drop-byte s (at + 1) c l e)
      ∙ ap (λ (k : ℕ). b ∷ c ∷ drop k s) two
    where
      two : at + 1 + 1 ≡ at + 2
      two = omega arith

pub plain-null : (s : List ℕ) (at : ℕ) → TagAt s at (byte "N") → eqb (byte_at s (at + 1)) (byte ";") ≡ true → Passes s at (at + 2)
plain-null s at t e =
    passes-token s at (scalar null) (at + 2) (tagged s at 78 59 t (lit< tt) e) (omega (arith, byte-there s (at + 1) 59 (lit< tt) e)) tt same (λ i. refl)
  where
    same : (c : Change) (g : ℕ) → changed_token c g (scalar null) ≡ scalar null
    same Change.Canonical g = refl
    same (Change.Renumber m) g = refl

-- so many digits, no more than that
few-digits : (k n : ℕ) → length (decimal n) ≤ k → n < 10 ^ k
few-digits zero n h = absurd (omega (arith, decimal-some n))
few-digits (suc k) n h = by (order n 10) (λ i. few-digits k (n / 10) i)
  where
    by : Order n 10 → (length (decimal (n / 10)) ≤ k → n / 10 < 10 ^ k) → n < 10 ^ suc k
    by (below l) r = omega (arith, pow-succ' 10 k, some k)
      where
        some : (k : ℕ) → 0 < 10 ^ k
        some zero = omega arith
        some (suc k) = omega (arith, pow-succ' 10 k, some k)
    by (above l) r =
        let fewer : n / 10 < 10 ^ k = r (omega (arith, h, ap length (decimal-large n l), length-append (decimal (n / 10)) ((48 + n % 10) ∷ []))) in
        omega (arith, pow-succ' 10 k, fewer)

module _ (s : List ℕ) (at : ℕ) (t : TagAt s at (byte "i")) (colon : eqb (byte_at s (at + 1)) (byte ":") ≡ true) (run : Run) (r : RunAt s (at + 2) 0 run) where
  module _ (some : at + 2 < run.next) (few : run.next - (at + 2) ≤ 18) (stop : eqb (byte_at s run.next) (byte ";") ≡ true) where
    pub plain_int : ShortestFront (get_or s (at + 2) 0) (get_or s (at + 3) 0) → Passes s at (run.next + 1)
    plain_int f =
        passes-token s at (scalar (int i)) (run.next + 1) (written_with 0 digits-are-shortest)
        (omega (arith, byte-there s run.next 59 (lit< tt) stop)) fits same (λ i. refl)
      where
        text : List ℕ
        text = drop (at + 2) s

        rest : List ℕ
        rest = drop (run.next + 1) s

        spelt : (zeros : ℕ) × (digits_of text ≡ spelled zeros (value (digits_of text)))
        spelt = spelling (digits_of text) (omega (arith, some, r.next)) (digits_are text)

        n : ℕ
        n = value (digits_of text)

        written_with : (z : ℕ) → digits_of text ≡ spelled z n → drop at s ≡ 105 ∷ 58 ∷ spelled z n ++ (59 ∷ rest)
        written_with z e =
            tagged s at 105 58 t (lit< tt) colon
            ∙ ap {B = List ℕ} (λ l. 105 ∷ 58 ∷ l) (digits-split text
            ∙ ap (λ (l : List ℕ). digits_of text ++ l) (run_rest s (at + 2) 0 run r ∙ drop-byte s run.next 59 (lit< tt) stop)
            ∙ ap (λ (l : List ℕ). l ++ (59 ∷ rest)) e)

        none : spelt.0 ≡ 0
        none = no-zeros spelt.0 n (59 ∷ rest) (front_of s at 105 (spelled spelt.0 n ++ (59 ∷ rest)) (written_with spelt.0 spelt.1) f)

        digits-are-shortest : digits_of text ≡ spelled 0 n
        digits-are-shortest = spelt.1 ∙ ap (λ (z : ℕ). spelled z n) none

        i : Literal
        i = record { sign = unsigned; zeros = 0; magnitude = n }

        fits : n ≤ 9223372036854775807
        fits = omega (arith, few-digits 18 n (omega (arith, few, r.next, ap length digits-are-shortest)))

        same : (c : Change) (g : ℕ) → changed_token c g (scalar (int i)) ≡ scalar (int i)
        same Change.Canonical g = refl
        same (Change.Renumber m) g = refl

pub plain_float : (s : List ℕ) (at : ℕ) → TagAt s at (byte "d") → eqb (byte_at s (at + 1)) (byte ":") ≡ true → {end : ℕ} → PlainEnd s (at + 2) end
    → Passes s at (end + 1)
plain_float s at t colon {end} p = passes-token s at (scalar (float text)) (end + 1) written (omega (arith, p.semicolon.inside)) (T_of p.float) same (λ i. refl)
  where
    text : List ℕ
    text = take (end - (at + 2)) (drop (at + 2) s)

    there : at + 2 + (end - (at + 2)) ≡ end
    there = omega (arith, p.semicolon.on)

    behind : drop (end - (at + 2)) (drop (at + 2) s) ≡ 59 ∷ drop (end + 1) s
    behind =
        drop-drop (end - (at + 2)) (at + 2) s ∙ ap (λ (k : ℕ). drop k s) there
        ∙ drop-cons s end 0 p.semicolon.inside ∙ ap {B = List ℕ} (λ b. b ∷ drop (suc end) s) p.semicolon.stop
        ∙ ap (λ (k : ℕ). 59 ∷ drop k s) (sym (add-one end))

    written : drop at s ≡ 100 ∷ 58 ∷ text ++ (59 ∷ drop (end + 1) s)
    written =
        tagged s at 100 58 t (lit< tt) colon
        ∙ ap {B = List ℕ} (λ l. 100 ∷ 58 ∷ l) (sym (take-append-drop (end - (at + 2)) (drop (at + 2) s)) ∙ ap (λ (l : List ℕ). text ++ l) behind)

    same : (c : Change) (g : ℕ) → changed_token c g (scalar (float text)) ≡ scalar (float text)
    same Change.Canonical g = refl
    same (Change.Renumber m) g = refl
