-- A token that stays as it is, by its tag and its first digits. Assumes nothing.
use Prim.Native.Nat.{ℕ, zero, suc, ◌+◌, ◌≤◌, ◌<◌}
use native.Mathlib.Omega.{arith}
use mathlib.Core.Path.{◌≡◌, refl, sym, ap, ◌∙◌, subst}
use mathlib.Core.Logic.{◌⊎◌, inl, inr, ⊎_elim}
use mathlib.Core.Bool.{Bool, true, false, not, true≢false, false≢true}
use mathlib.Core.List.{List, [], ◌∷◌, ◌++◌}
use lib.Dec.{T}
use lib.ListN.{length, get_or, drop, length-drop}
use lib.Seq.{slice, get_or-drop}
use Rattle.decimal.specs.Digits.{is_digit, spelled}
use Rattle.decimal.proofs.Decide.{and_left}
use Rattle.decimal.proofs.Numerals.{are_digits, digit_high, decimal-small, decimal-some, spelled-digits, spelled-some}
use Rattle.format.specs.Bytes.{byte}
use Rattle.format.specs.Kind.{Kind, tag}
use Rattle.format.specs.Syntax.{null, bool, int, float, string, array, object, Spelling, Sign, unsigned, plus, minus, Container, write_number, write_sign}
use Rattle.format.specs.Canonical.{shortest, shortest_sign}
use Rattle.format.proofs.Fronts.{number-length}
use Rattle.scanner.specs.declared.Text.{Text}
use Rattle.scanner.specs.Scans.{Found}
use Rattle.tokens.specs.Tokens.{Token, scalar, reference, opening, closing, ReferenceTag, read_token, token_told, write_token, canonical_token}
use Rattle.tokens.proofs.Standing.{Stands, first_byte, found-stands}
use Rattle.rewriting.specs.declared.rewrite.Change.{Change}
use Rattle.rewriting.specs.declared.splice.Renumbering.{Renumbering}
use Rattle.rewriting.specs.Shortest.{ShortestFront, shortest_text, Bounds}
use Rattle.rewriting.specs.Rewriting.{is_renumbered, respelled_text}
use Rattle.rewriting.specs.Shortest as fronts
use Rattle.rewriting.specs.Stretches.{Changes, Stays}
use Rattle.rewriting.proofs.Spelled.{as_canonical, as_renumbered, spelled_kept, spelled-other}
use Rattle.rewriting.proofs.Respelled.{whole, respelled, bounds}

-- ---- digits

first-digit : (ds r : List ℕ) → 0 < length ds → T (are_digits ds) → get_or (ds ++ r) 0 0 ≤ 57
first-digit [] r h t = absurd (omega arith)
first-digit (b ∷ ds) r h t = digit_high b (and_left (is_digit b) (are_digits ds) t)

spelled-first : (z n : ℕ) (r : List ℕ) → get_or (spelled z n ++ r) 0 0 ≤ 57
spelled-first z n r = first-digit (spelled z n) r (spelled-some z n) (spelled-digits z n)

-- a run that begins with another digit than 0 has no leading zeros, and is not zero
no_zero : (z n : ℕ) (r : List ℕ) → 49 ≤ get_or (spelled z n ++ r) 0 0 → (z ≡ 0) × (0 < n)
no_zero (suc z) n r h = absurd (omega (arith, h))
no_zero zero zero r h = absurd (omega (arith, h, ap (λ (l : List ℕ). get_or (l ++ r) 0 0) (decimal-small 0 (omega arith))))
no_zero zero (suc n) r h = (refl, omega arith)

-- A NUMBER BY ITS FIRST TWO BYTES
pub no-zeros : (z n : ℕ) (r : List ℕ) → ShortestFront (get_or (spelled z n ++ r) 0 0) (get_or (spelled z n ++ r) 1 0) → z ≡ 0
no-zeros zero n r f = refl
no-zeros (suc z) n r (fronts.digit h) = absurd (omega (arith, h))
no-zeros (suc z) n r (fronts.alone h) = absurd (omega (arith, h, spelled-first z n r))
no-zeros (suc z) n r (fronts.minus h i) = absurd (omega (arith, h))

no_plus : (z n : ℕ) (r : List ℕ) → ShortestFront (byte "+") (get_or (spelled z n ++ r) 0 0) → ⊥
no_plus z n r (fronts.digit h) = omega (arith, h)
no_plus z n r (fronts.alone h) = omega (arith, h, spelled-first z n r)
no_plus z n r (fronts.minus h i) = omega (arith, h)

pub shortest-number : (w : Spelling) (n : ℕ) (r : List ℕ) → ShortestFront (get_or (write_number w n r) 0 0) (get_or (write_number w n r) 1 0) → shortest ≡ w
shortest-number w n r f = go w.plus f
  where
    so : Bool → Spelling
    so p = record { plus = p; zeros = w.zeros }

    go : (p : Bool) → ShortestFront (get_or (write_number (so p) n r) 0 0) (get_or (write_number (so p) n r) 1 0) → shortest ≡ so p
    go true f = absurd (no_plus w.zeros n r f)
    go false f = ap (λ (z : ℕ). record { plus = false; zeros = z }) (sym (no-zeros w.zeros n r f))

-- AND AN INTEGER
shortest-integer : (g : Sign) (z n : ℕ) (r : List ℕ) → ShortestFront (get_or (write_sign g (spelled z n ++ r)) 0 0) (get_or (write_sign g (spelled z n ++ r)) 1 0)
    → (shortest_sign g n ≡ g) × (z ≡ 0)
shortest-integer unsigned z n r f = (refl, no-zeros z n r f)
shortest-integer plus z n r f = absurd (no_plus z n r f)
shortest-integer minus z n r (fronts.digit h) = absurd (omega (arith, h))
shortest-integer minus z n r (fronts.alone h) = absurd (omega (arith, h, spelled-first z n r))
shortest-integer minus z n r (fronts.minus h i) = let p = no_zero z n r i in (signed n p.1, p.0)
  where
    signed : (n : ℕ) → 0 < n → shortest_sign minus n ≡ minus
    signed zero h = absurd (omega arith)
    signed (suc n) h = refl

-- ---- the token that stands at an index

-- N, b, d and the closing brace, in the order of their bytes: no number follows
abbrev Unnumbered : ℕ → Type 0
Unnumbered b = (b ≡ tag Kind.null) ⊎ ((b ≡ tag Kind.bool) ⊎ ((b ≡ tag Kind.float) ⊎ (b ≡ byte "}")))

-- the bytes behind a tag and its colon
pub front_of : (s : List ℕ) (at b : ℕ) (l : List ℕ) → drop at s ≡ b ∷ 58 ∷ l → ShortestFront (get_or s (at + 2) 0) (get_or s (at + 3) 0)
    → ShortestFront (get_or l 0 0) (get_or l 1 0)
front_of s at b l e f =
    subst (λ (j : ℕ). ShortestFront (get_or l 0 0) j) (sym (get_or-drop at s 3 0) ∙ ap (λ (m : List ℕ). get_or m 3 0) e)
    (subst (λ (i : ℕ). ShortestFront i (get_or s (at + 3) 0)) (sym (get_or-drop at s 2 0) ∙ ap (λ (m : List ℕ). get_or m 2 0) e) f)

module _ (s : List ℕ) (at : ℕ) (x : Text) where
  unnumbered-text : Unnumbered (get_or s at 0) → shortest_text s at x ≡ slice at x.next s
  unfolding shortest_text
  unnumbered-text o = ⊎_elim (λ i. rw i) (λ o. ⊎_elim (λ i. rw i) (λ o. ⊎_elim (λ i. rw i) (λ i. rw i) o) o) o

  module _ (n : get_or s at 0 ≡ tag Kind.object → ⊥) where
    same-opening : (c : Container) (w : Spelling) (k : ℕ) → Stands s at (opening (record { container = c; spelling = w }) k) x
        → ShortestFront (get_or s (at + 2) 0) (get_or s (at + 3) 0)
        → canonical_token (opening (record { container = c; spelling = w }) k) ≡ opening (record { container = c; spelling = w }) k
    same-opening array w k st f =
        ap (λ (u : Spelling). opening (record { container = array; spelling = u }) k) (shortest-number w k _ (front_of s at 97 _ st.written f))
    same-opening (object q) w k st f = absurd (n (first_byte s at 79 _ st.written))

    same-token : (t : Token) → Stands s at t x → ShortestFront (get_or s (at + 2) 0) (get_or s (at + 3) 0) → canonical_token t ≡ t
    same-token (scalar null) st f = refl
    same-token (scalar (bool b)) st f = refl
    same-token (scalar (int i)) st f =
        let p = shortest-integer i.sign i.zeros i.magnitude _ (front_of s at 105 _ st.written f) in
        ap (λ (g : Sign). scalar (int (record { sign = g; zeros = 0; magnitude = i.magnitude }))) p.0
        ∙ ap (λ (z : ℕ). scalar (int (record { sign = i.sign; zeros = z; magnitude = i.magnitude }))) (sym p.1)
    same-token (scalar (float t)) st f = refl
    same-token (scalar (string q)) st f =
        ap (λ (u : Spelling). scalar (string (record { spelling = u; text = q.text })))
        (shortest-number q.spelling (length q.text) _ (front_of s at 115 _ st.written f))
    same-token (reference r) st f =
        ap (λ (u : Spelling). reference (record { kind = r.kind; spelling = u; named = r.named }))
        (shortest-number r.spelling r.named _ (front_of s at _ _ st.written f))
    same-token (opening h k) st f = same-opening h.container h.spelling k st f
    same-token closing st f = refl

  -- ---- a number has a digit, and a byte behind it

  inside-number : (b : ℕ) (w : Spelling) (k c : ℕ) (r : List ℕ) → drop at s ≡ b ∷ 58 ∷ write_number w k (c ∷ r) → at + 4 ≤ length s
  inside-number b w k c r e = omega (arith, length-drop at s, ap length e, number-length w k (c ∷ r), decimal-some k)

  module _ (p : Unnumbered (get_or s at 0) → ⊥) (n : get_or s at 0 ≡ tag Kind.object → ⊥) where
    never-unnumbered : (b : ℕ) (r : List ℕ) → drop at s ≡ b ∷ r → Unnumbered b → ⊥
    never-unnumbered b r e q = p (subst Unnumbered (sym (first_byte s at b r e)) q)

    inside-opening : (c : Container) (w : Spelling) (k : ℕ) → Stands s at (opening (record { container = c; spelling = w }) k) x → at + 4 ≤ length s
    inside-opening array w k st = inside-number 97 w k 58 _ st.written
    inside-opening (object q) w k st = absurd (n (first_byte s at 79 _ st.written))

    inside-token : (t : Token) → Stands s at t x → at + 4 ≤ length s
    inside-token (scalar null) st = absurd (never-unnumbered 78 _ st.written (inl refl))
    inside-token (scalar (bool b)) st = absurd (never-unnumbered 98 _ st.written (inr (inl refl)))
    inside-token (scalar (int i)) st =
        let b : Bounds s at x = bounds s at x (scalar (int i)) st in
        omega (arith, b.int (first_byte s at 105 _ st.written), b.inside)
    inside-token (scalar (float t)) st = absurd (never-unnumbered 100 _ st.written (inr (inr (inl refl))))
    inside-token (scalar (string q)) st = inside-number 115 q.spelling (length q.text) 58 _ st.written
    inside-token (reference r) st = inside-number _ r.spelling r.named 59 _ st.written
    inside-token (opening h k) st = inside-opening h.container h.spelling k st
    inside-token closing st = absurd (never-unnumbered 125 _ st.written (inr (inr (inr refl))))

    pub number-inside : Found read_token (token_told at) s at x → at + 4 ≤ length s
    number-inside f = inside-token f.what (found-stands s at x f)

-- ---- whether it stays

module _ {c : Change} (g : ℕ) (s : List ℕ) (at : ℕ) (x : Text) where
  does_stay : respelled_text c g s at x ≡ slice at x.next s → Stays c g s at x true
  does_stay e = record { kept = λ i. e; changes = λ i. absurd (true≢false i) }

  -- canonical text: nothing is asked of a token that is written again
  rewritten_whatever : c ≡ Change.Canonical → (get_or s at 0 ≡ byte "}" → ⊥) → Changes c s at x
  rewritten_whatever e b = record { number = b; moves = λ m i. absurd (never m (sym e ∙ i)) }
    where
      never : (m : Renumbering) → Change.Canonical ≡ Change.Renumber m → ⊥
      never m j = let z : ◌≡◌ {A = ℕ} 0 1 = cc in omega arith

  pub unnumbered_stays : c ≡ Change.Canonical → Unnumbered (get_or s at 0) → Stays c g s at x true
  unnumbered_stays e p = does_stay (as_canonical g s at x e ∙ unnumbered-text s at x p)

  pub number_stays : Found read_token (token_told at) s at x → c ≡ Change.Canonical → (get_or s at 0 ≡ byte "}" → ⊥)
      → (get_or s at 0 ≡ tag Kind.object → ⊥) → (r : Bool)
      → (r ≡ true → ShortestFront (get_or s (at + 2) 0) (get_or s (at + 3) 0)) → Stays c g s at x r
  number_stays f e b n r l = record { kept = λ i. same (l i); changes = λ i. rewritten_whatever e b }
    where
      st : Stands s at f.what x
      st = found-stands s at x f

      same : ShortestFront (get_or s (at + 2) 0) (get_or s (at + 3) 0) → respelled_text c g s at x ≡ slice at x.next s
      same h =
          as_canonical g s at x e ∙ respelled s at x f.what st ∙ ap (λ (t : Token). write_token t []) (same-token s at x n f.what st h)
          ∙ sym (whole s at x f.what st)

  module _ {m : Renumbering} (e : c ≡ Change.Renumber m) where
    pub reference_stays : ReferenceTag (get_or s at 0) → {b : Bool} → b ≡ is_renumbered m x.content → Stays c g s at x (not b)
    reference_stays o {b = false} h = does_stay (as_renumbered g s at x e ∙ spelled_kept m s at x o (sym h))
    reference_stays o {b = true} h = record {
      kept = λ i. absurd (false≢true i);
      changes = λ i. record {
        number = λ j. ⊎_elim (λ k. omega (arith, j, k)) (λ k. omega (arith, j, k)) o;
        moves = λ n j. (o, subst (λ (u : Renumbering). is_renumbered u x.content ≡ true) (one (sym e ∙ j)) (sym h));
      };
    }
      where
        one : {n : Renumbering} → Change.Renumber m ≡ Change.Renumber n → m ≡ n
        one j = cc

    pub other_stays : (ReferenceTag (get_or s at 0) → ⊥) → Stays c g s at x true
    other_stays n = does_stay (as_renumbered g s at x e ∙ spelled-other m s at x n)
