-- Laws of the words that inserting takes from the table. Assumes nothing.
use Prim.Native.Nat.{ℕ, ◌+◌, ◌-◌, ◌≤◌, ◌<◌}
use mathlib.Core.Path.{◌≡◌, refl, sym, ap, ◌∙◌}
use mathlib.Core.Bool.{Bool, true, false, ◌&&◌, true≢false}
use mathlib.Core.List.{List}
use lib.Dec.{eqb, ltb, leb, ltb→lt, eqb→eq}
use borrow.Author.Tests.{eq-eqb, lt-ltb, leb-true, leb-false}
use Rattle.decimal.proofs.Decide.{T_of, and_left, and_right}
use Rattle.format.specs.Kind.{Kind, tag}
use Rattle.format.specs.Answer.{ok, refused, require}
use Rattle.format.specs.Table.{word_at, tag_word, ordinal_word, link_word}
use Rattle.format.proofs.Answers.{not_both, test-passed, test-failed}
use Rattle.placing.specs.declared.target.ArrayWords.{ArrayWords}
use Rattle.placing.specs.declared.target.GapWords.{GapWords}
use Rattle.placing.specs.Words.{array_words, pair_node, carriers, gap_words}

-- ---- the array at a node

pub record ArrayIs (t : List ℕ) (nodes node count ordinal : ℕ) : Type 0 where
  pub inside : node < nodes
  pub tagged : word_at t node tag_word ≡ tag Kind.array
  pub counted : count ≡ word_at t node link_word
  pub numbered : ordinal ≡ word_at t node ordinal_word

module _ (t : List ℕ) (n i : ℕ) where
  abbrev is_there : Bool
  is_there = ltb i n && eqb (word_at t i tag_word) (tag Kind.array)

  abbrev here : ArrayWords
  here = record { count = word_at t i link_word; ordinal = word_at t i ordinal_word }

  pub array-is : {c o : ℕ} → ok (record { count = c; ordinal = o }) ≡ array_words t n i → ArrayIs t n i c o
  unfolding array_words
  array-is {c} {o} e =
      let p = test-passed is_there 11 0 here (record { count = c; ordinal = o }) e in
      record {
        inside = ltb→lt i n (and_left (ltb i n) (eqb (word_at t i tag_word) (tag Kind.array)) (T_of p.0));
        tagged = eqb→eq (word_at t i tag_word) (tag Kind.array) (and_right (ltb i n) (eqb (word_at t i tag_word) (tag Kind.array)) (T_of p.0));
        counted = ap (λ (w : ArrayWords). w.count) p.1;
        numbered = ap (λ (w : ArrayWords). w.ordinal) p.1;
      }

  -- its refusal
  pub array-none : {c p : ℕ} → refused c p ≡ array_words t n i → (c ≡ 11) × (p ≡ 0) × (i < n → word_at t i tag_word ≡ tag Kind.array → ⊥)
  unfolding array_words
  array-none {c} {p} e =
      let f = test-failed is_there 11 0 c p here e in
      (f.1, f.2, λ h k. true≢false (sym (rw (lt-ltb i n h, eq-eqb (word_at t i tag_word) (tag Kind.array) k)) ∙ f.0))

-- ---- the gap at a place

pub record BeforeIs (t : List ℕ) (node count ordinal place gap new : ℕ) : Type 0 where
  pub within : place ≤ count
  pub behind : gap ≡ pair_node t (node + 1) place
  pub next : new ≡ ordinal + carriers t (node + 1) (pair_node t (node + 1) place - (node + 1)) + 1

module _ (t : List ℕ) (i n o p : ℕ) where
  abbrev gap : GapWords
  gap = record { node = pair_node t (i + 1) p; ordinal = o + carriers t (i + 1) (pair_node t (i + 1) p - (i + 1)) + 1 }

  pub gap_is : {m new : ℕ} → ok (record { node = m; ordinal = new }) ≡ gap_words t i n o p → BeforeIs t i n o p m new
  unfolding gap_words
  gap_is {m} {new} e =
      let g = test-passed (leb p n) 12 0 gap (record { node = m; ordinal = new }) e in
      record { within = leb-true p n g.0; behind = ap (λ (w : GapWords). w.node) g.1; next = ap (λ (w : GapWords). w.ordinal) g.1 }

  pub gap-none : {c q : ℕ} → refused c q ≡ gap_words t i n o p → (c ≡ 12) × (q ≡ 0) × (n < p)
  unfolding gap_words
  gap-none {c} {q} e = let f = test-failed (leb p n) 12 0 c q gap e in (f.1, f.2, leb-false p n f.0)

-- ---- checks

-- a check that passed, and one that did not
pub check_passed : {u : Unit {0}} (b : Bool) (n p : ℕ) → ok u ≡ require b n p → b ≡ true
check_passed true n p e = refl
check_passed false n p e = absurd (not_both (sym e))

pub check_failed : {c q : ℕ} (b : Bool) (n p : ℕ) → refused c q ≡ require b n p → b ≡ false
check_failed true n p e = absurd (not_both e)
check_failed false n p e = refl
