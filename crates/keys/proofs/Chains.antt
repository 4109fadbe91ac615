-- The keys of the pairs that stand in a table, as their words say them. Assumes nothing.
use Prim.Native.Nat.{ℕ, zero, suc, ◌+◌, ◌-◌, ◌*◌, ◌≤◌, ◌<◌, min}
use native.Mathlib.Omega.{arith}
use mathlib.Core.Path.{◌≡◌, refl, sym, ap, ap₂, ◌∙◌}
use mathlib.Core.Bool.{Bool, true, false, ◌||◌}
use mathlib.Core.List.{List, [], ◌∷◌}
use lib.ListN.{length}
use borrow.Author.Tests.{lt-ltb, le-ltb}
use Rattle.format.specs.Syntax.{Key}
use Rattle.format.specs.Keys.{KeyMeaning, key_meaning, same_meaning, same_key, has_key}
use Rattle.format.specs.Table.{width, word_at, pair_end}
use Rattle.format.specs.Reading.{capacity_of}
use Rattle.keys.specs.declared.KeyWords.{KeyWords}
use Rattle.keys.specs.KeyWords.{key_words_at, key_said, behind_pair, keys_from, keys_said, Held, Chain, none, pair}
use Rattle.keys.proofs.SaidKeys.{held-means}

-- ---- the walk over the pairs

behind-on : (t : List ℕ) (i e : ℕ) → i < word_at t i pair_end → behind_pair t i e ≡ word_at t i pair_end
unfolding behind_pair
behind-on t i e h = rw (behind_pair, lt-ltb i (word_at t i pair_end) h)

behind-back : (t : List ℕ) (i e : ℕ) → word_at t i pair_end ≤ i → behind_pair t i e ≡ e
unfolding behind_pair
behind-back t i e h = rw (behind_pair, le-ltb i (word_at t i pair_end) h)

module _ (o : Bool) (s t : List ℕ) where
  keys-end : (m i e : ℕ) → e ≤ i + 1 → keys_from o s t m i e ≡ []
  unfolding keys_from
  keys-end zero i e h = refl
  keys-end (suc m) i e h = rw (keys_from, le-ltb (i + 1) e h)

  keys-pair : (m i e : ℕ) → i + 1 < e → keys_from o s t (suc m) i e ≡ key_said o s (key_words_at t i) ∷ keys_from o s t m (behind_pair t i e) e
  unfolding keys_from
  keys-pair m i e h = rw (keys_from, lt-ltb (i + 1) e h)

  -- those from node i on are left to compare
  pub record Left (k : Key) (first end i : ℕ) : Type 0 where
    most : ℕ
    enough : min end (capacity_of t) ≤ i + most
    same : has_key k (keys_said o s t first end) ≡ has_key k (keys_from o s t most i (min end (capacity_of t)))

  module _ (k : Key) (first end : ℕ) where
    abbrev all : ℕ
    all = min end (capacity_of t)

    pub left-all : Left k first end first
    unfolding keys_said
    left-all = record { most = end; enough = omega arith; same = refl }

    module _ {i : ℕ} (l : Left k first end i) where
      pub left-none : all - 1 ≤ i → false ≡ has_key k (keys_said o s t first end)
      left-none h = sym (l.same ∙ ap (has_key k) (keys-end l.most i all (omega arith)))

      module _ (h : i < all - 1) where
        -- the key at hand, and the others
        hand : (m : ℕ) → all ≤ i + m → has_key k (keys_from o s t m i all)
            ≡ (same_key k (key_said o s (key_words_at t i)) || has_key k (keys_from o s t (m - 1) (behind_pair t i all) all))
        hand zero e = absurd (omega arith)
        hand (suc m) e =
            let f : suc m - 1 ≡ m = omega arith in
            ap (has_key k) (keys-pair m i all (omega arith))
            ∙ ap (λ (n : ℕ). same_key k (key_said o s (key_words_at t i)) || has_key k (keys_from o s t n (behind_pair t i all) all)) (sym f)

        opened : has_key k (keys_said o s t first end)
            ≡ (same_key k (key_said o s (key_words_at t i)) || has_key k (keys_from o s t (l.most - 1) (behind_pair t i all) all))
        opened = l.same ∙ hand l.most l.enough

        pub left-found : same_key k (key_said o s (key_words_at t i)) ≡ true → true ≡ has_key k (keys_said o s t first end)
        left-found e = sym (opened ∙ ap (λ (b : Bool). b || has_key k (keys_from o s t (l.most - 1) (behind_pair t i all) all)) e)

        module _ (other : same_key k (key_said o s (key_words_at t i)) ≡ false) where
          rest : (n : ℕ) → behind_pair t i all ≡ n → has_key k (keys_said o s t first end) ≡ has_key k (keys_from o s t (l.most - 1) n all)
          rest n e =
              opened ∙ ap (λ (b : Bool). b || has_key k (keys_from o s t (l.most - 1) (behind_pair t i all) all)) other
              ∙ ap (λ (j : ℕ). has_key k (keys_from o s t (l.most - 1) j all)) e

          pub left_back : word_at t i pair_end ≤ i → false ≡ has_key k (keys_said o s t first end)
          left_back b = sym (rest all (behind-back t i all b) ∙ ap (has_key k) (keys-end (l.most - 1) all all (omega arith)))

          pub left-next : i < word_at t i pair_end → Left k first end (word_at t i pair_end)
          left-next n = record { most = l.most - 1; enough = omega (arith, l.enough); same = rest (word_at t i pair_end) (behind-on t i all n) }

-- ---- the keys of a plan

pub chain-le : {o : Bool} {s t : List ℕ} {i n : ℕ} {ks : List Key} → Chain o s t i n ks → i ≤ n
chain-le none = omega arith
chain-le (pair h e l c) = let q = chain-le c in omega arith

means_has : (j k : Key) (ks : List Key) → key_meaning j ≡ key_meaning k → has_key j ks ≡ has_key k ks
means_has j k [] e = refl
means_has j k (x ∷ ks) e = ap₂ ◌||◌ (ap (λ (m : KeyMeaning). same_meaning m (key_meaning x)) e) (means_has j k ks e)

chain_has : {o : Bool} {s t : List ℕ} {i n : ℕ} {ks : List Key} (k : Key) (m : ℕ) → n ≤ i + m → Chain o s t i n ks
    → has_key k (keys_from o s t m i n) ≡ has_key k ks
chain_has {o} {s} {t} {i} k m f none = ap (has_key k) (keys-end o s t m i i (omega arith))
chain_has k zero f (pair h e l c) = let q = chain-le c in absurd (omega arith)
chain_has {o} {s} {t} {i} {n} k (suc m) f (pair {k = j} {ks = ks} h e l c) =
    let q = chain-le c in
    ap (has_key k) (keys-pair o s t m i n (omega arith))
    ∙ ap₂ ◌||◌ (ap (same_meaning (key_meaning k)) (held-means o s (key_words_at t i) j h))
    (ap (λ (x : ℕ). has_key k (keys_from o s t m x n)) (behind-on t i n (omega arith) ∙ e) ∙ chain_has k m (omega arith) c)

-- THE KEYS THAT THE WORDS SAY ARE THOSE OF THE PAIRS: so the test for equal keys is that of the plan
pub said_has : {o : Bool} {s t : List ℕ} {first n : ℕ} {ks : List Key} (other : List ℕ) (w : KeyWords) (k : Key) → n * width ≤ length t → Held o other k w
    → Chain o s t first n ks → has_key (key_said o other w) (keys_said o s t first n) ≡ has_key k ks
unfolding keys_said
said_has {o} {s} {t} {first} {n} {ks} other w k room h c =
    let e : min n (capacity_of t) ≡ n = omega arith in
    means_has (key_said o other w) k (keys_said o s t first n) (held-means o other w k h)
    ∙ ap (λ (m : ℕ). has_key k (keys_from o s t n first m)) e ∙ chain_has k n (omega arith) c
