-- What marking keeps: a key that is not marked is none of those marked before. Assumes nothing.
use Prim.Native.Nat.{ℕ, ◌-◌, ◌/◌, ◌^◌, ◌<◌}
use native.Mathlib.Omega.{arith}
use mathlib.Core.Path.{◌≡◌, refl, sym, ap, ◌∙◌, subst}
use mathlib.Core.Bool.{Bool, true, false}
use mathlib.Core.List.{List, [], ◌∷◌, ◌++◌}
use lib.Dec.{T, eqb}
use lib.Bits.{bit_and, bit_or, and_le_r, and_comm}
use lib.ListN.{length, get_or, set, length-set}
use lib.Seq.{get_or-set_same, get_or-set_other, set_out}
use borrow.Author.Tests.{eq-eqb, ne_eqb, eqb-true, eqb-false}
use Rattle.format.specs.Syntax.{Key}
use Rattle.format.specs.Keys.{same_key, has_key}
use Rattle.key_filter.specs.Hash.{hash_key}
use Rattle.key_filter.specs.Filter.{slot_of, first, second, mask_of, covers, marked, with_mask, mark, Entered, Grows, AllMarked}
use Rattle.key_filter.proofs.Covers.{set-covers, more-covers, both_cover, one_covers}
use Rattle.key_filter.proofs.Hashing.{one_hash}

-- ---- two words get the bits of a mask

module _ (m : List ℕ) (i j q : ℕ) (in₁ : i < length m) (in₂ : j < length m) where
  abbrev step : List ℕ
  step = set m i (bit_or (get_or m i 0) q)

  at_second : get_or (with_mask m i j q) j 0 ≡ bit_or (get_or m j 0) q
  unfolding with_mask
  at_second = get_or-set_same step j (bit_or (get_or m j 0) q) 0 (omega (arith, length-set m i (bit_or (get_or m i 0) q)))

  elsewhere : (k : ℕ) → (k ≡ j → ⊥) → get_or (with_mask m i j q) k 0 ≡ get_or step k 0
  unfolding with_mask
  elsewhere k n = get_or-set_other step j k (bit_or (get_or m j 0) q) 0 n

  at_first : (b : Bool) → eqb i j ≡ b → get_or (with_mask m i j q) i 0 ≡ bit_or (get_or m i 0) q
  at_first true e = subst (λ (k : ℕ). get_or (with_mask m i j q) k 0 ≡ bit_or (get_or m k 0) q) (sym (eqb-true i j e)) at_second
  at_first false e = elsewhere i (eqb-false i j e) ∙ get_or-set_same m i (bit_or (get_or m i 0) q) 0 in₁

  -- a word that has all bits of another mask keeps them
  kept : (k n : ℕ) → bit_and (get_or m k 0) n ≡ n → bit_and (get_or (with_mask m i j q) k 0) n ≡ n
  kept k n c = go (eqb k j) refl (eqb k i) refl
    where
      more : get_or (with_mask m i j q) k 0 ≡ bit_or (get_or m k 0) q → bit_and (get_or (with_mask m i j q) k 0) n ≡ n
      more e = ap (λ (w : ℕ). bit_and w n) e ∙ more-covers (get_or m k 0) q n c

      at : (l : ℕ) → k ≡ l → get_or (with_mask m i j q) l 0 ≡ bit_or (get_or m l 0) q → get_or (with_mask m i j q) k 0 ≡ bit_or (get_or m k 0) q
      at l e = subst (λ (x : ℕ). get_or (with_mask m i j q) x 0 ≡ bit_or (get_or m x 0) q) (sym e)

      go : (b : Bool) → eqb k j ≡ b → (d : Bool) → eqb k i ≡ d → bit_and (get_or (with_mask m i j q) k 0) n ≡ n
      go true e d f = more (at j (eqb-true k j e) at_second)
      go false e true f = more (at i (eqb-true k i f) (at_first (eqb i j) refl))
      go false e false f =
          ap (λ (w : ℕ). bit_and w n) (elsewhere k (eqb-false k j e) ∙ get_or-set_other m i k (bit_or (get_or m i 0) q) 0 (eqb-false k i f)) ∙ c

  own_first : bit_and (get_or (with_mask m i j q) i 0) q ≡ q
  own_first = ap (λ (w : ℕ). bit_and w q) (at_first (eqb i j) refl) ∙ set-covers (get_or m i 0) q

  own-second : bit_and (get_or (with_mask m i j q) j 0) q ≡ q
  own-second = ap (λ (w : ℕ). bit_and w q) at_second ∙ set-covers (get_or m j 0) q

-- ---- marking a hash

pub slot_in : (n x : ℕ) → 0 < n → slot_of n x < n
unfolding slot_of
slot_in n x some = omega (arith, and_le_r x (n - 1))

-- a filter of n words, of which there is one at least
module _ (m : List ℕ) (n : ℕ) (long : length m ≡ n) (some : 0 < n) (h : ℕ) where
  pub marked_in : marked m h ≡ eqb (bit_and (bit_and (get_or m (first n h) 0) (get_or m (second n h) 0)) (mask_of h)) (mask_of h)
  unfolding marked covers
  marked_in = rw (marked, long, ne_eqb n 0 (λ e. omega arith), long)

  is-marked : bit_and (get_or m (first n h) 0) (mask_of h) ≡ mask_of h → bit_and (get_or m (second n h) 0) (mask_of h) ≡ mask_of h → marked m h ≡ true
  is-marked a b = marked_in ∙ eq-eqb _ _ (both_cover (get_or m (first n h) 0) (get_or m (second n h) 0) (mask_of h) a b)

  both : marked m h ≡ true → bit_and (bit_and (get_or m (first n h) 0) (get_or m (second n h) 0)) (mask_of h) ≡ mask_of h
  both e = eqb-true _ _ (sym marked_in ∙ e)

  in_first : marked m h ≡ true → bit_and (get_or m (first n h) 0) (mask_of h) ≡ mask_of h
  in_first e = one_covers (get_or m (first n h) 0) (get_or m (second n h) 0) (mask_of h) (both e)

  in_second : marked m h ≡ true → bit_and (get_or m (second n h) 0) (mask_of h) ≡ mask_of h
  in_second e =
      one_covers (get_or m (second n h) 0) (get_or m (first n h) 0) (mask_of h)
      (ap (λ (w : ℕ). bit_and w (mask_of h)) (and_comm (get_or m (second n h) 0) (get_or m (first n h) 0)) ∙ both e)

pub marked-none : (m : List ℕ) (h : ℕ) → length m ≡ 0 → marked m h ≡ true
unfolding marked
marked-none m h e = rw (marked, e)

mark-none : (m : List ℕ) (h : ℕ) → length m ≡ 0 → mark m h ≡ m
unfolding mark with_mask
mark-none m h e =
    let i = first (length m) h in
    let j = second (length m) h in
    let s = set m i (bit_or (get_or m i 0) (mask_of h)) in
    set_out s j (bit_or (get_or m j 0) (mask_of h)) (omega (arith, length-set m i (bit_or (get_or m i 0) (mask_of h))))
    ∙ set_out m i (bit_or (get_or m i 0) (mask_of h)) (omega arith)

mark-length : (m : List ℕ) (h : ℕ) → length (mark m h) ≡ length m
unfolding mark with_mask
mark-length m h =
    let i = first (length m) h in
    let j = second (length m) h in
    length-set (set m i (bit_or (get_or m i 0) (mask_of h))) j (bit_or (get_or m j 0) (mask_of h)) ∙ length-set m i (bit_or (get_or m i 0) (mask_of h))

-- a hash is marked once it is entered
pub mark-marked : (m : List ℕ) (h : ℕ) → marked (mark m h) h ≡ true
unfolding mark
mark-marked m h = go (eqb (length m) 0) refl
  where
    i : ℕ
    i = first (length m) h

    j : ℕ
    j = second (length m) h

    go : (b : Bool) → eqb (length m) 0 ≡ b → marked (mark m h) h ≡ true
    go true e = marked-none (mark m h) h (mark-length m h ∙ eqb-true (length m) 0 e)
    go false e =
        let some : 0 < length m = omega (arith, eqb-false (length m) 0 e) in
        let in₁ = slot_in (length m) (h / 2 ^ 44) some in
        let in₂ = slot_in (length m) (h / 2 ^ 32) some in
        is-marked (mark m h) (length m) (mark-length m h) some h (own_first m i j (mask_of h) in₁ in₂) (own-second m i j (mask_of h) in₁ in₂)

-- and stays so
pub mark-grows : (m : List ℕ) (h : ℕ) → Grows m (mark m h)
unfolding mark
mark-grows m h = record { keeps = λ g q. go g q (eqb (length m) 0) refl }
  where
    go : (g : ℕ) → marked m g ≡ true → (b : Bool) → eqb (length m) 0 ≡ b → marked (mark m h) g ≡ true
    go g q true e = marked-none (mark m h) g (mark-length m h ∙ eqb-true (length m) 0 e)
    go g q false e =
        let some : 0 < length m = omega (arith, eqb-false (length m) 0 e) in
        let in₁ = slot_in (length m) (h / 2 ^ 44) some in
        let in₂ = slot_in (length m) (h / 2 ^ 32) some in
        let keep = kept m (first (length m) h) (second (length m) h) (mask_of h) in₁ in₂ in
        is-marked (mark m h) (length m) (mark-length m h) some g
        (keep (first (length m) g) (mask_of g) (in_first m (length m) refl some g q))
        (keep (second (length m) g) (mask_of g) (in_second m (length m) refl some g q))

pub grows_none : (m : List ℕ) → Grows m m
grows_none m = record { keeps = λ h q. q }

pub grows-on : {a b c : List ℕ} → Grows a b → Grows b c → Grows a c
grows-on f g = record { keeps = λ h q. g.keeps h (f.keeps h q) }

-- ---- keys

pub all_grow : (m m' : List ℕ) (holder : ℕ) (ks : List Key) → Grows m m' → AllMarked m holder ks → AllMarked m' holder ks
all_grow m m' holder [] g a = tt
all_grow m m' holder (k ∷ ks) g a = (g.keeps (hash_key holder k) a.0, all_grow m m' holder ks g a.1)

pub all_snoc : (m : List ℕ) (holder : ℕ) (ks : List Key) (k : Key) → AllMarked m holder ks → marked m (hash_key holder k) ≡ true
    → AllMarked m holder (ks ++ (k ∷ []))
all_snoc m holder [] k a e = (e, tt)
all_snoc m holder (j ∷ ks) k a e = (a.0, all_snoc m holder ks k a.1 e)

-- where there are no words all are
pub all_none : (m : List ℕ) (holder : ℕ) (ks : List Key) → length m ≡ 0 → AllMarked m holder ks
all_none m holder [] e = tt
all_none m holder (k ∷ ks) e = (marked-none m (hash_key holder k) e, all_none m holder ks e)

-- A KEY THAT IS NOT MARKED IS NEW
pub new-key : (m : List ℕ) (holder : ℕ) (k : Key) (ks : List Key) → marked m (hash_key holder k) ≡ false → AllMarked m holder ks → has_key k ks ≡ false
new-key m holder k [] e a = refl
new-key m holder k (j ∷ ks) e a = rw (differs (same_key k j) refl) (new-key m holder k ks e a.1)
  where
    differs : (b : Bool) → same_key k j ≡ b → same_key k j ≡ false
    differs false q = q
    differs true q = absurd (clash (sym e ∙ ap (marked m) (one_hash holder k j (subst T (sym q) tt)) ∙ a.0))
      where
        clash : ◌≡◌ {A = Bool} false true → ⊥
        clash z = let y : ◌≡◌ {A = ℕ} 0 1 = cc in omega arith

-- ---- what entering answers

pub entered-none : (m : List ℕ) (h : ℕ) → length m ≡ 0 → Entered m m h true
entered-none m h e = record { answer = sym (marked-none m h e); filter = sym (mark-none m h e) }

pub entered_in : (m : List ℕ) (h i j mask : ℕ) → i ≡ first (length m) h → j ≡ second (length m) h → 0 < length m → mask ≡ mask_of h
    → Entered m (set (set m i (bit_or (get_or m i 0) mask)) j (bit_or (get_or m j 0) mask)) h (eqb (bit_and (bit_and (get_or m i 0) (get_or m j 0)) mask) mask)
unfolding mark with_mask
entered_in m h i j mask e f some g = rw (e, f, g) (record { answer = sym (marked_in m (length m) refl some h); filter = refl })

module _ {m m' : List ℕ} {h : ℕ} {r : Bool} (d : Entered m m' h r) where
  pub entered-grows : Grows m m'
  entered-grows = subst (Grows m) (sym d.filter) (mark-grows m h)

  pub entered-marked : marked m' h ≡ true
  entered-marked = ap (λ (x : List ℕ). marked x h) d.filter ∙ mark-marked m h
