-- Laws of numerals, for every width: the shortest text, runs of digits, spellings. Assumes nothing.
use Rattle.std.proofs.Common.{◌≡◌, ℕ, zero, suc, ◌+◌, ◌-◌, ◌*◌, ◌/◌, ◌%◌, ◌^◌, ◌<◌, ◌≤◌, Bool, true, false, ◌&&◌, T, leb, List, [], ◌∷◌, ◌++◌, length}
use Rattle.std.proofs.Common.{replicate, sym, refl, ap, ◌∙◌, append_assoc, append-nil, arith, le→leb, leb→le, length-append, le-ltb, lt-ltb}
use lib.ListN.{length-replicate}
use Rattle.decimal.specs.Digits.{is_digit, digits_of, after_digits, value_from, value, decimal, decimal_in, spelled}
use Rattle.decimal.proofs.Decide.{Test, passed, failed, test, T_of, T_true, and_T, and_left, and_right, Order, below, above, order}

-- ---- the equations of `decimal`
in_small : (levels n : ℕ) → n < 10 → decimal_in (suc levels) n ≡ (48 + n) ∷ []
unfolding decimal_in
in_small levels n h = rw (lt-ltb n 10 h, decimal_in)

in_large : (levels n : ℕ) → 10 ≤ n → decimal_in (suc levels) n ≡ decimal_in levels (n / 10) ++ ((48 + n % 10) ∷ [])
unfolding decimal_in
in_large levels n h = rw (le-ltb n 10 h, decimal_in)

-- enough levels are enough
levels-same : (f g n : ℕ) → n < f → n < g → decimal_in f n ≡ decimal_in g n
levels-same zero g n h k = absurd (omega arith)
levels-same (suc f) zero n h k = absurd (omega arith)
levels-same (suc f) (suc g) n h k = go (order n 10) (λ u v. levels-same f g (n / 10) u v)
  where
    go : Order n 10 → (n / 10 < f → n / 10 < g → decimal_in f (n / 10) ≡ decimal_in g (n / 10)) → decimal_in (suc f) n ≡ decimal_in (suc g) n
    go (below s) r = in_small f n s ∙ sym (in_small g n s)
    go (above s) r = in_large f n s ∙ rw (r (omega arith) (omega arith)) (sym (in_large g n s))

pub decimal-small : (n : ℕ) → n < 10 → decimal n ≡ (48 + n) ∷ []
unfolding decimal
decimal-small n h = in_small n n h

pub decimal-large : (n : ℕ) → 10 ≤ n → decimal n ≡ decimal (n / 10) ++ ((48 + n % 10) ∷ [])
unfolding decimal
decimal-large n h = in_large n n h ∙ rw (levels-same n (suc (n / 10)) (n / 10) (omega arith) (omega arith))

-- induction on the number divided by ten
pub by-tens : (P : ℕ → Type 0) → ((n : ℕ) → n < 10 → P n) → ((n : ℕ) → 10 ≤ n → P (n / 10) → P n) → (n : ℕ) → P n
by-tens P small large n = go (suc n) n (omega arith)
  where
    go : (f m : ℕ) → m < f → P m
    go zero m h = absurd (omega arith)
    go (suc f) m h = case (order m 10) (λ u. go f (m / 10) u)
      where
        case : Order m 10 → (m / 10 < f → P (m / 10)) → P m
        case (below s) r = small m s
        case (above s) r = large m s (r (omega arith))

-- ---- runs of digits
abbrev pub are_digits : List ℕ → Bool
are_digits [] = true
are_digits (b ∷ s) = is_digit b && are_digits s

pub digit-of : (b : ℕ) → 48 ≤ b → b ≤ 57 → T (is_digit b)
digit-of b h k = and_T (leb 48 b) (leb b 57) (le→leb 48 b h) (le→leb b 57 k)

pub digit_low : (b : ℕ) → T (is_digit b) → 48 ≤ b
digit_low b t = leb→le 48 b (and_left (leb 48 b) (leb b 57) t)

pub digit_high : (b : ℕ) → T (is_digit b) → b ≤ 57
digit_high b t = leb→le b 57 (and_right (leb 48 b) (leb b 57) t)

digits_append : (xs ys : List ℕ) → T (are_digits xs) → T (are_digits ys) → T (are_digits (xs ++ ys))
digits_append [] ys p q = q
digits_append (x ∷ xs) ys p q = and_T (is_digit x) (are_digits (xs ++ ys)) (and_left (is_digit x) (are_digits xs) p)
    (digits_append xs ys (and_right (is_digit x) (are_digits xs) p) q)

-- a run is made of digits, and a text is its run and what follows
pub digits_are : (s : List ℕ) → T (are_digits (digits_of s))
digits_are [] = tt
digits_are (b ∷ s) = go (test (is_digit b)) (digits_are s)
  where
    go : Test (is_digit b) → T (are_digits (digits_of s)) → T (are_digits (digits_of (b ∷ s)))
    go (passed t) r = rw (t, digits_of) (and_T (is_digit b) (are_digits (digits_of s)) (T_of t) r)
    go (failed t) r = rw (t, digits_of) tt

pub digits-split : (s : List ℕ) → s ≡ digits_of s ++ after_digits s
digits-split [] = refl
digits-split (b ∷ s) = go (test (is_digit b)) (digits-split s)
  where
    go : Test (is_digit b) → s ≡ digits_of s ++ after_digits s → b ∷ s ≡ digits_of (b ∷ s) ++ after_digits (b ∷ s)
    go (passed t) r = rw (t, digits_of, after_digits) (ap {B = List ℕ} (λ x. b ∷ x) r)
    go (failed t) r = rw (t, digits_of, after_digits)

-- digits and then another byte: the run is those digits
pub digits-before : (ds : List ℕ) (c : ℕ) (r : List ℕ) → T (are_digits ds) → is_digit c ≡ false → digits_of (ds ++ (c ∷ r)) ≡ ds
digits-before [] c r t n = rw (n, digits_of)
digits-before (d ∷ ds) c r t n = rw (
  T_true (is_digit d) (and_left (is_digit d) (are_digits ds) t),
  digits_of,
  digits-before ds c r (and_right (is_digit d) (are_digits ds) t) n,
)

pub after-before : (ds : List ℕ) (c : ℕ) (r : List ℕ) → T (are_digits ds) → is_digit c ≡ false → after_digits (ds ++ (c ∷ r)) ≡ c ∷ r
after-before [] c r t n = rw (n, after_digits)
after-before (d ∷ ds) c r t n = rw (
  T_true (is_digit d) (and_left (is_digit d) (are_digits ds) t),
  after_digits,
  after-before ds c r (and_right (is_digit d) (are_digits ds) t) n,
)

-- ---- the shortest text
value-append : (a : ℕ) (xs ys : List ℕ) → value_from a (xs ++ ys) ≡ value_from (value_from a xs) ys
value-append a [] ys = refl
value-append a (x ∷ xs) ys = value-append (a * 10 + (x - 48)) xs ys

-- THE SHORTEST TEXT MEANS ITS NUMBER
pub value-decimal : (n : ℕ) → value (decimal n) ≡ n
value-decimal = by-tens (λ n. value (decimal n) ≡ n)
    (λ n h. rw (decimal-small n h) (omega arith))
    (λ n h ih. rw (decimal-large n h, value-append 0 (decimal (n / 10)), ih) (omega arith))

decimal-digits : (n : ℕ) → T (are_digits (decimal n))
decimal-digits = by-tens (λ n. T (are_digits (decimal n)))
    (λ n h. rw (decimal-small n h) (and_T (is_digit (48 + n)) true (digit-of (48 + n) (omega arith) (omega arith)) tt))
    (λ n h ih. rw (decimal-large n h)
    (digits_append (decimal (n / 10)) ((48 + n % 10) ∷ []) ih
    (and_T (is_digit (48 + n % 10)) true (digit-of (48 + n % 10) (omega arith) (omega arith)) tt)))

pub decimal-some : (n : ℕ) → 0 < length (decimal n)
decimal-some = by-tens (λ n. 0 < length (decimal n))
    (λ n h. rw (decimal-small n h) (omega arith))
    (λ n h ih. rw (decimal-large n h) (simp length-append (omega arith)))

abbrev pub head_byte : List ℕ → ℕ
head_byte [] = 0
head_byte (b ∷ s) = b

first-append : (xs ys : List ℕ) → 0 < length xs → head_byte (xs ++ ys) ≡ head_byte xs
first-append [] ys h = absurd (omega arith)
first-append (x ∷ xs) ys h = refl

-- NO LEADING ZERO, but for zero itself
pub no_leading_zero : (n : ℕ) → 0 < n → 48 < head_byte (decimal n)
no_leading_zero = by-tens (λ n. 0 < n → 48 < head_byte (decimal n))
    (λ n h p. rw (decimal-small n h) (omega arith))
    (λ n h ih p. rw (decimal-large n h, first-append (decimal (n / 10)) _ (decimal-some (n / 10))) (ih (omega arith)))

-- ITS LENGTH: a number below 10 ^ k, k at least 1, has at most k digits
pub decimal-length : (k n : ℕ) → n < 10 ^ suc k → length (decimal n) ≤ suc k
decimal-length zero n h = rw (decimal-small n (omega arith)) (omega arith)
decimal-length (suc k) n h = go (order n 10) (λ u. decimal-length k (n / 10) u)
  where
    go : Order n 10 → (n / 10 < 10 ^ suc k → length (decimal (n / 10)) ≤ suc k) → length (decimal n) ≤ suc (suc k)
    go (below s) r = rw (decimal-small n s) (omega arith)
    go (above s) r = let q = r (omega arith) in rw (decimal-large n s) (simp length-append (omega arith))

-- ---- spellings
one_digit_more : (a b : ℕ) → 0 < a → 48 ≤ b → b ≤ 57 → decimal (a * 10 + (b - 48)) ≡ decimal a ++ (b ∷ [])
one_digit_more a b p l h =
    let n : ℕ = a * 10 + (b - 48) in
    let q : n / 10 ≡ a = omega arith in
    let m : 48 + n % 10 ≡ b = omega arith in
    decimal-large n (omega arith) ∙ rw (q, m)

one-digit : (b : ℕ) → 48 ≤ b → b ≤ 57 → decimal (0 * 10 + (b - 48)) ≡ b ∷ []
one-digit b l h =
    let v : 0 * 10 + (b - 48) ≡ b - 48 = omega arith in
    let w : 48 + (b - 48) ≡ b = omega (arith, l) in
    rw (v, decimal-small (b - 48) (omega (arith, h)), w)

zeros_zero : (z : ℕ) (ys : List ℕ) → replicate z 48 ++ (48 ∷ ys) ≡ replicate (suc z) 48 ++ ys
zeros_zero zero ys = refl
zeros_zero (suc z) ys = ap {B = List ℕ} (λ l. 48 ∷ l) (zeros_zero z ys)

-- behind `p`, which spells a
spelling-from : (bs p : List ℕ) (a z : ℕ) → p ≡ spelled z a → T (are_digits bs) → (z' : ℕ) × (p ++ bs ≡ spelled z' (value_from a bs))
spelling-from [] p a z e t = (z, append-nil p ∙ e)
spelling-from (b ∷ bs) p a z e t =
    go (order 0 a) (λ z' e'. spelling-from bs (p ++ (b ∷ [])) (a * 10 + (b - 48)) z' e' (and_right (is_digit b) (are_digits bs) t))
  where
    l : 48 ≤ b
    l = digit_low b (and_left (is_digit b) (are_digits bs) t)

    h : b ≤ 57
    h = digit_high b (and_left (is_digit b) (are_digits bs) t)

    Goal : List ℕ → Type 0
    Goal w = (z' : ℕ) × (w ≡ spelled z' (value_from (a * 10 + (b - 48)) bs))

    go : Order 0 a → ((z' : ℕ) → p ++ (b ∷ []) ≡ spelled z' (a * 10 + (b - 48)) → Goal ((p ++ (b ∷ [])) ++ bs)) → Goal (p ++ (b ∷ bs))
    go (below s) r =
        let q : Goal ((p ++ (b ∷ [])) ++ bs) = r z (rw (e, one_digit_more a b s l h) (append_assoc (replicate z 48) (decimal a) (b ∷ []))) in
        (q.0, sym (append_assoc p (b ∷ []) bs) ∙ q.1)
    go (above s) r =
        let a0 : a ≡ 0 = omega arith in
        let d0 : decimal a ≡ 48 ∷ [] = rw a0 (decimal-small 0 (omega arith)) in
        let q : Goal ((p ++ (b ∷ [])) ++ bs) = r (suc z)
        (rw (e, d0, a0, one-digit b l h) (append_assoc (replicate z 48) (48 ∷ []) (b ∷ []) ∙ zeros_zero z (b ∷ []))) in
        (q.0, sym (append_assoc p (b ∷ []) bs) ∙ q.1)

-- EVERY RUN IS ZEROS AND THE SHORTEST TEXT OF ITS VALUE
pub spelling : (bs : List ℕ) → 0 < length bs → T (are_digits bs) → (zeros : ℕ) × (bs ≡ spelled zeros (value bs))
spelling [] h t = absurd (omega arith)
spelling (b ∷ bs) h t = spelling-from bs (b ∷ []) (0 * 10 + (b - 48)) 0
    (sym (one-digit b (digit_low b (and_left (is_digit b) (are_digits bs) t)) (digit_high b (and_left (is_digit b) (are_digits bs) t))))
    (and_right (is_digit b) (are_digits bs) t)

zeros-value : (z : ℕ) (bs : List ℕ) → value (replicate z 48 ++ bs) ≡ value bs
zeros-value zero bs = refl
zeros-value (suc z) bs = zeros-value z bs

pub value-spelled : (z n : ℕ) → value (spelled z n) ≡ n
value-spelled z n = zeros-value z (decimal n) ∙ value-decimal n

zeros-digits : (z : ℕ) → T (are_digits (replicate z 48))
zeros-digits zero = tt
zeros-digits (suc z) = zeros-digits z

pub spelled-digits : (z n : ℕ) → T (are_digits (spelled z n))
spelled-digits z n = digits_append (replicate z 48) (decimal n) (zeros-digits z) (decimal-digits n)

pub spelled-length : (z n : ℕ) → length (spelled z n) ≡ z + length (decimal n)
spelled-length z n = simp (length-append, length-replicate)

pub spelled-some : (z n : ℕ) → 0 < length (spelled z n)
spelled-some z n = omega (arith, spelled-length z n, decimal-some n)

-- so no run of the same value is shorter
pub no_shorter : (bs : List ℕ) → 0 < length bs → T (are_digits bs) → length (decimal (value bs)) ≤ length bs
no_shorter bs h t =
    let s = spelling bs h t in
    omega (arith, ap length s.1, spelled-length s.0 (value bs))
