-- Laws of texts put into an output, and of the parts of a source that are copied. Assumes nothing.
use Prim.Native.Nat.{ℕ, zero, suc, ◌+◌, ◌-◌, ◌≤◌, min}
use native.Mathlib.Nat.{add-zero, zero-add, suc-add}
use native.Mathlib.Omega.{arith}
use mathlib.Core.Path.{◌≡◌, refl, sym, ap, ap₂, ◌∙◌, subst}
use mathlib.Core.List.{List, [], ◌∷◌, ◌++◌, append_assoc, append-nil}
use mathlib.Core.Bool.{Bool, true, false}
use lib.ListN.{length, take, drop, length-append, length-take, take-append-drop, drop_of_length-le}
use lib.Seq.{sets, set_out, slice, length-slice, drop-drop, take-nil, take-append_seam, drop-append_seam}
use borrow.Rule.Slice.PartMut.{put_mid}
use Rattle.std.proofs.Math.Seq.{length-sets}
use Rattle.std.proofs.lemmas.List.{take_all}
use Rattle.std.proofs.lemmas.List.Edits.{sets-eq}
use Rattle.std.proofs.lemmas.Slice.{put_mid-paste, between_is}
use Rattle.decimal.specs.Digits.{decimal}
use Rattle.decimal.specs.Promise.{SignedOf}
use Rattle.decimal.specs.declared.Signed.{Signed}
use Rattle.decimal.proofs.Decide.{Order, below, above, order}
use Rattle.decimal.proofs.Stores.{sets-append}
use Rattle.rewriting.specs.declared.output.Output.{Output}
use Rattle.rewriting.specs.Output.{with_sign, signed_digits, index_limit, Appends}

-- ---- stores

-- past the end nothing is stored
sets_out : (out : List ℕ) (i : ℕ) (t : List ℕ) → length out ≤ i → sets out i t ≡ out
sets_out out i [] h = refl
sets_out out i (x ∷ t) h = ap (λ (o : List ℕ). sets o (suc i) t) (set_out out i x h) ∙ sets_out out (suc i) t (omega (arith, h))

module _ (out t : List ℕ) (i n : ℕ) (fits : i ≤ length out) (e : n ≡ min (length t) (length out - i)) where
  abbrev front : List ℕ
  front = take n t

  long : length front ≡ n
  long = omega (arith, length-take n t)

  -- what there is no room for is lost
  cut : sets out i front ≡ sets out i t
  cut = sym (by (order (length t) (length out - i))) ∙ sets-append front (drop n t) out i (i + n) (omega (arith, long)) ∙ ap (sets out i) (take-append-drop n t)
    where
      by : Order (length t) (length out - i) → sets (sets out i front) (i + n) (drop n t) ≡ sets out i front
      by (below h) = ap (sets (sets out i front) (i + n)) (drop_of_length-le t {i = n} (omega arith))
      by (above h) = sets_out (sets out i front) (i + n) (drop n t) (omega (arith, length-sets out i front))

  pasted : {part : List ℕ} → part ≡ front → put_mid i (i + n - i) out part ≡ sets out i t
  pasted p =
      put_mid-paste i (i + n - i) out _ front n p (omega arith) (sym long)
      ∙ ap₂ (λ (a : List ℕ) (k : ℕ). take i out ++ a ++ drop (i + k) out) (take_all n front (omega (arith, long))) (sym long)
      ∙ sym (sets-eq front out i (omega (arith, long)))
      ∙ cut

-- a part of the output is written over with as much of a text as there is room for
pub stores : (out t : List ℕ) (at : ℕ) {start n : ℕ} {part : List ℕ} → start ≡ min at (length out) → n ≡ min (length t) (length out - start) → part ≡ take n t
    → put_mid start (start + n - start) out part ≡ sets out at t
stores out t at {start} {n} s e p = pasted out t start n (omega arith) e p ∙ by (order at (length out))
  where
    by : Order at (length out) → sets out start t ≡ sets out at t
    by (below h) = ap (λ (i : ℕ). sets out i t) (omega arith)
    by (above h) = sets_out out start t (omega arith) ∙ sym (sets_out out at t h)

-- ---- texts

-- a text, and then another behind it
pub appends_then : {t u : List ℕ} {a b c : Output} → Appends t a b → Appends u b c → Appends (t ++ u) a c
appends_then {t} {u} {a} {b} {c} x y = record {
  end = omega (arith, x.end, y.end, length-append t u);
  text = y.text ∙ ap (λ (l : List ℕ). sets l b.length u) x.text ∙ by (order (a.length + length t) index_limit);
  lent = y.lent ∙ x.lent;
  room = x.room;
}
  where
    by : Order (a.length + length t) index_limit → sets (sets a.bytes.now a.length t) b.length u ≡ sets a.bytes.now a.length (t ++ u)
    by (below h) = sets-append t u a.bytes.now a.length b.length (omega (arith, x.end))
    by (above h) =
        let full : length (sets a.bytes.now a.length t) ≤ index_limit = omega (arith, x.room, length-sets a.bytes.now a.length t) in
        sets_out _ b.length u (omega (arith, x.end, full)) ∙ sym (sets_out _ (a.length + length t) u (omega (arith, full)))
        ∙ sets-append t u a.bytes.now a.length (a.length + length t) refl

-- the same text
pub appends-as : {t u : List ℕ} {a b : Output} → t ≡ u → Appends u a b → Appends t a b
appends-as {a = a} {b} i p = subst (λ (l : List ℕ). Appends l a b) (sym i) p

-- whoever writes what is left will have written the whole text
pub record Owes (all : List ℕ) (o₀ : Output) (left : List ℕ) (o : Output) : Type 0 where
  pub then : {o' : Output} → Appends left o o' → Appends all o₀ o'

pub owes-all : {all left : List ℕ} {o : Output} → all ≡ left → Owes all o left o
owes-all e = record { then = λ p. appends-as e p }

module _ {all : List ℕ} {o₀ : Output} {left : List ℕ} {o : Output} (x : Owes all o₀ left o) where
  pub owes_as : {left' : List ℕ} → left ≡ left' → Owes all o₀ left' o
  owes_as e = record { then = λ p. x.then (appends-as e p) }

  pub owes-last : {t : List ℕ} → left ≡ t ++ [] → {o' : Output} → Appends t o o' → Appends all o₀ o'
  owes-last {t} e p = x.then (appends-as (e ∙ append-nil t) p)

  -- one part more
  pub owes_more : {t u : List ℕ} → left ≡ t ++ u → {o' : Output} → Appends t o o' → Owes all o₀ u o'
  owes_more e p = record { then = λ q. x.then (appends-as e (appends_then p q)) }

-- ---- parts of the source

drop-take : (f n : ℕ) (l : List ℕ) → drop f (take (f + n) l) ≡ take n (drop f l)
drop-take zero n l = rw (zero-add n)
drop-take (suc f) n [] = rw (suc-add f n) (sym (take-nil n))
drop-take (suc f) n (x ∷ l) = rw (suc-add f n) (drop-take f n l)

-- a part by the bytes around it
pub slice_of : (s : List ℕ) (at : ℕ) (a b c : List ℕ) → drop at s ≡ a ++ (b ++ c) → (from to : ℕ) → from ≡ at + length a → to ≡ from + length b
    → slice from to s ≡ b
slice_of s at a b c e from to f t =
    ap (λ (n : ℕ). slice from n s) t
    ∙ drop-take from (length b) s
    ∙ ap (take (length b)) (ap (λ (n : ℕ). drop n s) f ∙ sym (drop-drop (length a) at s) ∙ ap (drop (length a)) e ∙ drop-append_seam a (b ++ c))
    ∙ take-append_seam b c

part_and_rest : (from to : ℕ) (s : List ℕ) → from ≤ to → drop from s ≡ slice from to s ++ drop to s
part_and_rest from to s h =
    let n : ℕ = to - from in
    let e : from + n ≡ to = omega arith in
    sym (take-append-drop n (drop from s))
    ∙ ap₂ ◌++◌ (sym (drop-take from n s) ∙ ap (λ (k : ℕ). slice from k s) e) (drop-drop n from s ∙ ap (λ (k : ℕ). drop k s) e)

-- a part and the next one
pub slice_join : (a b c : ℕ) (s : List ℕ) → a ≤ b → b ≤ c → c ≤ length s → slice a b s ++ slice b c s ≡ slice a c s
slice_join a b c s h i j =
    let l : List ℕ = slice a b s ++ slice b c s in
    let e : drop a s ≡ l ++ drop c s =
    part_and_rest a b s h ∙ ap (λ (r : List ℕ). slice a b s ++ r) (part_and_rest b c s i) ∙ sym (append_assoc (slice a b s) (slice b c s) (drop c s)) in
    sym (slice_of s a [] l (drop c s) e a c (sym (add-zero a))
    (omega (arith, length-append (slice a b s) (slice b c s), length-slice a b s (omega arith), length-slice b c s j)))

-- a part as a slice of the source
pub appends_part : (s : List ℕ) (from to : ℕ) {a b : Output} → Appends (take (to - from) (drop from s)) a b → Appends (slice from to s) a b
appends_part s from to p = appends-as (sym (between_is s from to)) p

-- ---- integers

module _ {word : ℕ} {x : Signed} (h : SignedOf 64 word x) where
  digits_are : {n : Bool} → x.negative ≡ n → signed_digits word ≡ with_sign n (decimal x.magnitude)
  unfolding signed_digits
  digits_are e = sym (ap₂ (λ (n : Bool) (m : ℕ). with_sign n (decimal m)) (sym e ∙ h.negative) h.magnitude)

  module _ {a b c : Output} where
    pub appends_positive : x.negative ≡ false → b ≡ a → Appends (decimal x.magnitude) b c → Appends (signed_digits word) a c
    appends_positive e i p = appends-as (digits_are e) (subst (λ (o : Output). Appends (decimal x.magnitude) o c) i p)

    pub appends-negative : x.negative ≡ true → {d : Output} → b ≡ d → Appends (45 ∷ []) a d → Appends (decimal x.magnitude) b c
        → Appends (signed_digits word) a c
    appends-negative e i m p = appends-as (digits_are e) (appends_then m (subst (λ (o : Output). Appends (decimal x.magnitude) o c) i p))
