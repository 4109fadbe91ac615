-- Laws of the texts of digits. Assumes nothing.
use Prim.Native.Nat.{ℕ, suc, zero, ◌+◌, ◌-◌, ◌≤◌, ◌<◌}
use native.Mathlib.Omega.{arith}
use mathlib.Core.Path.{◌≡◌, refl, sym, ap, ap₂, ◌∙◌, subst}
use mathlib.Core.Logic.{⊎_elim}
use mathlib.Core.Bool.{Bool, true, false, ◌&&◌}
use mathlib.Core.List.{List, [], ◌++◌}
use lib.Dec.{eqb, ltb, lit<, ltb→lt}
use lib.ListN.{length, drop, length-drop, length-append}
use borrow.Author.Tests.{le-leb, lt-leb, lt-ltb, le-ltb}
use Rattle.decimal.specs.Digits.{digits_of, after_digits, value, decimal}
use Rattle.decimal.specs.Complement.{pattern}
use Rattle.decimal.specs.Promise.{RunAt}
use Rattle.decimal.specs.declared.Run.{Run}
use Rattle.decimal.proofs.Numerals.{digits-split}
use Rattle.decimal.proofs.Numerals as numerals
use Rattle.std.specs.Prelude.{Ok, Err, is_ok, IsErrAnd}
use Rattle.std.proofs.lemmas.Result.{err_from_is_err_and}
use Rattle.format.specs.declared.codes.Code.{Code}
use Rattle.format.specs.Codes.{number_of}
use Rattle.format.specs.Bytes.{byte, bytes}
use Rattle.format.specs.Syntax.{Sign, unsigned, plus, minus, Literal, Spelling, write_number}
use Rattle.format.specs.Keys.{integer}
use Rattle.format.specs.Limits.{number_limit, integer_limit, sign_of}
use Rattle.format.specs.Answer.{Answer, ok, refused, ◌>>=◌, require}
use Rattle.format.specs.Read.{expect, digits, plus_of, number, int_text, Reader, count_text, named_text}
use Rattle.format.specs.Table.{word}
use Rattle.format.proofs.Answers.{ok_same, refused-same, not_both, bind_ok, bind-refused, require-ok}
use Rattle.format.proofs.Texts.{number_ok}
use Rattle.format.proofs.Fronts.{number-front}
use Rattle.format.proofs.Printed.{plus-digits, sign-digits}
use Rattle.scanner.specs.declared.Text.{Text}
use Rattle.scanner.specs.declared.number.Front.{Front}
use Rattle.scanner.specs.Scans.{Scan, Told, scan_answer, text_answer, Found, Scans, Answers, tell, value_told, literal_told}
use Rattle.scanner.specs.Scans.{Scan, count_told}
use Rattle.scanner.specs.Parts.{digits_text, signed_text, signed_told, is_minus, FrontIs}
use Rattle.bytes_at.specs.ByteAt.{byte_at}
use Rattle.bytes_at.proofs.BytesAt.{byte-there, expect_yes, expect-no, pair-there, pair_yes, pair-no}
use Rattle.bytes_at.proofs.Signs.{SignAt}
use Rattle.bytes_at.proofs.Runs.{run_rest, run_short}

-- ---- answers

module _ {A : Type 0} {read : Reader A} {told : Told A} {s : List ℕ} {at : ℕ} where
  pub scans-is : (t : Text) → Found read told s at t → Scans read told s at (Ok t)
  scans-is t f = record { found = λ l u e. subst (Found read told s at) (ok_same e) f; unfit = λ l c e. absurd (not_both (sym e)) }

  pub scans_not : (c : Code) → ((l : ℕ) → read l (drop at s) ≡ refused (number_of c) l) → Scans read told s at (Err c)
  scans_not c f = record { found = λ l t e. absurd (not_both e); unfit = λ l d e. f l ∙ ap (λ (n : ℕ). refused n l) (refused-same e).0 }

  -- which of the two it is, where the code knows
  pub found_of : {r : Scan} {t : Text} → Scans read told s at r → r ≡ Ok t → Found read told s at t
  found_of {t = t} h e = h.found 0 t (ap (scan_answer 0) e)

  pub unfit-of : {r : Scan} {c : Code} → Scans read told s at r → r ≡ Err c → (l : ℕ) → read l (drop at s) ≡ refused (number_of c) l
  unfit-of {c = c} h e l = h.unfit l (number_of c) (ap (scan_answer l) e)

  -- what a `?` hands on
  pub exits : {r : Scan} {c d : Code} → IsErrAnd r (λ e. e ≡ c) → c ≡ d → Scans read told s at (Err d) → Scans read told s at r
  exits {r} h e k = let exit = err_from_is_err_and r h in subst (Scans read told s at) (sym (exit.1 ∙ ap Err (exit.2 ∙ e))) k

  -- what is read determines the answer
  pub answered : {r : Scan} → Scans read told s at r → Answers read told s at r
  unfolding text_answer
  answered {r = Ok t} h = record { answer = λ l. rw (f.is l) (ap ok (f.tells ∙ ap (told f.what) (ends f.inside))); scans = h }
    where
      f : Found read told s at t
      f = h.found 0 t refl

      ends : t.next ≤ length s → t.next ≡ length s - length (drop t.next s)
      ends h = omega (arith, length-drop t.next s)
  answered {r = Err c} h = record { answer = λ l. rw (h.unfit l (number_of c) refl); scans = h }

-- a text whose part is unfit is unfit as its part is
pub unfit-part : {A B : Type 0} {read : Reader A} {told : Told A} {whole : Reader B} {tells : Told B} {s : List ℕ} {at from : ℕ} {c : Code}
    {r : Scan} → Scans read told s from r → r ≡ Err c
    → ((l : ℕ) → read l (drop from s) ≡ refused (number_of c) l → whole l (drop at s) ≡ refused (number_of c) l) → Scans whole tells s at (Err c)
unfit-part {whole = whole} {tells} {s} {at} {c = c} h e f = scans_not c (λ l. f l (unfit-of h e l))

-- what was read, and what is left
abbrev pub kept : {A : Type 0} → A → List ℕ → Answer (A × List ℕ)
kept a s = ok (a, s)

-- a text that is made of a part of it answers as the part does
pub scans-part : {A B : Type 0} {read : Reader A} {told : Told A} {whole : Reader B} {tells : Told B} {s : List ℕ} {at from : ℕ} {r : Scan}
    → Scans read told s from r → at ≤ from → (f : A → B) → ((l : ℕ) → whole l (drop at s) ≡ (read l (drop from s) >>= λ q. kept (f q.0) q.1))
    → ((x : A) (next : ℕ) → told x next ≡ tells (f x) next) → Scans whole tells s at r
scans-part h k f e g =
    record {
      found = λ l t q.
          let x = h.found l t q in
          record {
            what = f x.what;
            is = λ l. e l ∙ rw (x.is l);
            tells = x.tells ∙ g x.what t.next;
            on = omega (arith, x.on);
            inside = x.inside;
          };
      unfit = λ l c q. e l ∙ rw (h.unfit l c q);
    }

-- one that reads as its part does
pub scans-from : {A : Type 0} {read same : Reader A} {told : Told A} {s : List ℕ} {at from : ℕ} {r : Scan} → Scans read told s from r
    → at ≤ from → ((l : ℕ) → same l (drop at s) ≡ read l (drop from s)) → Scans same told s at r
scans-from {A} {read} {s = s} {from = from} h k e = scans-part h k (λ x. x) (λ l. e l ∙ whole (read l (drop from s))) (λ x next. refl)
  where
    whole : (a : Answer (A × List ℕ)) → a ≡ (a >>= λ q. kept q.0 q.1)
    whole (ok q) = refl
    whole (refused c l) = refl

-- the same from one index on
pub scans-map : {A B : Type 0} {read : Reader A} {told : Told A} {whole : Reader B} {tells : Told B} {s : List ℕ} {at : ℕ} {r : Scan} (f : A → B)
    → ((l : ℕ) (s : List ℕ) → whole l s ≡ (read l s >>= λ q. ok (f q.0, q.1))) → ((x : A) (next : ℕ) → told x next ≡ tells (f x) next)
    → Scans read told s at r → Scans whole tells s at r
scans-map {s = s} {at} f e g h = scans-part h (omega arith) f (λ l. e l (drop at s)) g

pub scans-same : {A : Type 0} {read same : Reader A} {told : Told A} {s : List ℕ} {at : ℕ} {r : Scan} → ((l : ℕ) (s : List ℕ) → same l s ≡ read l s)
    → Scans read told s at r → Scans same told s at r
scans-same {s = s} {at} e h = scans-from h (omega arith) (λ l. e l (drop at s))

-- and the other way round, where what is made tells what it was made of
pub scans-back : {A B : Type 0} {read : Reader A} {told : Told A} {whole : Reader B} {tells : Told B} {s : List ℕ} {at : ℕ} {r : Scan} (f : A → B)
    → ((x y : A) → f x ≡ f y → x ≡ y)
    → ((l : ℕ) (s : List ℕ) → whole l s ≡ (read l s >>= λ q. ok (f q.0, q.1))) → ((x : A) (next : ℕ) → told x next ≡ tells (f x) next)
    → Scans whole tells s at r → Scans read told s at r
scans-back {A} {B} {read} {told} {whole} {tells} {s} {at} f one e g h =
    record {
      found = λ l t q. back t (h.found l t q);
      unfit = λ l c q. ⊎_elim (λ r. r) (λ q. absurd (not_both (sym q.2)))
          (bind-refused (read l (drop at s)) (λ q. ok (f q.0, q.1)) c l (sym (e l (drop at s)) ∙ h.unfit l c q));
    }
  where
    back : (t : Text) → Found whole tells s at t → Found read told s at t
    back t h = record {
      what = x;
      is = λ l. (part l).1 ∙ ap₂ (λ (a : A) (u : List ℕ). ok (a, u)) (one (part l).0.0 x (same l ∙ sym (same 0)))
          (ap (λ (p : B × List ℕ). p.1) (ok_same (part l).2));
      tells = h.tells ∙ ap (λ (b : B). tells b t.next) (sym (same 0)) ∙ sym (g x t.next);
      on = h.on;
      inside = h.inside;
    }
      where
        part : (l : ℕ) → (q : A × List ℕ) × (read l (drop at s) ≡ ok q) × (◌≡◌ {A = Answer (B × List ℕ)} (ok (f q.0, q.1)) (ok (h.what, drop t.next s)))
        part l = bind_ok (read l (drop at s)) (λ q. ok (f q.0, q.1)) (h.what, drop t.next s) (sym (e l (drop at s)) ∙ h.is l)

        same : (l : ℕ) → f (part l).0.0 ≡ h.what
        same l = ap (λ (p : B × List ℕ). p.0) (ok_same (part l).2)

        x : A
        x = (part 0).0.0

-- what is made of a part is made after it
after-part : {A B : Type 0} (a : Answer (A × List ℕ)) (e : List ℕ → Answer (List ℕ)) (f : A → B)
    → (a >>= λ q. e q.1 >>= λ s. kept (f q.0) s) ≡ ((a >>= λ q. e q.1 >>= λ s. kept q.0 s) >>= λ q. kept (f q.0) q.1)
after-part (refused c p) e f = refl
after-part {A} {B} (ok q) e f = go (e q.1)
  where
    go : (b : Answer (List ℕ)) → (b >>= λ s. kept (f q.0) s) ≡ ((b >>= λ s. kept q.0 s) >>= λ q. kept (f q.0) q.1)
    go (refused c p) = refl
    go (ok s) = refl

-- ---- runs of digits

module _ (s : List ℕ) (at top : ℕ) (r : Run) (h : RunAt s at (top + 1) r) where
  pub digits-none : r.next ≡ at → Scans (digits_text top) value_told s at (Err Code.TextUnfit)
  unfolding digits
  digits-none e = scans_not Code.TextUnfit (λ l. rw (digits, le-ltb 0 (length (digits_of (drop at s))) (omega (arith, h.next))))

  module _ (n : r.next ≡ at → ⊥) where
    some : 0 < length (digits_of (drop at s))
    some = omega (arith, h.next, n)

    pub digits-over : top < r.value → Scans (digits_text top) value_told s at (Err Code.OutOfRange)
    unfolding digits
    digits-over g =
        scans_not Code.OutOfRange (λ l. rw (digits, lt-ltb 0 (length (digits_of (drop at s))) some, lt-leb (value (digits_of (drop at s))) top (omega (arith, h.value))))

    pub digits_are : r.value ≤ top → Scans (digits_text top) value_told s at (Ok (tell r.value 0 0 r.next))
    unfolding digits
    digits_are g =
        let q : value (digits_of (drop at s)) ≡ r.value = omega (arith, h.value) in
        scans-is (tell r.value 0 0 r.next) record {
          what = (length (digits_of (drop at s)) - length (decimal r.value), r.value);
          is = λ l. rw (digits, lt-ltb 0 (length (digits_of (drop at s))) some, q, le-leb r.value top g, run_rest s at (top + 1) r h);
          tells = refl;
          on = omega (arith, h.next, some);
          inside = omega (arith, run_short s at (top + 1) r h, h.next, some);
        }

-- ---- signs

-- what begins with digits has no sign, and no plus
pub digits_unsigned : (t : List ℕ) → 0 < length (digits_of t) → sign_of t ≡ (unsigned, t)
digits_unsigned t h =
    subst (λ (x : List ℕ). sign_of x ≡ (unsigned, x)) (sym (digits-split t)) (sign-digits (digits_of t) (after_digits t) h (numerals.digits_are t))

digits-plusless : (t : List ℕ) → 0 < length (digits_of t) → plus_of t ≡ (false, t)
digits-plusless t h = subst (λ (x : List ℕ). plus_of x ≡ (false, x)) (sym (digits-split t)) (plus-digits (digits_of t) (after_digits t) h (numerals.digits_are t))

-- digits that are read are there
read-digits : (l top : ℕ) (t : List ℕ) (q : (ℕ × ℕ) × List ℕ) → digits l top t ≡ ok q → 0 < length (digits_of t)
unfolding digits
read-digits l top t q e =
    let a = bind_ok (require (ltb 0 (length (digits_of t))) 2 l) _ q e in
    ltb→lt 0 (length (digits_of t)) (require-ok (ltb 0 (length (digits_of t))) 2 l a.0 a.1)

-- ---- integers

module _ (s : List ℕ) (at : ℕ) (negative : Bool) (top : ℕ) (run : Text) (n : Found (digits_text top) value_told s at run) where
  pub magnitude_open : eqb (byte_at s run.next) (byte ";") ≡ false → Scans (signed_text top) (signed_told negative) s at (Err Code.TextUnfit)
  unfolding signed_text
  magnitude_open e = scans_not Code.TextUnfit (λ l. rw (signed_text, n.is l, expect-no l s run.next (byte ";") [] e))

  pub magnitude-is : (w : ℕ) → w ≡ pattern 64 negative run.content → eqb (byte_at s run.next) (byte ";") ≡ true
      → Scans (signed_text top) (signed_told negative) s at (Ok (tell w 0 0 (run.next + 1)))
  unfolding signed_text
  magnitude-is w h e =
      let k : run.next < length s = byte-there s run.next (byte ";") (lit< tt) e in
      scans-is (tell w 0 0 (run.next + 1)) record {
        what = n.what;
        is = λ l. rw (signed_text, n.is l, expect_yes l s run.next (byte ";") [] (lit< tt) e);
        tells = ap (λ (x : ℕ). tell x 0 0 (run.next + 1)) (h ∙ ap (λ (u : Text). pattern 64 negative u.content) n.tells);
        on = omega (arith, n.on);
        inside = omega arith;
      }

pub magnitude_not : {s : List ℕ} {at : ℕ} {c : Code} {r : Scan} (negative : Bool) (top : ℕ) → Scans (digits_text top) value_told s at r → r ≡ Err c
    → Scans (signed_text top) (signed_told negative) s at (Err c)
unfolding signed_text
magnitude_not negative top h e = unfit-part h e (λ l q. rw (signed_text, q))

pub limit_low : (g : Sign) → integer_limit g < 18446744073709551615
limit_low unsigned = lit< tt
limit_low plus = lit< tt
limit_low minus = lit< tt

-- the sign that a scan finds
pub front-is : (s : List ℕ) (at : ℕ) (g : Sign) (r : Front) → SignAt s at g r.from → r.negative ≡ is_minus g → r.top ≡ integer_limit g → FrontIs s at r
front-is s at g r h n t = record { sign = g; is = h.is; on = h.on; negative = n; top = t }

abbrev literal : Sign → ℕ × ℕ → Literal
literal g n = record { sign = g; zeros = n.0; magnitude = n.1 }

sign_word : (g : Sign) (z n : ℕ) → pattern 64 (is_minus g) n ≡ word (integer (literal g (z, n)))
sign_word unsigned z n = refl
sign_word plus z n = refl
sign_word minus z zero = refl
sign_word minus z (suc n) = refl

module _ (s : List ℕ) (at : ℕ) where
  pub int_open : eqb (byte_at s at) (byte ":") ≡ false → Scans int_text literal_told s at (Err Code.TextUnfit)
  unfolding int_text
  int_open e = scans_not Code.TextUnfit (λ l. rw (int_text, expect-no l s at (byte ":") [] e))

  module _ (colon : eqb (byte_at s at) (byte ":") ≡ true) (g : Sign) (from : ℕ) (sg : SignAt s (at + 1) g from) where
    opened : (l : ℕ) → int_text l (drop at s) ≡ (signed_text (integer_limit g) l (drop from s) >>= λ q. kept (literal g q.0) q.1)
    unfolding int_text signed_text
    opened l = rw (
      int_text,
      expect_yes l s at (byte ":") [] (lit< tt) colon,
      sg.is,
    ) (after-part (digits l (integer_limit g) (drop from s)) (expect l (bytes ";")) (literal g))

    pub int_is : (r : Scan) → Scans (signed_text (integer_limit g)) (signed_told (is_minus g)) s from r → Scans int_text literal_told s at r
    int_is r h = scans-part h (omega (arith, sg.on)) (literal g) opened (λ x next. ap (λ (w : ℕ). tell w 0 0 next) (sign_word g x.0 x.1))

  pub int-front : eqb (byte_at s at) (byte ":") ≡ true → (f : Front) (h : FrontIs s (at + 1) f) (r : Scan)
      → Scans (signed_text f.top) (signed_told f.negative) s f.from r → Scans int_text literal_told s at r
  int-front colon f h r e = int_is colon h.sign f.from (record { is = h.is; on = h.on }) r
      (subst (λ (n : Bool). Scans (signed_text (integer_limit h.sign)) (signed_told n) s f.from r) h.negative
      (subst (λ (t : ℕ). Scans (signed_text t) (signed_told f.negative) s f.from r) h.top e))

-- ---- numbers

-- digits that are a number, and how it is spelled
abbrev spelled_so : Bool → ℕ × ℕ → Spelling × ℕ
spelled_so p n = (record { plus = p; zeros = n.0 }, n.1)

-- behind its plus, if there is one
number_is : {s : List ℕ} {at from : ℕ} {p : Bool} {r : Scan} → at ≤ from → plus_of (drop at s) ≡ (p, drop from s)
    → Scans (digits_text number_limit) value_told s from r → Scans number value_told s at r
unfolding number
number_is {p = p} k e h = scans-part h k (spelled_so p) (λ l. rw (number, e)) (λ n next. refl)

-- where its digits are looked for
pub data DigitsFrom (s : List ℕ) (at from : ℕ) : Type 0 where
  here : from ≡ at → DigitsFrom s at from
  behind : from ≡ at + 1 → plus_of (drop at s) ≡ (true, drop from s) → DigitsFrom s at from

pub number_behind : {s : List ℕ} {at from : ℕ} {r : Scan} → DigitsFrom s at from → (from ≡ at → ⊥) → Scans (digits_text number_limit) value_told s from r
    → Scans number value_told s at r
number_behind (here e) n h = absurd (n e)
number_behind (behind e p) n h = number_is (omega (arith, e)) p h

pub number-here : {s : List ℕ} {at from : ℕ} {r : Scan} → from ≡ at → plus_of (drop at s) ≡ (false, drop at s)
    → Scans (digits_text number_limit) value_told s from r → Scans number value_told s at r
number-here {s} e p h = number_is (omega (arith, e)) (p ∙ ap (λ (k : ℕ). (false, drop k s)) (sym e)) h

-- digits that are found are the number's
pub number-found : {s : List ℕ} {at from : ℕ} {r : Scan} → DigitsFrom s at from → Scans (digits_text number_limit) value_told s from r → is_ok r ≡ true
    → Scans number value_told s at r
number-found {s} {at} {from} {r = Ok t} (here e) h found =
    let none = digits-plusless (drop from s) (read-digits 0 number_limit (drop from s) _ ((found_of h refl).is 0)) in
    number-here e (subst (λ (k : ℕ). plus_of (drop k s) ≡ (false, drop k s)) e none) h
number-found {r = Ok t} (behind e p) h found = number_is (omega (arith, e)) p h
number-found {r = Err c} d h found = absurd (cc found)

-- a number ends where its text does
pub number-ends : (s : List ℕ) (at : ℕ) (t : Text) (n : Found number value_told s at t) → t.next ≡ at + length (write_number n.what.0 n.what.1 [])
number-ends s at t n =
    let text : List ℕ = write_number n.what.0 n.what.1 [] in
    let rest : List ℕ = drop t.next s in
    let split : drop at s ≡ text ++ rest = (number_ok 0 (drop at s) (n.what, rest) (n.is 0)).text ∙ number-front n.what.0 n.what.1 [] rest in
    omega (arith, ap length split, length-append text rest, length-drop at s, length-drop t.next s, n.on, n.inside)

-- ---- counts and ordinals named

pub count_not : {s : List ℕ} {at : ℕ} {c : Code} {r : Scan} → Scans number value_told s at r → r ≡ Err c → Scans count_text count_told s at (Err c)
unfolding count_text
count_not h e = unfit-part h e (λ l q. rw (count_text, q))

module _ (s : List ℕ) (at : ℕ) (run : Text) (n : Found number value_told s at run) where
  pub count_open : (eqb (byte_at s run.next) (byte ":") && eqb (byte_at s (run.next + 1)) (byte "{")) ≡ false → Scans count_text count_told s at (Err Code.TextUnfit)
  unfolding count_text
  count_open e = scans_not Code.TextUnfit (λ l. rw (count_text, n.is l, pair-no s run.next (byte ":") (byte "{") l [] (lit< tt) e))

  pub count-is : (eqb (byte_at s run.next) (byte ":") && eqb (byte_at s (run.next + 1)) (byte "{")) ≡ true
      → Scans count_text count_told s at (Ok (tell 0 0 run.content (run.next + 2)))
  unfolding count_text
  count-is e =
      let k : run.next + 1 < length s = pair-there s run.next (byte ":") (byte "{") e (lit< tt) in
      scans-is (tell 0 0 run.content (run.next + 2)) record {
        what = n.what;
        is = λ l. rw (count_text, n.is l, pair_yes s run.next (byte ":") (byte "{") e l [] (lit< tt) (lit< tt));
        tells = ap (λ (u : Text). tell 0 0 u.content (run.next + 2)) n.tells;
        on = omega (arith, n.on);
        inside = omega arith;
      }

module _ (s : List ℕ) (at : ℕ) where
  pub named_colon : eqb (byte_at s at) (byte ":") ≡ false → Scans named_text value_told s at (Err Code.TextUnfit)
  unfolding named_text
  named_colon e = scans_not Code.TextUnfit (λ l. rw (named_text, expect-no l s at (byte ":") [] e))

  module _ (colon : eqb (byte_at s at) (byte ":") ≡ true) where
    pub named_not : (r : Scan) (c : Code) → Scans number value_told s (at + 1) r → r ≡ Err c → Scans named_text value_told s at (Err c)
    unfolding named_text
    named_not r c h e = unfit-part h e (λ l q. rw (named_text, expect_yes l s at (byte ":") [] (lit< tt) colon, q))

    module _ (run : Text) (n : Found number value_told s (at + 1) run) where
      pub named_open : eqb (byte_at s run.next) (byte ";") ≡ false → Scans named_text value_told s at (Err Code.TextUnfit)
      unfolding named_text
      named_open e = scans_not Code.TextUnfit
          (λ l. rw (named_text, expect_yes l s at (byte ":") [] (lit< tt) colon, n.is l, expect-no l s run.next (byte ";") [] e))

      pub named-is : eqb (byte_at s run.next) (byte ";") ≡ true → Scans named_text value_told s at (Ok (tell run.content 0 0 (run.next + 1)))
      unfolding named_text
      named-is e =
          let k : run.next < length s = byte-there s run.next (byte ";") (lit< tt) e in
          scans-is (tell run.content 0 0 (run.next + 1)) record {
            what = n.what;
            is = λ l. rw (
              named_text,
              expect_yes l s at (byte ":") [] (lit< tt) colon,
              n.is l,
              expect_yes l s run.next (byte ";") [] (lit< tt) e,
            );
            tells = ap (λ (u : Text). tell u.content 0 0 (run.next + 1)) n.tells;
            on = omega (arith, n.on);
            inside = omega arith;
          }
