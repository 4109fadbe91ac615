-- Reading what was printed gives back the syntax that was printed. Assumes nothing.
use mathlib.Core.Path.{◌≡◌, refl}
use mathlib.Core.List.{List, [], ◌∷◌, ◌++◌}
use mathlib.Core.Bool.{Bool, true, false, not}
use Prim.Native.Nat.{ℕ, suc, ◌-◌, ◌≤◌, ◌<◌}
use native.Mathlib.Omega.{arith}
use lib.Dec.{T, eqb, eqb_refl}
use lib.ListN.{length, length-append}
use lib.Seq.{take-append_seam, drop-append_seam}
use borrow.Author.Tests.{lt-ltb, le-leb, ne_eqb}
use Rattle.decimal.specs.Digits.{is_digit, decimal, spelled}
use Rattle.decimal.proofs.Decide.{T_true, and_left}
use Rattle.decimal.proofs.Numerals.{are_digits, digit_low, digits-before, after-before, value-spelled, spelled-digits, spelled-some, spelled-length}
use Rattle.format.specs.Bytes.{byte}
use Rattle.format.specs.Kind.{Kind}
use Rattle.format.specs.Tree.{leaf, ref, branch, none, pair, count}
use Rattle.format.specs.Syntax.{int_key, string_key, null, bool, int, float, string, array, object, Spelling, Sign, unsigned, plus, minus, Literal, Quoted}
use Rattle.format.specs.Syntax.{Key, Scalar, Container, Value, Values, write_number, write_sign, write_quoted, write_key, write_scalar, write_container, write}
use Rattle.format.specs.Syntax.{plus_text, write_pairs, print}
use Rattle.format.specs.Keys.{has_key}
use Rattle.format.specs.Limits.{number_limit, integer_limit, Terms, sign_of, is_float, Seen}
use Rattle.format.specs.Fits.{IntFits, QuotedFits, KeyFits, ScalarFits, ContainerFits, allowed, Sound, SoundIn, Limited, LimitedIn, Fits}
use Rattle.format.specs.Answer.{ok}
use Rattle.format.specs.Read.{digits, number, expect, int_text, quoted_text, bool_text, float_text, scalar_text, count_text, head_text, named_text, key_text}
use Rattle.format.specs.Read.{plus_of, plan_form, setting, is_array, read_key, read_value, read}
use Rattle.format.proofs.Floats.{float-semicolon, until-semicolon}
use Rattle.format.proofs.Forms.{IsScalar, WritesScalar, WritesKey, WritesHead, Writing, WritingIn, Fresh, FreshIn, key-accepted, value-accepted, fits-accepted}
use Rattle.format.proofs.PlanForm.{plan-tagged}

-- ---- texts

digits-printed : (l top z n c : ℕ) (r : List ℕ) → n ≤ top → is_digit c ≡ false → digits l top (spelled z n ++ (c ∷ r)) ≡ ok ((z, n), c ∷ r)
unfolding digits
digits-printed l top z n c r h e =
    let zeros : length (spelled z n) - length (decimal n) ≡ z = omega (arith, spelled-length z n) in
    rw (
      digits-before (spelled z n) c r (spelled-digits z n) e,
      after-before (spelled z n) c r (spelled-digits z n) e,
      lt-ltb 0 (length (spelled z n)) (spelled-some z n),
      value-spelled z n,
      le-leb n top h,
      zeros,
    )

-- what begins with digits has no plus, and no sign
pub plus-digits : (ds r : List ℕ) → 0 < length ds → T (are_digits ds) → plus_of (ds ++ r) ≡ (false, ds ++ r)
plus-digits [] r h t = absurd (omega arith)
plus-digits (d ∷ ds) r h t = let b : 48 ≤ d = digit_low d (and_left (is_digit d) (are_digits ds) t) in rw (ne_eqb 43 d (λ e. omega arith), plus_of)

plus-printed : (p : Bool) (z n : ℕ) (r : List ℕ) → plus_of ((plus_text p ++ spelled z n) ++ r) ≡ (p, spelled z n ++ r)
plus-printed true z n r = refl
plus-printed false z n r = plus-digits (spelled z n) r (spelled-some z n) (spelled-digits z n)

pub number-printed : (l : ℕ) (w : Spelling) (n c : ℕ) (r : List ℕ) → n ≤ number_limit → is_digit c ≡ false
    → number l (write_number w n (c ∷ r)) ≡ ok ((w, n), c ∷ r)
unfolding number
number-printed l w n c r h e = rw (plus-printed w.plus w.zeros n (c ∷ r), digits-printed l number_limit w.zeros n c r h e)

pub sign-digits : (ds r : List ℕ) → 0 < length ds → T (are_digits ds) → sign_of (ds ++ r) ≡ (unsigned, ds ++ r)
sign-digits [] r h t = absurd (omega arith)
sign-digits (d ∷ ds) r h t =
    let b : 48 ≤ d = digit_low d (and_left (is_digit d) (are_digits ds) t) in
    rw (ne_eqb 43 d (λ e. omega arith), sign_of, ne_eqb 45 d (λ e. omega arith))

sign-printed : (s : Sign) (z n : ℕ) (r : List ℕ) → sign_of (write_sign s (spelled z n ++ r)) ≡ (s, spelled z n ++ r)
sign-printed unsigned z n r = sign-digits (spelled z n) r (spelled-some z n) (spelled-digits z n)
sign-printed plus z n r = refl
sign-printed minus z n r = refl

pub int-printed : (l : ℕ) (x : Literal) (r : List ℕ) → IntFits x
    → int_text l (byte ":" ∷ write_sign x.sign (spelled x.zeros x.magnitude ++ (byte ";" ∷ r))) ≡ ok (x, r)
unfolding int_text
int-printed l x r h =
    rw (
      sign-printed x.sign x.zeros x.magnitude (byte ";" ∷ r),
      digits-printed l (integer_limit x.sign) x.zeros x.magnitude (byte ";") r h refl,
    )

-- closed by `"` and one byte more
pub quoted_printed : (l c : ℕ) (q : Quoted) (r : List ℕ) → QuotedFits q → quoted_text l (byte "\"" ∷ c ∷ []) (byte ":" ∷ write_quoted q (c ∷ r)) ≡ ok (q, r)
unfolding quoted_text
quoted_printed l c q r h =
    let t : List ℕ = q.text in
    rw (
      number-printed l q.spelling (length t) (byte ":") (byte "\"" ∷ t ++ (byte "\"" ∷ c ∷ r)) h refl,
      le-leb (length t) (length (t ++ (34 ∷ c ∷ r))) (simp length-append (omega arith)),
      drop-append_seam t (34 ∷ c ∷ r),
      take-append_seam t (34 ∷ c ∷ r),
      T_true (eqb c c) (eqb_refl c),
      expect,
    )

pub float-printed : (l : ℕ) (t r : List ℕ) → T (is_float t) → float_text l (byte ":" ∷ t ++ (byte ";" ∷ r)) ≡ ok (t, r)
unfolding float_text
float-printed l t r h = rw (until-semicolon t r (float-semicolon t h), T_true (is_float t) h, drop-append_seam t (byte ";" ∷ r))

named-printed : (l : ℕ) (w : Spelling) (t : ℕ) (r : List ℕ) → t ≤ number_limit → named_text l (byte ":" ∷ write_number w t (byte ";" ∷ r)) ≡ ok ((w, t), r)
unfolding named_text
named-printed l w t r f = rw (number-printed l w t (byte ";") r f refl)

-- ---- a print is a writing in the plan's form

writes_key : (c : Container) (k : Key) (r : List ℕ) → KeyFits k → T (allowed c k) → WritesKey plan_form (is_array c) k (write_key k r) r
unfolding key_text
writes_key array (int_key x) r f a = record { kind = Kind.int; rest = _; tagged = λ at. refl; text = λ l. rw (int-printed l x r f) }
writes_key array (string_key q) r f a = record { kind = Kind.string; rest = _; tagged = λ at. refl; text = λ l. rw (quoted_printed l (byte ";") q r f) }
writes_key (object t) (int_key x) r f a = absurd a
writes_key (object t) (string_key q) r f a = record { kind = Kind.string; rest = _; tagged = λ at. refl; text = λ l. rw (quoted_printed l (byte ";") q r f) }

writes-scalar : (x : Scalar) (r : List ℕ) → ScalarFits x → WritesScalar plan_form x (write_scalar x r) r
unfolding scalar_text bool_text
writes-scalar null r f = record { kind = Kind.null; scalar = IsScalar.null; rest = _; here = refl; text = λ l. refl }
writes-scalar (bool true) r f = record { kind = Kind.bool; scalar = IsScalar.bool; rest = _; here = refl; text = λ l. refl }
writes-scalar (bool false) r f = record { kind = Kind.bool; scalar = IsScalar.bool; rest = _; here = refl; text = λ l. refl }
writes-scalar (int x) r f = record { kind = Kind.int; scalar = IsScalar.int; rest = _; here = refl; text = λ l. rw (int-printed l x r f) }
writes-scalar (float t) r f = record { kind = Kind.float; scalar = IsScalar.float; rest = _; here = refl; text = λ l. rw (float-printed l t r f) }
writes-scalar (string q) r f =
    record { kind = Kind.string; scalar = IsScalar.string; rest = _; here = refl; text = λ l. rw (quoted_printed l (byte ";") q r f) }

writes-head : (c : Container) (w : Spelling) (n : ℕ) (r : List ℕ) → ContainerFits c → n ≤ number_limit
    → WritesHead plan_form (record { container = c; spelling = w }) n (write_container c (write_number w n (byte ":" ∷ byte "{" ∷ r))) r
unfolding head_text count_text
writes-head array w n r f m = record { rest = _; here = refl; text = λ l. rw (number-printed l w n (byte ":") (byte "{" ∷ r) m refl) }
writes-head (object q) w n r f m = record {
  rest = _;
  here = refl;
  text = λ l. rw (
    quoted_printed l (byte ":") q (write_number w n (byte ":" ∷ byte "{" ∷ r)) f,
    number-printed l w n (byte ":") (byte "{" ∷ r) m refl,
  );
}

mutual
  unfolding write

  writing : (v : Value) (r : List ℕ) → Sound v → Limited v → Writing plan_form v (write v r) r
  writing (leaf x) r s i = writes-scalar x r s
  writing (ref n) r s i = record { rest = _; here = refl; text = λ l. named-printed l n.spelling n.named r i }
  writing (branch h ps) r s i = (
    write_pairs ps (byte "}" ∷ r),
    byte "}" ∷ r,
    writes-head h.container h.spelling (count ps) (write_pairs ps (byte "}" ∷ r)) s.0 i.0,
    writing_in h.container [] ps (byte "}" ∷ r) s.1 i.1,
    λ l. refl,
  )

  writing_in : (c : Container) (earlier : List Key) (ps : Values) (r : List ℕ) → SoundIn c earlier ps → LimitedIn ps
      → WritingIn plan_form (is_array c) ps (write_pairs ps r) r
  writing_in c earlier none r s i = refl
  writing_in c earlier (pair k v ps) r s i = (
    write v (write_pairs ps r),
    write_pairs ps r,
    writes_key c k (write v (write_pairs ps r)) s.0 s.1,
    writing v (write_pairs ps r) s.3 i.0,
    writing_in c (k ∷ earlier) ps r s.4 i.1,
  )

mutual
  fresh : (v : Value) → Sound v → Fresh v
  fresh (leaf x) s = tt
  fresh (ref r) s = tt
  fresh (branch h ps) s = fresh_in h.container [] ps s.1

  fresh_in : (c : Container) (earlier : List Key) (ps : Values) → SoundIn c earlier ps → FreshIn earlier ps
  fresh_in c earlier none s = tt
  fresh_in c earlier (pair k v ps) s = (s.2, fresh v s.3, fresh_in c (k ∷ earlier) ps s.4)

-- a key, and a scalar, wherever they stand
module _ (terms : Terms) (source : List ℕ) where
  pub key-printed : (c : Container) (earlier : List Key) (before : ℕ) (k : Key) (r : List ℕ) → before < terms.capacity → KeyFits k → T (allowed c k)
      → T (not (has_key k earlier)) → read_key (setting terms source) (is_array c) earlier before (write_key k r) ≡ ok (k, r)
  key-printed c earlier before k r b f a d =
      key-accepted (setting terms source) (is_array c) earlier before k (write_key k r) r b d (writes_key c k r f a)

  pub scalar-printed : (d : ℕ) (seen : Seen) (before : ℕ) (x : Scalar) (r : List ℕ) → before < terms.capacity → ScalarFits x
      → read_value (setting terms source) (suc d) seen before (write_scalar x r) ≡ ok (leaf x, r)
  scalar-printed d seen before x r b f =
      value-accepted (setting terms source) plan-tagged (leaf x) (suc d) seen before (write_scalar x r) r (writes-scalar x r f) tt tt (omega arith) (omega arith)

-- A PLAN THAT FITS IS ACCEPTED: its print is read as what was printed.
pub read-print : (terms : Terms) (v : Value) → Fits terms v → read terms (print v) ≡ ok v
read-print terms v f =
    let p = f.valid in
    fits-accepted plan_form terms (print v) v plan-tagged (record {
      short = p.short;
      written = writing v [] p.sound p.limited;
      fresh = fresh v p.sound;
      backward = p.backward;
      shallow = p.shallow;
      small = f.small;
    })
