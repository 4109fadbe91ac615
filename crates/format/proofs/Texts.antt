-- A text that reading accepts is the print of what was read, and in range. Assumes nothing.
use mathlib.Core.Path.{◌≡◌, refl, sym, ap, ap₂, ◌∙◌, subst}
use mathlib.Core.Logic.{⊎_elim}
use mathlib.Core.List.Memᴰ
use mathlib.Core.List.{List, [], ◌∷◌, ◌++◌, append_assoc, Memᴰ}
use mathlib.Core.Bool.{true, false, Bool, ◌||◌}
use Prim.Native.Nat.{ℕ, ◌-◌, ◌≤◌, ◌<◌}
use native.Mathlib.Omega.{arith}
use lib.Dec.{T, ltb, leb, eqb, ltb→lt, leb→le, eqb→eq}
use lib.ListN.{length, take, drop, take-append-drop}
use lib.Seq.{length-take-le}
use Rattle.decimal.specs.Digits.{digits_of, after_digits, value, decimal, spelled}
use Rattle.decimal.proofs.Decide.{Test, passed, failed, test, T_of}
use Rattle.decimal.proofs.Numerals.{digits_are, digits-split, spelling, spelled-length}
use Rattle.format.specs.Bytes.{byte, bytes, same_bytes}
use Rattle.format.specs.Kind.{Kind, tag, key_kinds}
use Rattle.format.specs.Syntax.{int_key, string_key, array, object, Spelling, Sign, Literal, Quoted, Key, Scalar, Container}
use Rattle.format.specs.Syntax.{plus_text, write_number, write_sign, write_quoted, write_int, write_key, bit, write_scalar, write_container}
use Rattle.format.specs.Limits.{number_limit, integer_limit, sign_of, is_float}
use Rattle.format.specs.Fits.{IntFits, QuotedFits, KeyFits, ScalarFits, ContainerFits, allowed}
use Rattle.format.specs.Answer.{ok, require}
use Rattle.format.specs.Read.{kind_of, tag_of, expect, digits, number, int_text, quoted_text, bool_text, until, float_text, scalar_text, count_text, head_text}
use Rattle.format.specs.Read.{plus_of, named_text, key_text, is_array}
use Rattle.format.proofs.Answers.{ok_same, not_both, bind_ok, require-ok}
use Rattle.format.proofs.Floats.{sign-split, until-split}
use Rattle.format.proofs.Forms.{container_kind}

-- ---- tags
-- a kind that was chosen is the byte's, and among those offered
pub record Chosen (js : List Kind) (b : ℕ) (k : Kind) : Type 0 where
  pub tagged : b ≡ tag k
  pub among : Memᴰ k js

kind_ok : (js : List Kind) (code at b : ℕ) (k : Kind) → kind_of tag js code at b ≡ ok k → Chosen js b k
kind_ok [] code at b k e = absurd (not_both e)
kind_ok (j ∷ js) code at b k e = go (test (eqb (tag j) b)) (λ d. kind_ok js code at b k d)
  where
    go : Test (eqb (tag j) b) → (kind_of tag js code at b ≡ ok k → Chosen js b k) → Chosen (j ∷ js) b k
    go (passed t) r =
        let i : j ≡ k = ok_same (rw (t, kind_of) at e) in
        record { tagged = sym (eqb→eq (tag j) b (T_of t)) ∙ ap tag i; among = Memᴰ.head (sym i) }
    go (failed t) r =
        let c = r (rw (t, kind_of) at e) in
        record { tagged = c.tagged; among = Memᴰ.tail c.among }

pub record GotTag (js : List Kind) (s : List ℕ) (q : Kind × List ℕ) : Type 0 where
  pub text : s ≡ tag q.0 ∷ q.1
  pub among : Memᴰ q.0 js

pub tag-ok : (js : List Kind) (code at : ℕ) (s : List ℕ) (q : Kind × List ℕ) → tag_of tag js code at s ≡ ok q → GotTag js s q
tag-ok js code at [] q e = absurd (not_both e)
tag-ok js code at (b ∷ s) q e =
    let a = bind_ok (kind_of tag js code at b) _ q e in
    let c = kind_ok js code at b a.0 a.1 in
    subst (GotTag js (b ∷ s)) (ok_same a.2) (record { text = ap (λ (x : ℕ). x ∷ s) c.tagged; among = c.among })

-- ---- texts
pub expect-ok : (l : ℕ) (ws s s' : List ℕ) → expect l ws s ≡ ok s' → s ≡ ws ++ s'
expect-ok l [] s s' e = ok_same e
expect-ok l (w ∷ ws) [] s' e = absurd (not_both e)
expect-ok l (w ∷ ws) (b ∷ s) s' e = go (test (eqb w b)) (λ d. expect-ok l ws s s' d)
  where
    go : Test (eqb w b) → (expect l ws s ≡ ok s' → s ≡ ws ++ s') → b ∷ s ≡ (w ∷ ws) ++ s'
    go (passed t) r = ap₂ {C = List ℕ} ◌∷◌ (sym (eqb→eq w b (T_of t))) (r (rw (t, expect) at e))
    go (failed t) r = absurd (not_both (rw (t, expect) at e))

digits-spelled : (s : List ℕ) → 0 < length (digits_of s)
    → s ≡ spelled (length (digits_of s) - length (decimal (value (digits_of s)))) (value (digits_of s)) ++ after_digits s
digits-spelled s h =
    let ds = digits_of s in
    let z = spelling ds h (digits_are s) in
    let i : length ds - length (decimal (value ds)) ≡ z.0 = omega (arith, ap length z.1, spelled-length z.0 (value ds)) in
    digits-split s ∙ ap (λ (x : List ℕ). x ++ after_digits s) (z.1 ∙ ap (λ (x : ℕ). spelled x (value ds)) (sym i))

-- what an accepted text says: the bytes are its print, and it is in range
pub record Spelled (top : ℕ) (s : List ℕ) (q : (ℕ × ℕ) × List ℕ) : Type 0 where
  pub text : s ≡ spelled q.0.0 q.0.1 ++ q.1
  pub fits : q.0.1 ≤ top

pub digits-ok : (l top : ℕ) (s : List ℕ) (q : (ℕ × ℕ) × List ℕ) → digits l top s ≡ ok q → Spelled top s q
unfolding digits
digits-ok l top s q e =
    let a = bind_ok (require (ltb 0 (length (digits_of s))) 2 l) _ q e in
    let b = bind_ok (require (leb (value (digits_of s)) top) 5 l) _ q a.2 in
    subst (Spelled top s) (ok_same b.2) (record {
      text = digits-spelled s (ltb→lt 0 (length (digits_of s)) (require-ok (ltb 0 (length (digits_of s))) 2 l a.0 a.1));
      fits = leb→le (value (digits_of s)) top (require-ok (leb (value (digits_of s)) top) 5 l b.0 b.1);
    })

-- the plus, if there is one
plus-split : (s : List ℕ) → s ≡ plus_text (plus_of s).0 ++ (plus_of s).1
plus-split [] = refl
plus-split (b ∷ s) = go (test (eqb (byte "+") b))
  where
    go : Test (eqb (byte "+") b) → b ∷ s ≡ plus_text (plus_of (b ∷ s)).0 ++ (plus_of (b ∷ s)).1
    go (passed t) = rw (t, plus_of) (ap (λ (x : ℕ). x ∷ s) (sym (eqb→eq (byte "+") b (T_of t))))
    go (failed t) = rw (t, plus_of)

pub record GotNumber (s : List ℕ) (q : (Spelling × ℕ) × List ℕ) : Type 0 where
  pub text : s ≡ write_number q.0.0 q.0.1 q.1
  pub fits : q.0.1 ≤ number_limit

pub number_ok : (l : ℕ) (s : List ℕ) (q : (Spelling × ℕ) × List ℕ) → number l s ≡ ok q → GotNumber s q
unfolding number
number_ok l s q e =
    let p = plus_of s in
    let a = bind_ok (digits l number_limit p.1) _ q e in
    let d = digits-ok l number_limit p.1 a.0 a.1 in
    subst (GotNumber s) (ok_same a.2) (record {
      text = plus-split s ∙ ap (λ (x : List ℕ). plus_text p.0 ++ x) d.text
          ∙ sym (append_assoc (plus_text p.0) (spelled a.0.0.0 a.0.0.1) a.0.1);
      fits = d.fits;
    })

pub record GotInt (s : List ℕ) (q : Literal × List ℕ) : Type 0 where
  pub text : tag Kind.int ∷ s ≡ write_int q.0 q.1
  pub fits : IntFits q.0

pub int_ok : (l : ℕ) (s : List ℕ) (q : Literal × List ℕ) → int_text l s ≡ ok q → GotInt s q
unfolding int_text
int_ok l s q e =
    let a = bind_ok (expect l (bytes ":") s) _ q e in
    let sg : Sign = (sign_of a.0).0 in
    let b = bind_ok (digits l (integer_limit sg) (sign_of a.0).1) _ q a.2 in
    let c = bind_ok (expect l (bytes ";") b.0.1) _ q b.2 in
    let nb = digits-ok l (integer_limit sg) (sign_of a.0).1 b.0 b.1 in
    subst (GotInt s) (ok_same c.2) (record {
      text = ap {B = List ℕ} (λ x. 105 ∷ x) (expect-ok l (bytes ":") s a.0 a.1 ∙ ap {B = List ℕ} (λ x. 58 ∷ x)
          (sign-split a.0 ∙ ap (write_sign sg)
          (nb.text ∙ ap (λ (x : List ℕ). spelled b.0.0.0 b.0.0.1 ++ x) (expect-ok l (bytes ";") b.0.1 c.0 c.1))));
      fits = nb.fits;
    })

-- a quoted text behind its tag's colon, closed by `"` and one byte more
pub record GotQuoted (c : ℕ) (s : List ℕ) (q : Quoted × List ℕ) : Type 0 where
  pub text : s ≡ byte ":" ∷ write_quoted q.0 (c ∷ q.1)
  pub fits : QuotedFits q.0

pub quoted_ok : (l c : ℕ) (s : List ℕ) (q : Quoted × List ℕ) → quoted_text l (byte "\"" ∷ c ∷ []) s ≡ ok q → GotQuoted c s q
unfolding quoted_text
quoted_ok l c s q e =
    let a = bind_ok (expect l (bytes ":") s) _ q e in
    let b = bind_ok (number l a.0) _ q a.2 in
    let w : Spelling = b.0.0.0 in
    let n : ℕ = b.0.0.1 in
    let d = bind_ok (expect l (bytes ":\"") b.0.1) _ q b.2 in
    let f = bind_ok (require (leb n (length d.0)) 2 l) _ q d.2 in
    let g = bind_ok (expect l (byte "\"" ∷ c ∷ []) (drop n d.0)) _ q f.2 in
    let nb = number_ok l a.0 b.0 b.1 in
    let t : List ℕ = take n d.0 in
    let len : length t ≡ n = length-take-le n d.0 (leb→le n (length d.0) (require-ok (leb n (length d.0)) 2 l f.0 f.1)) in
    let cut : d.0 ≡ t ++ (34 ∷ c ∷ g.0) = sym (take-append-drop n d.0)
    ∙ ap (λ (x : List ℕ). t ++ x) (expect-ok l (byte "\"" ∷ c ∷ []) (drop n d.0) g.0 g.1) in
    subst (GotQuoted c s) (ok_same g.2) (record {
      text = expect-ok l (bytes ":") s a.0 a.1
          ∙ ap {B = List ℕ} (λ x. 58 ∷ x)
          (nb.text ∙ ap (write_number w n) (expect-ok l (bytes ":\"") b.0.1 d.0 d.1 ∙ ap (λ (x : List ℕ). 58 ∷ 34 ∷ x) cut)
          ∙ ap (λ (m : ℕ). write_number w m (58 ∷ 34 ∷ t ++ (34 ∷ c ∷ g.0))) (sym len));
      fits = rw len nb.fits;
    })

-- one byte, 0 or 1
bit_ok : (s r : List ℕ) → T (same_bytes (take 1 s) (bytes "0") || same_bytes (take 1 s) (bytes "1")) → drop 1 s ≡ r
    → s ≡ bit (same_bytes (take 1 s) (bytes "1")) ∷ r
bit_ok [] r u e = absurd u
bit_ok (b ∷ s) r u e = go (test (eqb b 48)) (test (eqb b 49))
  where
    go : Test (eqb b 48) → Test (eqb b 49) → b ∷ s ≡ bit (same_bytes (b ∷ []) (bytes "1")) ∷ r
    go (passed x) (passed y) = absurd (omega (arith, eqb→eq b 48 (T_of x), eqb→eq b 49 (T_of y)))
    go (passed x) (failed y) = rw y (ap₂ {C = List ℕ} ◌∷◌ (eqb→eq b 48 (T_of x)) e)
    go (failed x) (passed y) = rw y (ap₂ {C = List ℕ} ◌∷◌ (eqb→eq b 49 (T_of y)) e)
    go (failed x) (failed y) = absurd (rw (x, y) at u)

pub bool_ok : (l : ℕ) (s : List ℕ) (q : Bool × List ℕ) → bool_text l s ≡ ok q → s ≡ byte ":" ∷ bit q.0 ∷ byte ";" ∷ q.1
unfolding bool_text
bool_ok l s q e =
    let a = bind_ok (expect l (bytes ":") s) _ q e in
    let t : Bool = same_bytes (take 1 a.0) (bytes "0") || same_bytes (take 1 a.0) (bytes "1") in
    let b = bind_ok (require t 2 l) _ q a.2 in
    let c = bind_ok (expect l (bytes ";") (drop 1 a.0)) _ q b.2 in
    expect-ok l (bytes ":") s a.0 a.1
    ∙ ap {B = List ℕ} (λ x. 58 ∷ x) (bit_ok a.0 (59 ∷ c.0) (require-ok t 2 l b.0 b.1) (expect-ok l (bytes ";") (drop 1 a.0) c.0 c.1))
    ∙ ap (λ (x : Bool × List ℕ). 58 ∷ bit x.0 ∷ 59 ∷ x.1) (ok_same c.2)

pub record GotFloat (s : List ℕ) (q : List ℕ × List ℕ) : Type 0 where
  pub text : s ≡ byte ":" ∷ q.0 ++ (byte ";" ∷ q.1)
  pub fits : T (is_float q.0)

pub float_ok : (l : ℕ) (s : List ℕ) (q : List ℕ × List ℕ) → float_text l s ≡ ok q → GotFloat s q
unfolding float_text
float_ok l s q e =
    let a = bind_ok (expect l (bytes ":") s) _ q e in
    let t : List ℕ = until (byte ";") a.0 in
    let b = bind_ok (require (is_float t) 2 l) _ q a.2 in
    let c = bind_ok (expect l (bytes ";") (drop (length t) a.0)) _ q b.2 in
    subst (GotFloat s) (ok_same c.2) (record {
      text = expect-ok l (bytes ":") s a.0 a.1
          ∙ ap {B = List ℕ} (λ x. 58 ∷ x) (until-split a.0 ∙ ap (λ (x : List ℕ). t ++ x) (expect-ok l (bytes ";") (drop (length t) a.0) c.0 c.1));
      fits = require-ok (is_float t) 2 l b.0 b.1;
    })

pub record GotScalar (k : Kind) (s : List ℕ) (q : Scalar × List ℕ) : Type 0 where
  pub text : tag k ∷ s ≡ write_scalar q.0 q.1
  pub fits : ScalarFits q.0

pub scalar_text-ok : (k : Kind) (l : ℕ) (s : List ℕ) (q : Scalar × List ℕ) → scalar_text k l s ≡ ok q → GotScalar k s q
unfolding scalar_text
scalar_text-ok Kind.null l s q e =
    let a = bind_ok (expect l (bytes ";") s) _ q e in
    subst (GotScalar Kind.null s) (ok_same a.2) (record { text = ap {B = List ℕ} (λ x. 78 ∷ x) (expect-ok l (bytes ";") s a.0 a.1); fits = tt })
scalar_text-ok Kind.bool l s q e =
    let a = bind_ok (bool_text l s) _ q e in
    subst (GotScalar Kind.bool s) (ok_same a.2) (record { text = ap {B = List ℕ} (λ x. 98 ∷ x) (bool_ok l s a.0 a.1); fits = tt })
scalar_text-ok Kind.int l s q e =
    let a = bind_ok (int_text l s) _ q e in
    let g = int_ok l s a.0 a.1 in
    subst (GotScalar Kind.int s) (ok_same a.2) (record { text = g.text; fits = g.fits })
scalar_text-ok Kind.float l s q e =
    let a = bind_ok (float_text l s) _ q e in
    let g = float_ok l s a.0 a.1 in
    subst (GotScalar Kind.float s) (ok_same a.2) (record { text = ap {B = List ℕ} (λ x. 100 ∷ x) g.text; fits = g.fits })
scalar_text-ok Kind.string l s q e =
    let a = bind_ok (quoted_text l (bytes "\";") s) _ q e in
    let g = quoted_ok l (byte ";") s a.0 a.1 in
    subst (GotScalar Kind.string s) (ok_same a.2) (record { text = ap {B = List ℕ} (λ x. 115 ∷ x) g.text; fits = g.fits })
scalar_text-ok Kind.array l s q e = absurd (not_both e)
scalar_text-ok Kind.object l s q e = absurd (not_both e)
scalar_text-ok Kind.object_reference l s q e = absurd (not_both e)
scalar_text-ok Kind.variable_reference l s q e = absurd (not_both e)

-- a count of pairs up to the opening brace
pub record GotCount (s : List ℕ) (q : (Spelling × ℕ) × List ℕ) : Type 0 where
  pub text : s ≡ write_number q.0.0 q.0.1 (byte ":" ∷ byte "{" ∷ q.1)
  pub fits : q.0.1 ≤ number_limit

pub count-ok : (l : ℕ) (s : List ℕ) (q : (Spelling × ℕ) × List ℕ) → count_text l s ≡ ok q → GotCount s q
unfolding count_text
count-ok l s q e =
    let a = bind_ok (number l s) _ q e in
    let b = bind_ok (expect l (bytes ":{") a.0.1) _ q a.2 in
    let n = number_ok l s a.0 a.1 in
    subst (GotCount s) (ok_same b.2) (record {
      text = n.text ∙ ap (write_number a.0.0.0 a.0.0.1) (expect-ok l (bytes ":{") a.0.1 b.0 b.1);
      fits = n.fits;
    })

-- a container's head, from its tag up to its first pair
pub record GotHead (of_array : Bool) (s : List ℕ) (q : (Container × (Spelling × ℕ)) × List ℕ) : Type 0 where
  pub text : tag (container_kind of_array) ∷ s ≡ write_container q.0.0 (write_number q.0.1.0 q.0.1.1 (byte ":" ∷ byte "{" ∷ q.1))
  pub container : is_array q.0.0 ≡ of_array
  pub fits : ContainerFits q.0.0
  pub few : q.0.1.1 ≤ number_limit

pub head_ok : (of_array : Bool) (l : ℕ) (s : List ℕ) (q : (Container × (Spelling × ℕ)) × List ℕ) → head_text of_array l s ≡ ok q → GotHead of_array s q
unfolding head_text
head_ok true l s q e =
    let a = bind_ok (expect l (bytes ":") s) _ q e in
    let b = bind_ok (count_text l a.0) _ q a.2 in
    let n = count-ok l a.0 b.0 b.1 in
    subst (GotHead true s) (ok_same b.2) (record {
      text = ap {B = List ℕ} (λ x. 97 ∷ x) (expect-ok l (bytes ":") s a.0 a.1 ∙ ap {B = List ℕ} (λ x. 58 ∷ x) n.text);
      container = refl;
      fits = tt;
      few = n.fits;
    })
head_ok false l s q e =
    let a = bind_ok (quoted_text l (bytes "\":") s) _ q e in
    let b = bind_ok (count_text l a.0.1) _ q a.2 in
    let g = quoted_ok l (byte ":") s a.0 a.1 in
    let n = count-ok l a.0.1 b.0 b.1 in
    subst (GotHead false s) (ok_same b.2) (record {
      text = ap {B = List ℕ} (λ x. 79 ∷ x) (g.text ∙ ap (λ (x : List ℕ). 58 ∷ write_quoted a.0.0 (58 ∷ x)) n.text);
      container = refl;
      fits = g.fits;
      few = n.fits;
    })

-- the ordinal that a reference names, behind its tag
pub record GotNamed (s : List ℕ) (q : (Spelling × ℕ) × List ℕ) : Type 0 where
  pub text : s ≡ byte ":" ∷ write_number q.0.0 q.0.1 (byte ";" ∷ q.1)
  pub fits : q.0.1 ≤ number_limit

pub named_ok : (l : ℕ) (s : List ℕ) (q : (Spelling × ℕ) × List ℕ) → named_text l s ≡ ok q → GotNamed s q
unfolding named_text
named_ok l s q e =
    let a = bind_ok (expect l (bytes ":") s) _ q e in
    let b = bind_ok (number l a.0) _ q a.2 in
    let c = bind_ok (expect l (bytes ";") b.0.1) _ q b.2 in
    let n = number_ok l a.0 b.0 b.1 in
    subst (GotNamed s) (ok_same c.2) (record {
      text = expect-ok l (bytes ":") s a.0 a.1
          ∙ ap {B = List ℕ} (λ x. 58 ∷ x) (n.text ∙ ap (write_number b.0.0.0 b.0.0.1) (expect-ok l (bytes ";") b.0.1 c.0 c.1));
      fits = n.fits;
    })

-- the kinds that a key's tag may be of
pub data KeyKind (k : Kind) : Type 0 where
  is-int : k ≡ Kind.int → KeyKind k
  is-string : k ≡ Kind.string → KeyKind k

pub key-kind : (c : Container) (l : ℕ) (s : List ℕ) (q : Kind × List ℕ) → tag_of tag (key_kinds (is_array c)) 4 l s ≡ ok q → KeyKind q.0
key-kind array l s q e = ⊎_elim is-int (λ m. is-string (Memᴰ.eq_of_singleton m)) (Memᴰ.cases_cons (tag-ok (key_kinds true) 4 l s q e).among)
key-kind (object t) l s q e = is-string (Memᴰ.eq_of_singleton (tag-ok (key_kinds false) 4 l s q e).among)

pub record GotText (k : Kind) (s : List ℕ) (q : Key × List ℕ) : Type 0 where
  pub text : tag k ∷ s ≡ write_key q.0 q.1
  pub fits : KeyFits q.0

int-key-ok : (a : Bool) (l : ℕ) (s : List ℕ) (q : Key × List ℕ) → key_text a Kind.int l s ≡ ok q → GotText Kind.int s q
unfolding key_text
int-key-ok b l s q e =
    let a = bind_ok (int_text l s) _ q e in
    let g = int_ok l s a.0 a.1 in
    subst (GotText Kind.int s) (ok_same a.2) (record { text = g.text; fits = g.fits })

string-key-ok : (a : Bool) (l : ℕ) (s : List ℕ) (q : Key × List ℕ) → key_text a Kind.string l s ≡ ok q → GotText Kind.string s q
unfolding key_text
string-key-ok b l s q e =
    let a = bind_ok (quoted_text l (bytes "\";") s) _ q e in
    let g = quoted_ok l (byte ";") s a.0 a.1 in
    subst (GotText Kind.string s) (ok_same a.2) (record { text = ap {B = List ℕ} (λ x. 115 ∷ x) g.text; fits = g.fits })

pub key_text-ok : (a : Bool) (k : Kind) (l : ℕ) (s : List ℕ) (q : Key × List ℕ) → KeyKind k → key_text a k l s ≡ ok q → GotText k s q
key_text-ok a k l s q (is-int i) e = rw i (int-key-ok a l s q (rw i at e))
key_text-ok a k l s q (is-string i) e = rw i (string-key-ok a l s q (rw i at e))

string-allowed : (t : Quoted) (k : Key) (r s : List ℕ) → tag Kind.string ∷ s ≡ write_key k r → T (allowed (object t) k)
string-allowed t (int_key x) r s e = let z : ◌≡◌ {A = ℕ} (tag Kind.string) (tag Kind.int) = cc in omega arith
string-allowed t (string_key q) r s e = tt

pub key-allowed : (c : Container) (l : ℕ) (s : List ℕ) (a : Kind × List ℕ) (k : Key) (r : List ℕ) → tag_of tag (key_kinds (is_array c)) 4 l s ≡ ok a
    → tag a.0 ∷ a.1 ≡ write_key k r → T (allowed c k)
key-allowed array l s a k r e f = tt
key-allowed (object t) l s a k r e f = string-allowed t k r a.1
    (ap (λ (x : Kind). tag x ∷ a.1) (sym (Memᴰ.eq_of_singleton (tag-ok (key_kinds false) 4 l s a e).among)) ∙ f)
