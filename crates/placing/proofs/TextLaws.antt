-- Texts that are exactly one scalar or one key. Assumes nothing.
use Prim.Native.Nat.{ℕ, ◌≤◌, ◌<◌}
use native.Mathlib.Omega.{arith}
use mathlib.Core.Path.{◌≡◌, refl, sym, ap, ◌∙◌, subst}
use mathlib.Core.Bool.{true, true≢false}
use mathlib.Core.List.{List, [], ◌∷◌}
use Rattle.std.specs.Prelude.{Ok, Err, Option, Some, None}
use Rattle.std.specs.Result.{result_ok}
use Rattle.format.specs.declared.codes.Code.{Code}
use lib.ListN.{length, get_or, drop, length-drop, drop_of_length-le}
use lib.Seq.{drop-cons}
use Rattle.format.specs.Kind.{may_be_key}
use Rattle.format.specs.Syntax.{null, bool, int, float, string, int_key, string_key, Key, Scalar, write_key, write_scalar}
use Rattle.format.specs.Fits.{KeyFits, ScalarFits}
use Rattle.format.specs.Answer.{Answer, ok, refused}
use Rattle.format.specs.Writing.{key_of, scalar_of}
use Rattle.format.proofs.Answers.{ok_same, not_both, bind_ok}
use Rattle.format.proofs.Fronts.{number-length, quoted_length}
use Rattle.format.proofs.Places.{quoted_text_lem}
use Rattle.scanner.specs.declared.Text.{Text}
use Rattle.scanner.specs.Scans.{Scan, scalar_behind, scalar_told, Found, Scans}
use Rattle.scanner.proofs.Numbers.{found_of, unfit-of}
use Rattle.scanner.proofs.Printed.{scalar-tagged, scalar-printed}
use Rattle.keys.specs.KeyWords.{Held}
use Rattle.keys.specs.declared.KeyWords.{KeyWords}
use Rattle.tokens.specs.Tokens.{key_scalar}
use Rattle.tokens.proofs.TokenRead.{scalar_read}
use Rattle.insertion.proofs.PairTexts.{key-of, scalar-of, key-text, scalar-text, texts_refused}
use Rattle.placing.specs.PairTexts.{IsScalar, Exact, text_words, IsKey, ExactKey, pair_words}

-- ---- exactly one

pub told_ok : (r : Scan) (x : Text) → result_ok r ≡ Some x → r ≡ Ok x
told_ok (Ok y) x e = cc
told_ok (Err c) x e = cc

untold : (r : Scan) → result_ok r ≡ None → (c : Code) × (r ≡ Err c)
untold (Ok y) e = cc
untold (Err c) e = (c, refl)

module _ (s : List ℕ) where
  module _ (some : 0 < length s) where
    whole : s ≡ get_or s 0 0 ∷ drop 1 s
    whole = drop-cons s 0 0 some

    module _ (y : Scalar) (f : ScalarFits y) (t : s ≡ write_scalar y []) where
      printed : (l : ℕ) → scalar_behind (get_or s 0 0) l (drop 1 s) ≡ ok (y, [])
      printed l =
          ap (λ (u : List ℕ). scalar_behind (get_or u 0 0) l (drop 1 u)) (t ∙ scalar-tagged y [])
          ∙ scalar-printed l y [] f

    module _ {b : ℕ} {r : Scan} (first : b ≡ get_or s 0 0) (told : Scans (scalar_behind b) (scalar_told 1) s 1 r) where
      g : Scans (scalar_behind (get_or s 0 0)) (scalar_told 1) s 1 r
      g = subst (λ (b : ℕ). Scans (scalar_behind b) (scalar_told 1) s 1 r) first told

      pub none-unfit : result_ok r ≡ None → Exact s None
      none-unfit e y f t = not_both (sym (unfit-of g (untold r e).1 0) ∙ printed y f t 0)

      module _ {x : Text} (e : r ≡ Ok x) where
        found : Found (scalar_behind (get_or s 0 0)) (scalar_told 1) s 1 x
        found = found_of g e

        pub none_longer : x.next < length s → Exact s None
        none_longer h y f t =
            let rest : drop x.next s ≡ [] = ap (λ (p : Scalar × List ℕ). p.1) (ok_same (sym (found.is 0) ∙ printed y f t 0)) in
            omega (arith, ap length rest, length-drop x.next s)

        pub is-scalar : length s ≤ x.next → IsScalar s x
        is-scalar h =
            let g = scalar_read (get_or s 0 0) 0 (drop 1 s) (found.what, drop x.next s) (found.is 0) in
            record {
              scalar = found.what;
              written = whole ∙ g.0 ∙ ap (write_scalar found.what) (drop_of_length-le s {i = x.next} h);
              fits = g.1;
              tells = found.tells;
            }

-- ---- keys

key-scalar : (k : Key) (s : List ℕ) → KeyFits k → s ≡ write_key k [] → ScalarFits (key_scalar k) × (s ≡ write_scalar (key_scalar k) [])
key-scalar (int_key x) s f t = (f, t)
key-scalar (string_key q) s f t = (f, t)

module _ (s : List ℕ) where
  key-tag : (k : Key) → s ≡ write_key k [] → may_be_key (get_or s 0 0) ≡ true
  key-tag (int_key x) t = ap (λ (u : List ℕ). may_be_key (get_or u 0 0)) t
  key-tag (string_key q) t = ap (λ (u : List ℕ). may_be_key (get_or u 0 0)) t

  abbrev content : Text → ℕ
  content u = u.content

  abbrev size : Text → ℕ
  size u = u.size

  same-words : (x : Text) (k : Key) → s ≡ write_key k [] → x.content ≡ (text_words k).content → x.size ≡ (text_words k).size
      → record { tag = get_or s 0 0; content = x.content; size = x.size } ≡ text_words k
  same-words x (int_key y) t c z = λ i. record { tag = ap (λ (u : List ℕ). get_or u 0 0) t i; content = c i; size = z i }
  same-words x (string_key q) t c z = λ i. record { tag = ap (λ (u : List ℕ). get_or u 0 0) t i; content = c i; size = z i }

  -- by what the scan for a scalar found
  is_key : (x : Text) (y : Scalar) → may_be_key (get_or s 0 0) ≡ true → s ≡ write_scalar y [] → ScalarFits y → x ≡ scalar_told 1 y x.next
      → IsKey s (record { tag = get_or s 0 0; content = x.content; size = x.size })
  is_key x null m t f e = absurd (true≢false (sym m ∙ ap (λ (u : List ℕ). may_be_key (get_or u 0 0)) t))
  is_key x (bool b) m t f e = absurd (true≢false (sym m ∙ ap (λ (u : List ℕ). may_be_key (get_or u 0 0)) t))
  is_key x (float g) m t f e = absurd (true≢false (sym m ∙ ap (λ (u : List ℕ). may_be_key (get_or u 0 0)) t))
  is_key x (int y) m t f e = record { key = int_key y; written = t; fits = f; words = same-words x (int_key y) t (ap content e) (ap size e) }
  is_key x (string q) m t f e = record {
    key = string_key q;
    written = t;
    fits = f;
    words = same-words x (string_key q) t (ap content e ∙ omega arith) (ap size e);
  }

  pub exact_key : (r : Option Text) → may_be_key (get_or s 0 0) ≡ true → Exact s r → ExactKey s r
  exact_key (Some x) m g = is_key x g.scalar m g.written g.fits g.tells
  exact_key None m g = λ k f t. let q = key-scalar k s f t in g (key_scalar k) q.0 q.1

pub key-some : (s : List ℕ) {w : KeyWords} → IsKey s w → 0 < length s
key-some s g = go g.key g.written
  where
    go : (k : Key) → s ≡ write_key k [] → 0 < length s
    go (int_key x) t = omega (arith, ap length t)
    go (string_key q) t = omega (arith, ap length t)

-- ---- the key's words say it

pub key-held : (s : List ℕ) (k : Key) → s ≡ write_key k [] → KeyFits k → Held true s k (text_words k)
key-held s (int_key y) t f = record { is = refl; allowed = refl; says = refl; fits = f }
key-held s (string_key q) t f =
    let stands = quoted_text_lem s 0 115 q (59 ∷ []) t in
    record {
      is = refl;
      allowed = refl;
      says = (sym stands, omega (arith, ap length t, quoted_length q (59 ∷ []), number-length q.spelling (length q.text) []));
      fits = f;
    }

-- ---- both texts

pub record ArePair (key value : List ℕ) (w : KeyWords) : Type 0 where
  pub keyed : IsKey key w
  pub scalar : Scalar
  pub written : value ≡ write_scalar scalar []
  pub fits : ScalarFits scalar

module _ (key value : List ℕ) where
  pub texts_fit : {w : KeyWords} {x : Text} → IsKey key w → IsScalar value x → ok w ≡ pair_words key value
  unfolding pair_words
  texts_fit {w} k y =
      sym (rw (ap key_of k.written ∙ key-text k.key k.fits, ap scalar_of y.written ∙ scalar-text y.scalar y.fits)
      (ap {B = Answer KeyWords} (λ u. ok u) (sym k.words)))

  pub texts_unfit : ((k : Key) (x : Scalar) → KeyFits k → key ≡ write_key k [] → ScalarFits x → value ≡ write_scalar x [] → ⊥)
      → refused 13 0 ≡ pair_words key value
  unfolding pair_words
  texts_unfit f = sym (texts_refused key value _ f)

  pub are-pair : {w : KeyWords} → ok w ≡ pair_words key value → ArePair key value w
  unfolding pair_words
  are-pair {w} e =
      let a = bind_ok (key_of key) _ w (sym e) in
      let b = bind_ok (scalar_of value) _ w a.2 in
      let k = key-of key a.0 a.1 in
      let x = scalar-of value b.0 b.1 in
      record {
        keyed = record { key = a.0; written = k.0; fits = k.1; words = sym (ok_same b.2) };
        scalar = b.0;
        written = x.0;
        fits = x.1;
      }

  -- their refusal
  pub no-pair : {c p : ℕ} → refused c p ≡ pair_words key value → (k : Key) (x : Scalar) → KeyFits k → key ≡ write_key k [] → ScalarFits x
      → value ≡ write_scalar x [] → ⊥
  unfolding pair_words
  no-pair e k x f t g u = not_both {a = text_words k} (e ∙ rw (ap key_of t ∙ key-text k f, ap scalar_of u ∙ scalar-text x g))
