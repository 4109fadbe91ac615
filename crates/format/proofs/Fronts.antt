-- What a part is written as stands in front of what follows it; the lengths of parts. Assumes nothing.
use mathlib.Core.Path.{◌≡◌, refl, sym, ap, ◌∙◌}
use mathlib.Core.List.{List, [], ◌∷◌, ◌++◌, append_assoc}
use Prim.Native.Nat.{ℕ, ◌+◌}
use native.Mathlib.Omega.{arith}
use lib.ListN.{length, length-append}
use Rattle.decimal.specs.Digits.{decimal, spelled}
use Rattle.decimal.proofs.Numerals.{spelled-length}
use Rattle.format.specs.Bytes.{byte}
use Rattle.format.specs.Kind.{tag}
use Rattle.format.specs.Tree.{leaf, ref, branch, none, pair, count}
use Rattle.format.specs.Syntax.{int_key, string_key, null, bool, int, float, string, array, object, Spelling, Sign, unsigned, plus, minus, Literal, Quoted}
use Rattle.format.specs.Syntax.{Key, Scalar, Container, ref_kind, Value, Values, plus_text, number_text, write_number, write_sign, write_quoted, write_int}
use Rattle.format.specs.Syntax.{write_string, write_key, write_scalar, write_container, write, write_pairs}

pub number-front : (w : Spelling) (n : ℕ) (r s : List ℕ) → write_number w n (r ++ s) ≡ write_number w n r ++ s
number-front w n r s = sym (append_assoc (number_text w n) r s)

pub sign-front : (k : Sign) (r s : List ℕ) → write_sign k (r ++ s) ≡ write_sign k r ++ s
sign-front unsigned r s = refl
sign-front plus r s = refl
sign-front minus r s = refl

quoted_front : (q : Quoted) (r s : List ℕ) → write_quoted q (r ++ s) ≡ write_quoted q r ++ s
quoted_front q r s =
    ap (λ (x : List ℕ). write_number q.spelling (length q.text) (58 ∷ 34 ∷ x)) (sym (append_assoc q.text (34 ∷ r) s))
    ∙ number-front q.spelling (length q.text) (58 ∷ 34 ∷ q.text ++ (34 ∷ r)) s

int-front : (x : Literal) (r s : List ℕ) → write_int x (r ++ s) ≡ write_int x r ++ s
int-front x r s =
    ap (λ (y : List ℕ). 105 ∷ 58 ∷ write_sign x.sign y) (sym (append_assoc (spelled x.zeros x.magnitude) (59 ∷ r) s))
    ∙ ap {B = List ℕ} (λ y. 105 ∷ 58 ∷ y) (sign-front x.sign (spelled x.zeros x.magnitude ++ (59 ∷ r)) s)

string-front : (q : Quoted) (r s : List ℕ) → write_string q (r ++ s) ≡ write_string q r ++ s
string-front q r s = ap {B = List ℕ} (λ y. 115 ∷ 58 ∷ y) (quoted_front q (59 ∷ r) s)

pub key-front : (k : Key) (r s : List ℕ) → write_key k (r ++ s) ≡ write_key k r ++ s
key-front (int_key x) r s = int-front x r s
key-front (string_key q) r s = string-front q r s

pub scalar-front : (x : Scalar) (r s : List ℕ) → write_scalar x (r ++ s) ≡ write_scalar x r ++ s
scalar-front null r s = refl
scalar-front (bool b) r s = refl
scalar-front (int x) r s = int-front x r s
scalar-front (float t) r s = ap {B = List ℕ} (λ y. 100 ∷ 58 ∷ y) (sym (append_assoc t (59 ∷ r) s))
scalar-front (string q) r s = string-front q r s

pub container-front : (c : Container) (r s : List ℕ) → write_container c (r ++ s) ≡ write_container c r ++ s
container-front array r s = refl
container-front (object q) r s = ap {B = List ℕ} (λ y. 79 ∷ 58 ∷ y) (quoted_front q (58 ∷ r) s)

mutual
  unfolding write

  pub write-front : (v : Value) (r s : List ℕ) → write v (r ++ s) ≡ write v r ++ s
  write-front (leaf x) r s = scalar-front x r s
  write-front (ref n) r s = ap {B = List ℕ} (λ y. tag (ref_kind n.kind) ∷ 58 ∷ y) (number-front n.spelling n.named (59 ∷ r) s)
  write-front (branch h ps) r s =
      ap (λ (y : List ℕ). write_container h.container (write_number h.spelling (count ps) (58 ∷ 123 ∷ y))) (pairs-front ps (125 ∷ r) s)
      ∙ ap (write_container h.container) (number-front h.spelling (count ps) (58 ∷ 123 ∷ write_pairs ps (125 ∷ r)) s)
      ∙ container-front h.container (write_number h.spelling (count ps) (58 ∷ 123 ∷ write_pairs ps (125 ∷ r))) s

  pub pairs-front : (ps : Values) (r s : List ℕ) → write_pairs ps (r ++ s) ≡ write_pairs ps r ++ s
  pairs-front none r s = refl
  pairs-front (pair k v ps) r s =
      ap (λ (y : List ℕ). write_key k (write v y)) (pairs-front ps r s) ∙ ap (write_key k) (write-front v (write_pairs ps r) s)
      ∙ key-front k (write v (write_pairs ps r)) s

-- ---- lengths
pub number-length : (w : Spelling) (n : ℕ) (r : List ℕ)
    → length (write_number w n r) ≡ length (plus_text w.plus) + w.zeros + length (decimal n) + length r
number-length w n r =
    omega (arith, length-append (number_text w n) r, length-append (plus_text w.plus) (spelled w.zeros n), spelled-length w.zeros n)

-- however it is spelled
pub number-adds : (w : Spelling) (n : ℕ) (r : List ℕ) → length (write_number w n r) ≡ length (write_number w n []) + length r
number-adds w n r = ap length (number-front w n [] r) ∙ length-append (write_number w n []) r

pub quoted_length : (q : Quoted) (r : List ℕ)
    → length (write_quoted q r) ≡ length (plus_text q.spelling.plus) + q.spelling.zeros + length (decimal (length q.text)) + length q.text + length r + 3
quoted_length q r = number-length q.spelling (length q.text) (byte ":" ∷ byte "\"" ∷ q.text ++ (byte "\"" ∷ r)) ∙ simp length-append (omega arith)
