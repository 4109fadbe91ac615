-- 13: the key text is exactly one key, the value text exactly one scalar. Assumes nothing.
use mathlib.Core.Path.{◌≡◌, refl, sym, ap, ap₂, subst}
use mathlib.Core.Logic.{◌⊎◌, inl, inr}
use mathlib.Core.List.{List, [], ◌∷◌}
use mathlib.Core.Bool.{true}
use Prim.Native.Nat.{ℕ}
use native.Mathlib.Omega.{arith}
use Rattle.format.specs.Tree.{leaf, ref, branch}
use Rattle.format.specs.Syntax.{array, Key, Scalar, Value, write_key, write_scalar, write}
use Rattle.format.specs.Limits.{unseen}
use Rattle.format.specs.Fits.{KeyFits, ScalarFits, Sound}
use Rattle.format.specs.Answer.{Answer, ok, refused, ◌>>=◌}
use Rattle.format.specs.Read.{setting, read_key, read_value}
use Rattle.format.specs.Writing.{one_node, exactly, key_of, plain, scalar_of}
use Rattle.format.proofs.Answers.{ok_same, refused-same, not_both, bind_ok, bind-refused}
use Rattle.format.proofs.Printed.{key-printed, scalar-printed}
use Rattle.format.proofs.Inversion.{key-ok, value-ok}

exactly-ok : {A : Type 0} (a : Answer (A × List ℕ)) (x : A) → exactly a ≡ ok x → a ≡ ok (x, [])
exactly-ok {A} (ok (y, [])) x e = ap (λ (z : A). ok (z, [])) (ok_same e)
exactly-ok (ok (y, b ∷ s)) x e = absurd (not_both e)
exactly-ok (refused n p) x e = absurd (not_both e)

plain_ok : (v : Value) (x : Scalar) → plain v ≡ ok x → v ≡ leaf x
plain_ok (leaf y) x e = ap leaf (ok_same e)
plain_ok (ref r) x e = absurd (not_both e)
plain_ok (branch h ps) x e = absurd (not_both e)

pub key-of : (text : List ℕ) (k : Key) → key_of text ≡ ok k → (text ≡ write_key k []) × KeyFits k
unfolding key_of
key-of text k e = let g = key-ok one_node text array [] 0 text (k, []) (exactly-ok (read_key (setting one_node text) true [] 0 text) k e) in (g.text, g.fits)

pub scalar-of : (text : List ℕ) (x : Scalar) → scalar_of text ≡ ok x → (text ≡ write_scalar x []) × ScalarFits x
unfolding scalar_of write
scalar-of text x e =
    let a = bind_ok (exactly (read_value (setting one_node text) 1 unseen 0 text)) plain x e in
    let g = value-ok one_node text 1 unseen 0 text (a.0, []) (exactly-ok (read_value (setting one_node text) 1 unseen 0 text) a.0 a.1) in
    subst (λ (v : Value). (text ≡ write v []) × Sound v) (plain_ok a.0 x a.2) (g.text, g.sound)

pub key-text : (k : Key) → KeyFits k → key_of (write_key k []) ≡ ok k
unfolding key_of
key-text k f = rw (key-printed one_node (write_key k []) array [] 0 k [] (omega arith) f tt tt)

pub scalar-text : (x : Scalar) → ScalarFits x → scalar_of (write_scalar x []) ≡ ok x
unfolding scalar_of
scalar-text x f = rw (scalar-printed one_node (write_scalar x []) 0 unseen 0 x [] (omega arith) f)

-- ---- a refusal is 13 at 0
thirteen : {A : Type 0} (n p : ℕ) → ◌≡◌ {A = Answer A} (refused 13 0) (refused n p) → (n ≡ 13) × (p ≡ 0)
thirteen n p e = let s = refused-same e in (sym s.0, sym s.1)

exactly-refused : {A : Type 0} (a : Answer (A × List ℕ)) (n p : ℕ) → exactly a ≡ refused n p → (n ≡ 13) × (p ≡ 0)
exactly-refused (ok (y, [])) n p e = absurd (not_both (sym e))
exactly-refused (ok (y, b ∷ s)) n p e = thirteen n p e
exactly-refused (refused c q) n p e = thirteen n p e

plain-refused : (v : Value) (n p : ℕ) → plain v ≡ refused n p → (n ≡ 13) × (p ≡ 0)
plain-refused (leaf y) n p e = absurd (not_both (sym e))
plain-refused (ref r) n p e = thirteen n p e
plain-refused (branch h ps) n p e = thirteen n p e

pub key-refused : (text : List ℕ) (n p : ℕ) → key_of text ≡ refused n p → (n ≡ 13) × (p ≡ 0)
unfolding key_of
key-refused text n p e = exactly-refused (read_key (setting one_node text) true [] 0 text) n p e

pub scalar-refused : (text : List ℕ) (n p : ℕ) → scalar_of text ≡ refused n p → (n ≡ 13) × (p ≡ 0)
unfolding scalar_of
scalar-refused text n p e = go (bind-refused (exactly (read_value (setting one_node text) 1 unseen 0 text)) plain n p e)
  where
    go : (exactly (read_value (setting one_node text) 1 unseen 0 text) ≡ refused n p) ⊎
        ((v : Value) × (exactly (read_value (setting one_node text) 1 unseen 0 text) ≡ ok v) × (plain v ≡ refused n p)) → (n ≡ 13) × (p ≡ 0)
    go (inl h) = exactly-refused (read_value (setting one_node text) 1 unseen 0 text) n p h
    go (inr h) = plain-refused h.0 n p h.2

-- ---- both texts: 13 where they are not a key and a scalar
module _ {B : Type 0} (key value : List ℕ) (g : Key → Scalar → Answer B)
    (f : (k : Key) (x : Scalar) → KeyFits k → key ≡ write_key k [] → ScalarFits x → value ≡ write_scalar x [] → ⊥) where
  by_value : (k : Key) → key_of key ≡ ok k → (a : Answer Scalar) → scalar_of value ≡ a → (a >>= λ x. g k x) ≡ refused 13 0
  by_value k d (ok x) e = let kt = key-of key k d in let xt = scalar-of value x e in absurd (f k x kt.1 kt.0 xt.1 xt.0)
  by_value k d (refused n p) e = let s = scalar-refused value n p e in ap₂ refused s.0 s.1

  by_key : (a : Answer Key) → key_of key ≡ a → (a >>= λ k. scalar_of value >>= λ x. g k x) ≡ refused 13 0
  by_key (ok k) e = by_value k e (scalar_of value) refl
  by_key (refused n p) e = let s = key-refused key n p e in ap₂ refused s.0 s.1

  pub texts_refused : (key_of key >>= λ k. scalar_of value >>= λ x. g k x) ≡ refused 13 0
  texts_refused = by_key (key_of key) refl
