-- Equal keys are those that mean the same. Assumes nothing.
use mathlib.Core.Path.{◌≡◌, refl, ap, ap₂, subst}
use mathlib.Core.Logic.{◌↔◌}
use mathlib.Core.List.{List, [], ◌∷◌}
use Prim.Native.Nat.{ℕ}
use lib.Dec.{T, eqb, eqb→eq, eqb_refl}
use Rattle.decimal.proofs.Decide.{and_T, and_left, and_right}
use Rattle.format.specs.Bytes.{same_bytes}
use Rattle.format.specs.Syntax.{int_key, string_key, Key}
use lib.IntN.{ℤ, pos, negsuc}
use Rattle.format.specs.Keys.{same_integer, KeyMeaning, key_meaning, same_meaning, same_key}

pub bytes-equal : (s t : List ℕ) → T (same_bytes s t) → s ≡ t
bytes-equal [] [] h = refl
bytes-equal [] (b ∷ t) h = absurd h
bytes-equal (a ∷ s) [] h = absurd h
bytes-equal (a ∷ s) (b ∷ t) h = ap₂ {C = List ℕ} ◌∷◌ (eqb→eq a b (and_left (eqb a b) (same_bytes s t) h))
    (bytes-equal s t (and_right (eqb a b) (same_bytes s t) h))

bytes_same : (s : List ℕ) → T (same_bytes s s)
bytes_same [] = tt
bytes_same (a ∷ s) = and_T (eqb a a) (same_bytes s s) (eqb_refl a) (bytes_same s)

pub integers-equal : (m n : ℤ) → T (same_integer m n) → m ≡ n
integers-equal (pos m) (pos n) h = ap pos (eqb→eq m n h)
integers-equal (pos m) (negsuc n) h = absurd h
integers-equal (negsuc m) (pos n) h = absurd h
integers-equal (negsuc m) (negsuc n) h = ap negsuc (eqb→eq m n h)

pub integers-same : (m : ℤ) → T (same_integer m m)
integers-same (pos m) = eqb_refl m
integers-same (negsuc m) = eqb_refl m

meanings_equal : (a b : KeyMeaning) → T (same_meaning a b) → a ≡ b
meanings_equal (int_key m) (int_key n) h = ap int_key (integers-equal m n h)
meanings_equal (int_key m) (string_key t) h = absurd h
meanings_equal (string_key s) (int_key n) h = absurd h
meanings_equal (string_key s) (string_key t) h = ap string_key (bytes-equal s t h)

meanings_same : (a : KeyMeaning) → T (same_meaning a a)
meanings_same (int_key m) = integers-same m
meanings_same (string_key t) = bytes_same t

-- "equal keys mean the same", and no others
pub equal-keys : (j k : Key) → T (same_key j k) ↔ (key_meaning j ≡ key_meaning k)
equal-keys j k = (
  meanings_equal (key_meaning j) (key_meaning k),
  λ e. subst (λ (a : KeyMeaning). T (same_meaning (key_meaning j) a)) e (meanings_same (key_meaning j)),
)
