-- The plan's form of writing: its kinds are told apart by their tags, and what is read of a text does not depend on where its tag stands. Assumes nothing.
use mathlib.Core.Path.{refl}
use mathlib.Core.List.{List}
use mathlib.Core.Bool.{Bool, true, false, ◌||◌}
use Prim.Native.Nat.{ℕ, ◌≤◌}
use native.Mathlib.Omega.{arith}
use lib.Dec.{leb, ltb, eqb}
use lib.ListN.{length, take, drop}
use Rattle.decimal.specs.Digits.{digits_of, value}
use Rattle.decimal.proofs.Decide.{Test, passed, failed, test}
use Rattle.format.specs.Bytes.{byte, bytes, same_bytes}
use Rattle.format.specs.Kind.{Kind, tag}
use Rattle.format.specs.Syntax.{Scalar}
use Rattle.format.specs.Limits.{number_limit, integer_limit, sign_of, is_float}
use Rattle.format.specs.Answer.{Answer, ok, refused, ◌>>=◌, require}
use Rattle.format.specs.Read.{until, digits, plus_of, number, bool_text, int_text, float_text, quoted_text, scalar_text, count_text, head_text, named_text}
use Rattle.format.specs.Read.{key_text, plan_form}
use Rattle.format.proofs.Forms.{Tagged, AtTag, found, unfit, Steady, expected}
use Rattle.format.proofs.Texts.{head_ok}

pub plan-tagged : Tagged plan_form
plan-tagged Kind.null at = refl
plan-tagged Kind.bool at = refl
plan-tagged Kind.int at = refl
plan-tagged Kind.float at = refl
plan-tagged Kind.string at = refl
plan-tagged Kind.array at = refl
plan-tagged Kind.object at = refl
plan-tagged Kind.object_reference at = refl
plan-tagged Kind.variable_reference at = refl

-- a text that goes on behind another
follow : {A B : Type 0} {l m : ℕ} (a b : Answer A) (f g : A → Answer B) → AtTag l m a b → ((x : A) → AtTag l m (f x) (g x)) → AtTag l m (a >>= f) (b >>= g)
follow a b f g (found x d e) k = rw (d, e) (k x)
follow a b f g (unfit n lo hi d e) k = rw (d, e) (unfit n lo hi refl refl)

done : {A : Type 0} {l m : ℕ} (x : A) → AtTag l m (ok x) (ok x)
done x = found x refl refl

-- a text read behind a tag at `l`, and behind one at `m`
module _ (l m : ℕ) where
  asked : (t : Bool) (n : ℕ) → 2 ≤ n → n ≤ 10 → AtTag l m (require t n l) (require t n m)
  asked true n lo hi = done tt
  asked false n lo hi = unfit n lo hi refl refl

  -- 2, and 5
  formed : (t : Bool) → AtTag l m (require t 2 l) (require t 2 m)
  formed t = asked t 2 (omega arith) (omega arith)

  ranged : (t : Bool) → AtTag l m (require t 5 l) (require t 5 m)
  ranged t = asked t 5 (omega arith) (omega arith)

  no-scalar : AtTag {A = Scalar × List ℕ} l m (refused 3 l) (refused 3 m)
  no-scalar = unfit 3 (omega arith) (omega arith) refl refl

  digits-steady : (top : ℕ) (s : List ℕ) → AtTag l m (digits l top s) (digits m top s)
  unfolding digits
  digits-steady top s = follow _ _ _ _ (formed (ltb 0 (length (digits_of s)))) (λ u. follow _ _ _ _ (ranged (leb (value (digits_of s)) top)) (λ w. done _))

  number-steady : (s : List ℕ) → AtTag l m (number l s) (number m s)
  unfolding number
  number-steady s = follow _ _ _ _ (digits-steady number_limit (plus_of s).1) (λ a. done _)

  bool-steady : (s : List ℕ) → AtTag l m (bool_text l s) (bool_text m s)
  unfolding bool_text
  bool-steady s =
      follow _ _ _ _ (expected l m (bytes ":") s) (λ a.
      follow _ _ _ _ (formed (same_bytes (take 1 a) (bytes "0") || same_bytes (take 1 a) (bytes "1"))) (λ b.
      follow _ _ _ _ (expected l m (bytes ";") (drop 1 a)) (λ c. done _)))

  int-steady : (s : List ℕ) → AtTag l m (int_text l s) (int_text m s)
  unfolding int_text
  int-steady s =
      follow _ _ _ _ (expected l m (bytes ":") s) (λ a.
      follow _ _ _ _ (digits-steady (integer_limit (sign_of a).0) (sign_of a).1) (λ b.
      follow _ _ _ _ (expected l m (bytes ";") b.1) (λ c. done _)))

  float-steady : (s : List ℕ) → AtTag l m (float_text l s) (float_text m s)
  unfolding float_text
  float-steady s =
      follow _ _ _ _ (expected l m (bytes ":") s) (λ a.
      follow _ _ _ _ (formed (is_float (until (byte ";") a))) (λ b.
      follow _ _ _ _ (expected l m (bytes ";") (drop (length (until (byte ";") a)) a)) (λ c. done _)))

  quoted_steady : (close s : List ℕ) → AtTag l m (quoted_text l close s) (quoted_text m close s)
  unfolding quoted_text
  quoted_steady close s =
      follow _ _ _ _ (expected l m (bytes ":") s) (λ a.
      follow _ _ _ _ (number-steady a) (λ b.
      follow _ _ _ _ (expected l m (bytes ":\"") b.1) (λ c.
      follow _ _ _ _ (formed (leb b.0.1 (length c))) (λ d.
      follow _ _ _ _ (expected l m close (drop b.0.1 c)) (λ e. done _)))))

  scalar-steady : (k : Kind) (s : List ℕ) → AtTag l m (scalar_text k l s) (scalar_text k m s)
  unfolding scalar_text
  scalar-steady Kind.null s = follow _ _ _ _ (expected l m (bytes ";") s) (λ a. done _)
  scalar-steady Kind.bool s = follow _ _ _ _ (bool-steady s) (λ a. done _)
  scalar-steady Kind.int s = follow _ _ _ _ (int-steady s) (λ a. done _)
  scalar-steady Kind.float s = follow _ _ _ _ (float-steady s) (λ a. done _)
  scalar-steady Kind.string s = follow _ _ _ _ (quoted_steady (bytes "\";") s) (λ a. done _)
  scalar-steady Kind.array s = no-scalar
  scalar-steady Kind.object s = no-scalar
  scalar-steady Kind.object_reference s = no-scalar
  scalar-steady Kind.variable_reference s = no-scalar

  count-steady : (s : List ℕ) → AtTag l m (count_text l s) (count_text m s)
  unfolding count_text
  count-steady s = follow _ _ _ _ (number-steady s) (λ a. follow _ _ _ _ (expected l m (bytes ":{") a.1) (λ b. done _))

  head-steady : (a : Bool) (s : List ℕ) → AtTag l m (head_text a l s) (head_text a m s)
  unfolding head_text
  head-steady true s = follow _ _ _ _ (expected l m (bytes ":") s) (λ a. follow _ _ _ _ (count-steady a) (λ b. done _))
  head-steady false s = follow _ _ _ _ (quoted_steady (bytes "\":") s) (λ a. follow _ _ _ _ (count-steady a.1) (λ b. done _))

  named-steady : (s : List ℕ) → AtTag l m (named_text l s) (named_text m s)
  unfolding named_text
  named-steady s =
      follow _ _ _ _ (expected l m (bytes ":") s) (λ a.
      follow _ _ _ _ (number-steady a) (λ b.
      follow _ _ _ _ (expected l m (bytes ";") b.1) (λ c. done _)))

  key-steady : (a : Bool) (k : Kind) (s : List ℕ) → AtTag l m (key_text a k l s) (key_text a k m s)
  unfolding key_text
  key-steady a k s = go (test (eqb (tag k) (tag Kind.int)))
    where
      go : Test (eqb (tag k) (tag Kind.int)) → AtTag l m (key_text a k l s) (key_text a k m s)
      go (passed t) = rw (t, key_text) (follow _ _ _ _ (int-steady s) (λ x. done _))
      go (failed t) = rw (t, key_text) (follow _ _ _ _ (quoted_steady (bytes "\";") s) (λ x. done _))

pub plan-steady : Steady plan_form
plan-steady = record {
  scalar = λ k s l m. scalar-steady l m k s;
  key = λ a k s l m. key-steady l m a k s;
  head = λ a s l m. head-steady l m a s;
  named = λ s l m. named-steady l m s;
  container = λ a l s q e. (head_ok a l s q e).container;
}
