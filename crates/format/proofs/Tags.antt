-- A match on a tag byte says whether it is among some kinds. Assumes nothing.
use mathlib.Core.Path.{◌≡◌, refl, sym, ◌∙◌, subst}
use mathlib.Core.Logic.{◌⊎◌, inl, inr, ⊎_elim}
use mathlib.Core.Bool.{Bool, true, false, ◌||◌, ◌&&◌}
use mathlib.Core.List.{List, [], ◌∷◌}
use Prim.Native.Nat.{ℕ}
use lib.Dec.{T, eqb, eqb→eq}
use borrow.Author.Tests.{ne_eqb}
use Rattle.decimal.proofs.Decide.{T_true, and_left, and_right}
use Rattle.format.specs.Kind.{Kind, tag, is_tag_of}
use Rattle.format.proofs.Floats.{or_cases}

-- what an arm of a match says of a byte: it is one of the arm's tags, which the compiler puts in the order of their numbers
abbrev pub Arm : List Kind → ℕ → Type 0
Arm [] b = ⊥
Arm (k ∷ []) b = b ≡ tag k
Arm (k ∷ (j ∷ ks)) b = (b ≡ tag k) ⊎ Arm (j ∷ ks) b

-- and what the last arm says: it is no tag of the arms before, the nearest first
abbrev pub Rest : List (List Kind) → ℕ → Type 0
Rest [] b = Unit {0}
Rest (ks ∷ arms) b = Rest arms b × (Arm ks b → ⊥)

abbrev pub in_arms : List (List Kind) → ℕ → Bool
in_arms [] b = false
in_arms (ks ∷ arms) b = is_tag_of ks b || in_arms arms b

-- the tags of some kinds pass a test
abbrev pub all : List Kind → (ℕ → Bool) → Bool
all [] p = true
all (k ∷ ks) p = p (tag k) && all ks p

passes : (p : ℕ → Bool) (ks : List Kind) (b : ℕ) → T (all ks p) → Arm ks b → T (p b)
passes p [] b w a = absurd a
passes p (k ∷ []) b w a = rw a (and_left (p (tag k)) true w)
passes p (k ∷ (j ∷ ks)) b w a =
    ⊎_elim (λ e. rw e (and_left (p (tag k)) (all (j ∷ ks) p) w)) (λ r. passes p (j ∷ ks) b (and_right (p (tag k)) (all (j ∷ ks) p) w) r) a

arm_of : (ks : List Kind) (b : ℕ) → T (is_tag_of ks b) → Arm ks b
arm_of [] b t = t
arm_of (k ∷ []) b t = or_cases (eqb b (tag k)) false (b ≡ tag k) (λ q. eqb→eq b (tag k) q) (λ z. absurd z) t
arm_of (k ∷ (j ∷ ks)) b t =
    or_cases (eqb b (tag k)) (is_tag_of (j ∷ ks) b) (Arm (k ∷ (j ∷ ks)) b) (λ q. inl (eqb→eq b (tag k) q)) (λ q. inr (arm_of (j ∷ ks) b q)) t

outside : (arms : List (List Kind)) (b : ℕ) → Rest arms b → T (in_arms arms b) → ⊥
outside [] b r t = t
outside (ks ∷ arms) b r t = or_cases (is_tag_of ks b) (in_arms arms b) ⊥ (λ q. r.1 (arm_of ks b q)) (λ q. outside arms b r.0 q) t

-- a list of kinds that has all tags of the arm
pub arm_is : (js ks : List Kind) (b : ℕ) → T (all ks (is_tag_of js)) → Arm ks b → true ≡ is_tag_of js b
arm_is js ks b w a = sym (T_true (is_tag_of js b) (passes (is_tag_of js) ks b w a))

-- one that has no others than those of the arms
pub rest_not : (js : List Kind) (arms : List (List Kind)) (b : ℕ) → T (all js (in_arms arms)) → Rest arms b → false ≡ is_tag_of js b
rest_not [] arms b w r = refl
rest_not (k ∷ js) arms b w r =
    rest_not js arms b (and_right (in_arms arms (tag k)) (all js (in_arms arms)) w) r
    ∙ rw (ne_eqb b (tag k) (λ e. outside arms b r (subst (λ (x : ℕ). T (in_arms arms x)) (sym e) (and_left (in_arms arms (tag k)) (all js (in_arms arms)) w))))
