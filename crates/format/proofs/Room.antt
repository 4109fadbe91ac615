-- More room, same answer, in any form of writing. Assumes nothing.
use mathlib.Core.Path.{◌≡◌, refl}
use mathlib.Core.List.{List, [], ◌∷◌}
use mathlib.Core.Bool.{Bool, true, false}
use Prim.Native.Nat.{ℕ, zero, suc, ◌+◌, ◌≤◌}
use native.Mathlib.Omega.{arith}
use lib.Dec.{leb}
use lib.ListN.{length}
use borrow.Author.Tests.{lt-ltb, le-ltb}
use Rattle.decimal.proofs.Decide.{Order, below, above, order}
use Rattle.format.specs.Kind.{Kind, kinds, key_kinds}
use Rattle.format.specs.Tree.{nodes}
use Rattle.format.specs.Syntax.{Key}
use Rattle.format.specs.Limits.{Terms, Seen, unseen, see_branch, see, source_limit, depth_limit}
use Rattle.format.specs.Answer.{Answer, ok, refused, ◌>>=◌, require}
use Rattle.format.specs.Read.{Form, Setting, setting_in, position, is_array, Inner, tag_of, room_for, read_key, read_pairs, read_branch, read_reference}
use Rattle.format.specs.Read.{read_scalar, read_body, read_value, read_in}

-- two answers, the second with more room: the same, or a refusal 7 before
pub data Agree {A : Type 0} (a b : Answer A) : Type 0 where
  same : a ≡ b → Agree a b
  full : (p : ℕ) → a ≡ refused 7 p → Agree a b

agree : {A : Type 0} (a : Answer A) → Agree a a
agree a = same refl

bind-same : {A B : Type 0} (a : Answer A) (f g : A → Answer B) → ((x : A) → Agree (f x) (g x)) → Agree (a >>= f) (a >>= g)
bind-same (ok x) f g h = h x
bind-same (refused n p) f g h = same refl

pub agree-bind : {A B : Type 0} (a b : Answer A) (f g : A → Answer B) → Agree a b → ((x : A) → Agree (f x) (g x)) → Agree (a >>= f) (b >>= g)
agree-bind a b f g (same e) h = rw e (bind-same b f g h)
agree-bind a b f g (full p e) h = rw e (full p refl)

-- the same terms but for as much room or more
pub record Roomier (small large : Terms) : Type 0 where
  pub more : small.capacity ≤ large.capacity

module _ (form : Form) (size : ℕ) (c d : Terms) (le : Roomier c d) where
  abbrev lo : Setting
  lo = record { form = form; size = size; terms = c }

  abbrev hi : Setting
  hi = record { form = form; size = size; terms = d }

  room-agree : (before l : ℕ) → Agree (room_for lo before l) (room_for hi before l)
  room-agree before l = go (order before c.capacity)
    where
      go : Order before c.capacity → Agree (room_for lo before l) (room_for hi before l)
      go (below h) = same (rw (lt-ltb before c.capacity h, lt-ltb before d.capacity (omega (arith, le.more))))
      go (above h) = full l (rw (le-ltb before c.capacity h))

  key-agree : (a : Bool) (earlier : List Key) (before : ℕ) (s : List ℕ) → Agree (read_key lo a earlier before s) (read_key hi a earlier before s)
  unfolding read_key
  key-agree a earlier before s =
      let l : ℕ = position lo s in
      bind-same (tag_of form.first (key_kinds a) 4 l s) _ _ (λ k.
      agree-bind (room_for lo before l) (room_for hi before l) _ _ (room-agree before l) (λ u. agree _))

  module _ (f g : Inner) (inner : (seen : Seen) (before : ℕ) (s : List ℕ) → Agree (f seen before s) (g seen before s)) where
    pairs-agree : (a : Bool) (n : ℕ) (earlier : List Key) (seen : Seen) (before : ℕ) (s : List ℕ)
        → Agree (read_pairs lo f a n earlier seen before s) (read_pairs hi g a n earlier seen before s)
    pairs-agree a zero earlier seen before s = agree _
    pairs-agree a (suc n) earlier seen before s =
        agree-bind (read_key lo a earlier before s) (read_key hi a earlier before s) _ _ (key-agree a earlier before s) (λ k.
        agree-bind (f seen (suc before) k.1) (g seen (suc before) k.1) _ _ (inner seen (suc before) k.1) (λ v.
        let on : ℕ = suc (before + nodes v.0) in
        agree-bind (read_pairs lo f a n (k.0 ∷ earlier) (see seen v.0) on v.1) (read_pairs hi g a n (k.0 ∷ earlier) (see seen v.0) on v.1) _ _
        (pairs-agree a n (k.0 ∷ earlier) (see seen v.0) on v.1) (λ ps. agree _)))

    branch-agree : (a : Bool) (l : ℕ) (seen : Seen) (before : ℕ) (s : List ℕ)
        → Agree (read_branch lo f a l seen before s) (read_branch hi g a l seen before s)
    unfolding read_branch
    branch-agree a l seen before s =
        bind-same (form.head_text a l s) _ _ (λ h.
        let b : Bool = is_array h.0.0 in
        let n : ℕ = h.0.1.1 in
        agree-bind (read_pairs lo f b n [] (see_branch seen) (suc before) h.1) (read_pairs hi g b n [] (see_branch seen) (suc before) h.1) _ _
        (pairs-agree b n [] (see_branch seen) (suc before) h.1) (λ ps. agree _))

    body-agree : (k : Kind) (l : ℕ) (seen : Seen) (before : ℕ) (s : List ℕ) → Agree (read_body lo f k l seen before s) (read_body hi g k l seen before s)
    unfolding read_body read_reference read_scalar
    body-agree Kind.null l seen before s = agree _
    body-agree Kind.bool l seen before s = agree _
    body-agree Kind.int l seen before s = agree _
    body-agree Kind.float l seen before s = agree _
    body-agree Kind.string l seen before s = agree _
    body-agree Kind.array l seen before s = branch-agree true l seen before s
    body-agree Kind.object l seen before s = branch-agree false l seen before s
    body-agree Kind.object_reference l seen before s = agree _
    body-agree Kind.variable_reference l seen before s = agree _

  value-agree : (levels : ℕ) (seen : Seen) (before : ℕ) (s : List ℕ) → Agree (read_value lo levels seen before s) (read_value hi levels seen before s)
  value-agree zero seen before s = agree _
  value-agree (suc n) seen before s =
      let l : ℕ = position lo s in
      bind-same (tag_of form.first kinds 3 l s) _ _ (λ k.
      agree-bind (room_for lo before l) (room_for hi before l) _ _ (room-agree before l) (λ u.
      body-agree (read_value lo n) (read_value hi n) (λ t b z. value-agree n t b z) k.0 l seen before k.1))

-- MORE ROOM, SAME ANSWER: or a refusal 7 before
pub more_room : (form : Form) (source : List ℕ) (small large : Terms) → Roomier small large → Agree (read_in form small source) (read_in form large source)
unfolding read_in
more_room form source c d le =
    bind-same (require (leb (length source) source_limit) 1 0) _ _ (λ u.
    agree-bind (read_value (setting_in form c source) depth_limit unseen 0 source) (read_value (setting_in form d source) depth_limit unseen 0 source) _ _
    (value-agree form (length source) c d le depth_limit unseen 0 source) (λ v. agree _))
