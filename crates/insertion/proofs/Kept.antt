-- A plan stays valid by inserting, with two nodes and one number more. Assumes nothing.
use mathlib.Core.Path.{◌≡◌, sym, ◌∙◌}
use mathlib.Core.List.{List, [], ◌∷◌}
use mathlib.Core.Bool.{Bool, true, false, not, ◌||◌}
use Prim.Native.Nat.{ℕ, zero, suc, ◌+◌, ◌-◌, ◌≤◌, ◌<◌}
use native.Mathlib.Omega.{arith}
use lib.Dec.{T, T_not, not_T}
use lib.ListN.{length}
use Rattle.decimal.proofs.Decide.{Order, below, above, order}
use Rattle.format.specs.Tree.{leaf, ref, branch, none, pair, TreePath, count, nodes, nodes_in, ordinals, ordinals_in, map_tree, map_pairs}
use Rattle.format.specs.Syntax.{Key, Scalar, Container, Reference, Value, Values, own, print}
use Rattle.format.specs.Keys.{same_key, has_key}
use Rattle.format.specs.Limits.{source_limit, depth_limit, Seen, unseen}
use Rattle.format.specs.Fits.{KeyFits, ScalarFits, allowed, Sound, SoundIn, Backward, BackwardIn, Shallow, ShallowIn, Valid}
use Rattle.format.specs.Edit.{put_pair, at_place, at_path, keys, ordinals_upto, ordinals_within, ordinals_before, new_ordinal, raised, renumbered, count_shortest}
use Rattle.format.specs.Edit.{insert}
use Rattle.format.proofs.Keys.{equal-keys}
use Rattle.format.proofs.Maps.{nodes-map, ordinals-map}
use Rattle.format.proofs.OneText.{Taken, paths-length}
use Rattle.insertion.specs.Ways.{WayTo, found, inside, WayIn, first, later}
use Rattle.insertion.proofs.Grown.{grown, grown-length}
use Rattle.insertion.proofs.Meanings.{raised-low, raised_high, raised-own}
use Rattle.insertion.proofs.Sizes.{write_longer, limited}

-- ---- keys stay different
nor_left : (a b : Bool) → T (not (a || b)) → T (not a)
nor_left true b h = h
nor_left false b h = tt

nor_right : (a b : Bool) → T (not (a || b)) → T (not b)
nor_right true b h = absurd h
nor_right false b h = h

nor_T : (a b : Bool) → T (not a) → T (not b) → T (not (a || b))
nor_T true b h k = h
nor_T false b h k = k

other_key : (j k : Key) → T (not (same_key j k)) → T (not (same_key k j))
other_key j k h = not_T (same_key k j) (λ t. T_not (same_key j k) h ((equal-keys j k).1 (sym ((equal-keys k j).0 t))))

module _ (c : Container) (k : Key) where
  -- whatever key is new among some keys, and is not k, is new among others
  abbrev Widens : List Key → List Key → Type 0
  Widens js is = (j : Key) → T (not (same_key j k)) → T (not (has_key j js)) → T (not (has_key j is))

  widens_more : (i : Key) (js is : List Key) → Widens js is → Widens (i ∷ js) (i ∷ is)
  widens_more i js is w j n m = nor_T (same_key j i) (has_key j is) (nor_left (same_key j i) (has_key j js) m) (w j n (nor_right (same_key j i) (has_key j js) m))

  sound-after : (js is : List Key) (ps : Values) → Widens js is → T (not (has_key k (keys ps))) → SoundIn c js ps → SoundIn c is ps
  sound-after js is none w n s = tt
  sound-after js is (pair j v ps) w n s = (
    s.0,
    s.1,
    w j (other_key k j (nor_left (same_key k j) (has_key k (keys ps)) n)) s.2,
    s.3,
    sound-after (j ∷ js) (j ∷ is) ps (widens_more j js is w) (nor_right (same_key k j) (has_key k (keys ps)) n) s.4,
  )

  sound-put : (x : Scalar) → KeyFits k → T (allowed c k) → ScalarFits x → (p : ℕ) (js : List Key) (ps : Values) → T (not (has_key k js))
      → T (not (has_key k (keys ps))) → SoundIn c js ps → SoundIn c js (put_pair p k (leaf x) ps)
  sound-put x f a g zero js ps m n s = (f, a, m, g, sound-after js (k ∷ js) ps (λ j y z. nor_T (same_key j k) (has_key j js) y z) n s)
  sound-put x f a g (suc p) js none m n s = (f, a, m, g, tt)
  sound-put x f a g (suc p) js (pair j v ps) m n s = (
    s.0,
    s.1,
    s.2,
    s.3,
    sound-put x f a g p (j ∷ js) ps (nor_T (same_key k j) (has_key k js) (nor_left (same_key k j) (has_key k (keys ps)) n) m)
        (nor_right (same_key k j) (has_key k (keys ps)) n) s.4,
  )

-- ---- a change of references changes neither keys nor depth
abbrev changed : (Reference → Reference) → Value → Value
changed f v = map_tree (λ j. j) (λ x. x) (λ h. h) f v

abbrev changed_in : (Reference → Reference) → Values → Values
changed_in f ps = map_pairs (λ j. j) (λ x. x) (λ h. h) f ps

module _ (f : Reference → Reference) where
  mutual
    sound-changed : (v : Value) → Sound v → Sound (changed f v)
    sound-changed (leaf x) s = s
    sound-changed (ref r) s = tt
    sound-changed (branch h ps) s = (s.0, sound-changed_in h.container [] ps s.1)

    sound-changed_in : (c : Container) (js : List Key) (ps : Values) → SoundIn c js ps → SoundIn c js (changed_in f ps)
    sound-changed_in c js none s = tt
    sound-changed_in c js (pair k v ps) s = (s.0, s.1, s.2, sound-changed v s.3, sound-changed_in c (k ∷ js) ps s.4)

  mutual
    shallow-changed : (d : ℕ) (v : Value) → Shallow d v → Shallow d (changed f v)
    shallow-changed d (leaf x) s = s
    shallow-changed d (ref r) s = s
    shallow-changed d (branch h ps) s = (s.0, shallow-changed_in (d - 1) ps s.1)

    shallow-changed_in : (d : ℕ) (ps : Values) → ShallowIn d ps → ShallowIn d (changed_in f ps)
    shallow-changed_in d none s = tt
    shallow-changed_in d (pair k v ps) s = (shallow-changed d v s.0, shallow-changed_in d ps s.1)

  -- and one that keeps which references take a number changes no number
  module _ (same : (r : Reference) → own (f r) ≡ own r) where
    ordinals-changed : (v : Value) → ordinals own (changed f v) ≡ ordinals own v
    ordinals-changed v = ordinals-map (λ j. j) (λ x. x) (λ h. h) f own own same v

    -- where all that is named below n stays, references before n stay backward
    module _ (n : ℕ) (low : (r : Reference) → r.named < n → f r ≡ r) where
      mutual
        backward-before : (seen : Seen) (v : Value) → seen + ordinals own v < n → Backward seen v → Backward seen (changed f v)
        backward-before t (leaf x) m b = tt
        backward-before t (ref r) m b = rw (low r (omega arith)) b
        backward-before t (branch h ps) m b = backward-before_in (suc t) ps (omega arith) b

        backward-before_in : (seen : Seen) (ps : Values) → seen + ordinals_in own ps < n → BackwardIn seen ps → BackwardIn seen (changed_in f ps)
        backward-before_in t none m b = tt
        backward-before_in t (pair k v ps) m b =
            (backward-before t v (omega arith) b.0, rw (ordinals-changed v) (backward-before_in (t + ordinals own v) ps (omega arith) b.1))

-- ---- references raised stay backward
module _ (n : ℕ) where
  ordinals-same : (v : Value) → ordinals own (renumbered n v) ≡ ordinals own v
  ordinals-same v = ordinals-changed (raised n) (raised-own n) v

  taken_more : (t : ℕ) (r : Reference) → Taken t r → Taken (suc t) (raised n r)
  taken_more t r b = go (order r.named n)
    where
      go : Order r.named n → Taken (suc t) (raised n r)
      go (below h) = rw (raised-low n r h) (omega arith)
      go (above h) = rw (raised_high n r h) (omega arith)

  -- behind the new value every number seen is one higher
  mutual
    backward-after : (seen : Seen) (v : Value) → Backward seen v → Backward (suc seen) (renumbered n v)
    backward-after t (leaf x) b = tt
    backward-after t (ref r) b = taken_more t r b
    backward-after t (branch h ps) b = backward-after_in (suc t) ps b

    backward-after_in : (seen : Seen) (ps : Values) → BackwardIn seen ps → BackwardIn (suc seen) (changed_in (raised n) ps)
    backward-after_in t none b = tt
    backward-after_in t (pair k v ps) b =
        let e : suc t + ordinals own v ≡ suc (t + ordinals own v) = omega arith in
        (backward-after t v b.0, rw (ordinals-same v, e) (backward-after_in (t + ordinals own v) ps b.1))

  -- before it nothing changes
  unraised : (seen : Seen) (v : Value) → seen + ordinals own v < n → Backward seen v → Backward seen (renumbered n v)
  unraised t v m b = backward-before (raised n) (raised-own n) n (raised-low n) t v m b

-- ---- one pair more
module _ (p : ℕ) (k : Key) (x : Scalar) where
  abbrev put : TreePath → Value → Value
  put a v = at_path count_shortest (put_pair p k (leaf x)) a v

  mutual
    sound-put-at : {v : Value} {i : ℕ} {a : TreePath} {qs : Values} → WayTo v i a qs → KeyFits k → ScalarFits x → T (not (has_key k (keys qs))) → Sound v
        → Sound (put a v)
    sound-put-at (found h ps c) f g n s = let any : T (allowed h.container k) = rw c tt in (s.0, sound-put h.container k x f any g p [] ps tt n s.1)
    sound-put-at (inside h w) f g n s = (s.0, sound-put_in w h.container [] f g n s.1)

    sound-put_in : {ps : Values} {i q : ℕ} {a : TreePath} {qs : Values} → WayIn ps i q a qs → (c : Container) (js : List Key) → KeyFits k → ScalarFits x
        → T (not (has_key k (keys qs)))
        → SoundIn c js ps → SoundIn c js (at_place q (put a) ps)
    sound-put_in (first j ps w) c js f g n s = (s.0, s.1, s.2, sound-put-at w f g n s.3, s.4)
    sound-put_in (later j v e w) c js f g n s = (s.0, s.1, s.2, s.3, sound-put_in w c (j ∷ js) f g n s.4)

  shallow-put : (p d : ℕ) (ps : Values) → 1 ≤ d → ShallowIn d ps → ShallowIn d (put_pair p k (leaf x) ps)
  shallow-put zero d ps h s = (h, s)
  shallow-put (suc p) d none h s = (h, tt)
  shallow-put (suc p) d (pair j v ps) h s = (s.0, shallow-put p d ps h s.1)

  mutual
    shallow-put-at : {v : Value} {i : ℕ} {a : TreePath} {qs : Values} → WayTo v i a qs → (d : ℕ) → suc (length a) < d → Shallow d v → Shallow d (put a v)
    shallow-put-at (found h ps c) d m s = (s.0, shallow-put p (d - 1) ps (omega arith) s.1)
    shallow-put-at (inside h w) d m s = (s.0, shallow-put_in w (d - 1) (omega arith) s.1)

    shallow-put_in : {ps : Values} {i q : ℕ} {a : TreePath} {qs : Values} → WayIn ps i q a qs → (d : ℕ) → suc (length a) < d → ShallowIn d ps
        → ShallowIn d (at_place q (put a) ps)
    shallow-put_in (first j ps w) d m s = (shallow-put-at w d m s.0, s.1)
    shallow-put_in (later j v e w) d m s = (s.0, shallow-put_in w d m s.1)

  nodes-put : (p : ℕ) (ps : Values) → nodes_in (put_pair p k (leaf x) ps) ≡ nodes_in ps + 2
  nodes-put zero ps = omega arith
  nodes-put (suc p) none = omega arith
  nodes-put (suc p) (pair j v ps) = omega (arith, nodes-put p ps)

  mutual
    nodes-put-at : {v : Value} {i : ℕ} {a : TreePath} {qs : Values} → WayTo v i a qs → nodes (put a v) ≡ nodes v + 2
    nodes-put-at (found h ps c) = omega (arith, nodes-put p ps)
    nodes-put-at (inside h w) = omega (arith, nodes-put_in w)

    nodes-put_in : {ps : Values} {i q : ℕ} {a : TreePath} {qs : Values} → WayIn ps i q a qs → nodes_in (at_place q (put a) ps) ≡ nodes_in ps + 2
    nodes-put_in (first j ps w) = omega (arith, nodes-put-at w)
    nodes-put_in (later j v e w) = omega (arith, nodes-put_in w)

  ordinals-put : {v : Value} {i : ℕ} {a : TreePath} {qs : Values} → WayTo v i a qs → p ≤ count qs → ordinals own (put a v) ≡ suc (ordinals own v)
  ordinals-put {v} {a = a} w m = omega (arith, paths-length own (put a v), grown-length (grown count_shortest p k x w m), paths-length own v)

  module _ (n : ℕ) where
    backward-put : (p : ℕ) (seen : Seen) (ps : Values) → p ≤ count ps → n ≡ suc (seen + ordinals_upto own p ps) → BackwardIn seen ps
        → BackwardIn seen (changed_in (raised n) (put_pair p k (leaf x) ps))
    backward-put zero t ps m e b = let i : t + 1 ≡ suc t = omega arith in (tt, rw i (backward-after_in n t ps b))
    backward-put (suc p) t none m e b = absurd (omega arith)
    backward-put (suc p) t (pair j v ps) m e b =
        (unraised n t v (omega arith) b.0, rw (ordinals-same n v) (backward-put p (t + ordinals own v) ps (omega arith) (omega arith) b.1))

    mutual
      backward-put-at : {v : Value} {i : ℕ} {a : TreePath} {qs : Values} → WayTo v i a qs → p ≤ count qs → (seen : Seen)
          → n ≡ suc (seen + ordinals_before own a p v) → Backward seen v
          → Backward seen (renumbered n (put a v))
      backward-put-at (found h ps c) m t e b = backward-put p (suc t) ps m (omega arith) b
      backward-put-at (inside h w) m t e b = backward-put_in w m (suc t) (omega arith) b

      backward-put_in : {ps : Values} {i q : ℕ} {a : TreePath} {qs : Values} → WayIn ps i q a qs → p ≤ count qs → (seen : Seen)
          → n ≡ suc (seen + ordinals_within own q (ordinals_before own a p) ps) → BackwardIn seen ps
          → BackwardIn seen (changed_in (raised n) (at_place q (put a) ps))
      backward-put_in (first j {v} ps {a = a} w) m t e b =
          let i : t + suc (ordinals own v) ≡ suc (t + ordinals own v) = omega arith in
          (backward-put-at w m t e b.0, rw (ordinals-same n (put a v), ordinals-put w m, i) (backward-after_in n (t + ordinals own v) ps b.1))
      backward-put_in (later j v d w) m t e b =
          (unraised n t v (omega arith) b.0, rw (ordinals-same n v) (backward-put_in w m (t + ordinals own v) (omega arith) b.1))

-- ---- the whole plan
module _ {v : Value} {node : ℕ} {a : TreePath} {qs : Values} (way : WayTo v node a qs) (p : ℕ) (within : p ≤ count qs) (k : Key) (x : Scalar) where
  pub nodes-insert : nodes (insert a p k x v) ≡ nodes v + 2
  unfolding insert
  nodes-insert = nodes-map (λ j. j) (λ y. y) (λ h. h) (raised (new_ordinal a p v)) (put p k x a v) ∙ nodes-put-at p k x way

  pub ordinals-insert : ordinals own (insert a p k x v) ≡ suc (ordinals own v)
  unfolding insert
  ordinals-insert = ordinals-same (new_ordinal a p v) (put p k x a v) ∙ ordinals-put p k x way within

  backward-insert : Backward unseen v → Backward unseen (insert a p k x v)
  unfolding insert
  backward-insert b = backward-put-at p k x (new_ordinal a p v) way within unseen (omega arith) b

  pub insert-valid : KeyFits k → ScalarFits x → T (not (has_key k (keys qs))) → suc (length a) < depth_limit → length (print (insert a p k x v)) ≤ source_limit
      → Valid v → Valid (insert a p k x v)
  unfolding insert
  insert-valid kf xf new deep short f =
      let w : Value = insert a p k x v in
      record {
        short = short;
        shallow = shallow-changed (raised (new_ordinal a p v)) depth_limit (put p k x a v) (shallow-put-at p k x way depth_limit deep f.shallow);
        backward = backward-insert f.backward;
        sound = sound-changed (raised (new_ordinal a p v)) (put p k x a v) (sound-put-at p k x way kf xf new f.sound);
        limited = limited w unseen (backward-insert f.backward) (omega (arith, write_longer w []));
      }
