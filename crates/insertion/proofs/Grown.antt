-- Inserting, on the paths of the values that take a number: the old ones shifted, and one more. Assumes nothing.
use mathlib.Core.Path.{◌≡◌, refl, sym, ap, ap₂, ◌∙◌}
use mathlib.Core.List.{List, [], ◌∷◌, ◌++◌, map, map-append, append_assoc}
use Prim.Native.Nat.{ℕ, zero, suc, ◌+◌, ◌-◌, ◌≤◌, ◌<◌}
use native.Mathlib.Omega.{arith}
use lib.ListN.{length, get_or, length-append, length-map, get_or-append, get_or-map}
use lib.Seq.{get_or-append-add}
use borrow.Author.Tests.{le-leb, lt-leb, eq-eqb, ne_eqb}
use Rattle.format.specs.Tree.{leaf, none, pair, TreePath, count, ordinals, paths, paths_in}
use Rattle.format.specs.Syntax.{Key, Scalar, Head, Value, Values, own}
use Rattle.format.specs.Edit.{put_pair, at_place, at_path, ordinals_upto, ordinals_within, ordinals_before}
use Rattle.format.proofs.OneText.{paths-length}
use Rattle.insertion.specs.Shift.{shift}
use Rattle.insertion.specs.Ways.{WayTo, found, inside, WayIn, first, later}

-- ---- a list of paths grown by some at entry n, the others moved
pub record Grown (old new : List TreePath) (n : ℕ) (move : TreePath → TreePath) (added : List TreePath) : Type 0 where
  left : List TreePath
  right : List TreePath
  was : old ≡ left ++ right
  size : length left ≡ n
  is : new ≡ map move left ++ (added ++ map move right)

abbrev down : ℕ → List TreePath → List TreePath
down q xs = map (λ (a : TreePath). q ∷ a) xs

module _ {old new : List TreePath} {n : ℕ} {move : TreePath → TreePath} {added : List TreePath} (g : Grown old new n move added) where
  abbrev rest : List TreePath
  rest = added ++ map move g.right

  grown-front : (xs : List TreePath) (m : ℕ) → length xs ≡ m → map move xs ≡ xs → Grown (xs ++ old) (xs ++ new) (m + n) move added
  grown-front xs m l e = record {
    left = xs ++ g.left;
    right = g.right;
    was = rw g.was (simp append_assoc);
    size = simp length-append (ap₂ ◌+◌ l g.size);
    is = rw (g.is, map-append move xs g.left, e) (simp append_assoc);
  }

  grown-head : move [] ≡ [] → Grown ([] ∷ old) ([] ∷ new) (suc n) move added
  grown-head e = record {
    left = [] ∷ g.left;
    right = g.right;
    was = ap {B = List TreePath} (λ x. [] ∷ x) g.was;
    size = ap suc g.size;
    is = rw (g.is, e);
  }

  grown-back : (xs : List TreePath) → map move xs ≡ xs → Grown (old ++ xs) (new ++ xs) n move added
  grown-back xs e = record {
    left = g.left;
    right = g.right ++ xs;
    was = rw g.was (simp append_assoc);
    size = g.size;
    is = rw (g.is, map-append move g.right xs, e) (simp append_assoc);
  }

  map-down : (q : ℕ) (move' : TreePath → TreePath) → ((a : TreePath) → move' (q ∷ a) ≡ q ∷ move a) → (xs : List TreePath)
      → down q (map move xs) ≡ map move' (down q xs)
  map-down q move' e [] = refl
  map-down q move' e (a ∷ xs) = ap₂ {C = List TreePath} ◌∷◌ (sym (e a)) (map-down q move' e xs)

  grown-down : (q : ℕ) (move' : TreePath → TreePath) → ((a : TreePath) → move' (q ∷ a) ≡ q ∷ move a) → Grown (down q old) (down q new) n move' (down q added)
  grown-down q move' e = record {
    left = down q g.left;
    right = down q g.right;
    was = rw g.was (simp map-append);
    size = length-map g.left (λ (a : TreePath). q ∷ a) ∙ g.size;
    is = rw g.is (simp (map-append, map-down q move' e));
  }

  -- ---- what an entry is afterwards
  pub grown-length : length new ≡ length added + length old
  grown-length = rw (g.is, g.was) (simp (length-append, length-map) (omega arith))

  pub grown-new : (i j : ℕ) → j ≡ n + i → i < length added → get_or new j [] ≡ get_or added i []
  grown-new i j d h =
      let e : j ≡ length (map move g.left) + i = omega (arith, g.size, length-map g.left move) in
      rw (g.is, e) (get_or-append-add (map move g.left) rest i [] ∙ get_or-append added (map move g.right) [] i h)

  module _ (empty : move [] ≡ []) where
    moved_entry : (xs : List TreePath) (i : ℕ) → get_or (map move xs) i [] ≡ move (get_or xs i [])
    moved_entry xs i = ap (get_or (map move xs) i) (sym empty) ∙ get_or-map move xs i []

    pub grown-low : (i : ℕ) → i < n → get_or new i [] ≡ move (get_or old i [])
    grown-low i h =
        let l : i < length g.left = omega (arith, g.size) in
        let l' : i < length (map move g.left) = omega (arith, length-map g.left move) in
        rw (g.is, g.was, get_or-append (map move g.left) rest [] i l', get_or-append g.left g.right [] i l) (moved_entry g.left i)

    pub grown_high : (i j : ℕ) → j ≡ length added + i → n ≤ i → get_or new j [] ≡ move (get_or old i [])
    grown_high i j e h =
        let at : ℕ = i - n in
        let a : j ≡ length (map move g.left) + (length added + at) = omega (arith, g.size, length-map g.left move) in
        let b : i ≡ length g.left + at = omega (arith, g.size) in
        rw (g.is, g.was, a) (get_or-append-add (map move g.left) rest (length added + at) [] ∙ get_or-append-add added (map move g.right) at []
        ∙ moved_entry g.right at ∙ ap move (sym (ap (λ (m : ℕ). get_or (g.left ++ g.right) m []) b ∙ get_or-append-add g.left g.right at [])))

-- ---- what a shift moves
moved-above : (p q : ℕ) → p ≤ q → (xs : List TreePath) → map (shift [] p) (down q xs) ≡ down (suc q) xs
moved-above p q h [] = refl
moved-above p q h (a ∷ xs) = ap₂ {C = List TreePath} ◌∷◌ (rw (le-leb, shift)) (moved-above p q h xs)

fixed_below : (p q : ℕ) → q < p → (xs : List TreePath) → map (shift [] p) (down q xs) ≡ down q xs
fixed_below p q h [] = refl
fixed_below p q h (a ∷ xs) = ap₂ {C = List TreePath} ◌∷◌ (rw (lt-leb, shift)) (fixed_below p q h xs)

shift_same : (b : ℕ) (a : TreePath) (p : ℕ) (c : TreePath) → shift (b ∷ a) p (b ∷ c) ≡ b ∷ shift a p c
shift_same b a p c = rw (eq-eqb b b refl, shift)

shift-other : (b q : ℕ) (a : TreePath) (p : ℕ) → (b ≡ q → ⊥) → (xs : List TreePath) → map (shift (b ∷ a) p) (down q xs) ≡ down q xs
shift-other b q a p n [] = refl
shift-other b q a p n (c ∷ xs) = ap₂ {C = List TreePath} ◌∷◌ (rw (ne_eqb, shift)) (shift-other b q a p n xs)

pub shift-empty : (a : TreePath) (p : ℕ) → shift a p [] ≡ []
shift-empty [] p = refl
shift-empty (q ∷ a) p = refl

-- from place q on, and the new pair at p or before
moved_all : (p q : ℕ) → p ≤ q → (ps : Values) → map (shift [] p) (paths_in own q ps) ≡ paths_in own (suc q) ps
moved_all p q h none = refl
moved_all p q h (pair k v ps) =
    map-append (shift [] p) (down q (paths own v)) (paths_in own (suc q) ps) ∙ ap₂ ◌++◌ (moved-above p q h (paths own v)) (moved_all p (suc q) (omega arith) ps)

-- from place q on, and the new pair in the value at an earlier one
fixed_all : (b q : ℕ) (a : TreePath) (p : ℕ) → b < q → (ps : Values) → map (shift (b ∷ a) p) (paths_in own q ps) ≡ paths_in own q ps
fixed_all b q a p h none = refl
fixed_all b q a p h (pair k v ps) =
    map-append (shift (b ∷ a) p) (down q (paths own v)) (paths_in own (suc q) ps)
    ∙ ap₂ ◌++◌ (shift-other b q a p (λ e. omega arith) (paths own v)) (fixed_all b (suc q) a p (omega arith) ps)

-- ---- one pair more
down-length : (q : ℕ) (v : Value) → length (down q (paths own v)) ≡ ordinals own v
down-length q v = length-map (paths own v) (λ (a : TreePath). q ∷ a) ∙ paths-length own v

module _ (f : Head → Head) (p : ℕ) (k : Key) (x : Scalar) where
  -- at place p of pairs that begin at place b
  grown-pairs : (p b q : ℕ) → b + p ≡ q → (ps : Values) → p ≤ count ps
      → Grown (paths_in own b ps) (paths_in own b (put_pair p k (leaf x) ps)) (ordinals_upto own p ps) (shift [] q) ((q ∷ []) ∷ [])
  grown-pairs zero b q e ps h = record {
    left = [];
    right = paths_in own b ps;
    was = refl;
    size = refl;
    is =
        ap (λ (m : ℕ). (m ∷ []) ∷ paths_in own (suc b) ps) {y = q} (omega arith)
        ∙ ap {B = List TreePath} (λ xs. (q ∷ []) ∷ xs) (sym (moved_all q b (omega arith) ps));
  }
  grown-pairs (suc p) b q e none h = absurd (omega arith)
  grown-pairs (suc p) b q e (pair j v ps) h =
      grown-front (grown-pairs p (suc b) q (omega arith) ps (omega arith)) (down b (paths own v)) (ordinals own v) (down-length b v)
      (fixed_below q b (omega arith) (paths own v))

  abbrev put : TreePath → Value → Value
  put a v = at_path f (put_pair p k (leaf x)) a v

  mutual
    -- THE LAW OF INSERTION: the paths of the values that take a number are the old ones, shifted, and the new value's
    pub grown : {v : Value} {i : ℕ} {a : TreePath} {qs : Values} → WayTo v i a qs → p ≤ count qs
        → Grown (paths own v) (paths own (put a v)) (ordinals_before own a p v) (shift a p) ((a ++ (p ∷ [])) ∷ [])
    grown (found h ps c) m = grown-head (grown-pairs p 0 p (omega arith) ps m) refl
    grown (inside h {q = q} w) m = grown-head (grown_in w 0 q (omega arith) m) refl

    grown_in : {ps : Values} {i q : ℕ} {a : TreePath} {qs : Values} → WayIn ps i q a qs → (b t : ℕ) → b + q ≡ t → p ≤ count qs
        → Grown (paths_in own b ps) (paths_in own b (at_place q (put a) ps)) (ordinals_within own q (ordinals_before own a p) ps) (shift (t ∷ a) p)
        ((t ∷ (a ++ (p ∷ []))) ∷ [])
    grown_in (first k ps {a = a} w) b t e m =
        let d : b ≡ t = omega arith in
        rw d (grown-back (grown-down (grown w m) t (shift (t ∷ a) p) (shift_same t a p)) (paths_in own (suc t) ps) (fixed_all t (suc t) a p (omega arith) ps))
    grown_in (later k v {q = q} {a = a} d w) b t e m =
        grown-front (grown_in w (suc b) t (omega arith) m) (down b (paths own v)) (ordinals own v) (down-length b v)
        (shift-other t b a p (λ c. omega arith) (paths own v))
