-- Demand 3 on meaning: inserting puts in the pair and shifts the paths that references name. Assumes nothing.
use mathlib.Core.Path.{◌≡◌, refl, sym, ap, ap₂, ◌∙◌}
use mathlib.Core.List.{List, [], ◌∷◌, ◌++◌}
use Prim.Native.Nat.{ℕ, zero, suc, ◌-◌, ◌≤◌, ◌<◌}
use native.Mathlib.Omega.{arith}
use lib.ListN.{get_or}
use borrow.Author.Tests.{le-leb, lt-leb}
use Rattle.decimal.proofs.Decide.{Order, below, above, order}
use Rattle.format.specs.Tree.{Tree, leaf, ref, branch, Pairs, none, pair, TreePath, count, ordinals, paths, map_tree, map_pairs}
use Rattle.format.specs.Syntax.{Key, Scalar, Reference, Value, Values, own}
use Rattle.format.specs.Keys.{key_meaning}
use Rattle.format.specs.Fits.{Valid}
use Rattle.format.specs.Meaning.{scalar_meaning, head_meaning, ReferenceMeaning, reference_meaning, meaning}
use Rattle.format.specs.Canonical.{shortest}
use Rattle.format.specs.Edit.{put_pair, at_place, at_path, ordinals_before, new_ordinal, raised, count_shortest, insert}
use Rattle.format.proofs.Maps.{refs_all, paths-map, map-map}
use Rattle.format.proofs.OneText.{Taken, refs_taken}
use Rattle.insertion.specs.Shift.{shift, shifted, insert_meaning}
use Rattle.insertion.specs.Ways.{WayTo}
use Rattle.insertion.proofs.Grown.{Grown, grown-new, grown-low, grown_high, grown, shift-empty}

-- ---- a change and a map may change places
module _ {K L H R K' L' H' R' : Type 0} (fk : K → K') (fl : L → L') (fh : H → H') (fr : R → R') where
  map-put : (p : ℕ) (k : K) (v : Tree K L H R) (ps : Pairs K L H R)
      → map_pairs fk fl fh fr (put_pair p k v ps) ≡ put_pair p (fk k) (map_tree fk fl fh fr v) (map_pairs fk fl fh fr ps)
  map-put zero k v ps = refl
  map-put (suc p) k v none = refl
  map-put (suc p) k v (pair j u ps) = ap (pair (fk j) (map_tree fk fl fh fr u)) (map-put p k v ps)

  map-place : (q : ℕ) (f : Tree K L H R → Tree K L H R) (g : Tree K' L' H' R' → Tree K' L' H' R')
      → ((v : Tree K L H R) → map_tree fk fl fh fr (f v) ≡ g (map_tree fk fl fh fr v))
      → (ps : Pairs K L H R) → map_pairs fk fl fh fr (at_place q f ps) ≡ at_place q g (map_pairs fk fl fh fr ps)
  map-place q f g e none = refl
  map-place zero f g e (pair k v ps) = ap (λ (u : Tree K' L' H' R'). pair (fk k) u (map_pairs fk fl fh fr ps)) (e v)
  map-place (suc q) f g e (pair k v ps) = ap (pair (fk k) (map_tree fk fl fh fr v)) (map-place q f g e ps)

  module _ (g : H → H) (g' : H' → H') (f : Pairs K L H R → Pairs K L H R) (f' : Pairs K' L' H' R' → Pairs K' L' H' R')
      (eg : (h : H) → fh (g h) ≡ g' (fh h)) (ef : (ps : Pairs K L H R) → map_pairs fk fl fh fr (f ps) ≡ f' (map_pairs fk fl fh fr ps)) where
    map-path : (a : TreePath) (v : Tree K L H R) → map_tree fk fl fh fr (at_path g f a v) ≡ at_path g' f' a (map_tree fk fl fh fr v)
    map-path [] (leaf l) = refl
    map-path [] (ref r) = refl
    map-path [] (branch h ps) = ap₂ branch (eg h) (ef ps)
    map-path (q ∷ a) (leaf l) = refl
    map-path (q ∷ a) (ref r) = refl
    map-path (q ∷ a) (branch h ps) = ap (branch (fh h)) (map-place q (at_path g f a) (at_path g' f' a) (λ v. map-path a v) ps)

-- ---- references raised
pub raised-low : (k : ℕ) (r : Reference) → r.named < k → raised k r ≡ r
raised-low k r h = rw (lt-leb k r.named, raised)

pub raised_high : (k : ℕ) (r : Reference) → k ≤ r.named → raised k r ≡ record { kind = r.kind; spelling = shortest; named = suc r.named }
raised_high k r h = rw (le-leb k r.named, raised)

pub raised-own : (k : ℕ) (r : Reference) → own (raised k r) ≡ own r
raised-own k r = go (order r.named k)
  where
    go : Order r.named k → own (raised k r) ≡ own r
    go (below h) = ap own (raised-low k r h)
    go (above h) = ap own (raised_high k r h)

abbrev naming : Reference → TreePath → ReferenceMeaning
naming r a = record { kind = r.kind; names = a }

-- "names the value it named before": a reference, raised, names the shifted path
names-shifted : {old new : List TreePath} {n : ℕ} {path : TreePath} (a : TreePath) (p : ℕ) → Grown old new n (shift a p) (path ∷ []) → (r : Reference)
    → 1 ≤ r.named → shifted a p (reference_meaning old r) ≡ reference_meaning new (raised (suc n) r)
names-shifted {old} {new} {n} a p g r h = go (order r.named (suc n))
  where
    go : Order r.named (suc n) → shifted a p (reference_meaning old r) ≡ reference_meaning new (raised (suc n) r)
    go (below s) = ap (naming r) (sym (grown-low g (shift-empty a p) (r.named - 1) (omega arith))) ∙ ap (reference_meaning new) (sym (raised-low (suc n) r s))
    go (above s) =
        ap (naming r) (sym (grown_high g (shift-empty a p) (r.named - 1) (suc r.named - 1) (omega arith) (omega arith)))
        ∙ ap (reference_meaning new) (sym (raised_high (suc n) r s))

module _ {v : Value} {node : ℕ} {a : TreePath} {qs : Values} (way : WayTo v node a qs) (p : ℕ) (within : p ≤ count qs) (k : Key) (x : Scalar) where
  abbrev opened : Value
  opened = at_path count_shortest (put_pair p k (leaf x)) a v

  same-paths : paths own (insert a p k x v) ≡ paths own opened
  unfolding insert
  same-paths = paths-map (λ j. j) (λ y. y) (λ h. h) (raised (new_ordinal a p v)) own own (raised-own (new_ordinal a p v)) opened

  insert-grown : Grown (paths own v) (paths own (insert a p k x v)) (ordinals_before own a p v) (shift a p) ((a ++ (p ∷ [])) ∷ [])
  insert-grown = rw same-paths (grown count_shortest p k x way within)

  raises : Reference → ReferenceMeaning
  raises r = reference_meaning (paths own (insert a p k x v)) (raised (new_ordinal a p v) r)

  -- DEMAND 3: "The new meaning is the old one with every path that a reference names so shifted and the new pair at place p of that array's pairs."
  pub meaning-insert : Valid v → meaning (insert a p k x v) ≡ insert_meaning a p (key_meaning k) (scalar_meaning x) (meaning v)
  unfolding meaning insert insert_meaning raises
  meaning-insert f =
      let env : List TreePath = paths own (insert a p k x v) in
      map-map (λ j. j) (λ y. y) (λ h. h) (raised (new_ordinal a p v)) key_meaning scalar_meaning head_meaning
      (reference_meaning env) key_meaning scalar_meaning head_meaning raises
      (λ r. Unit {0}) (λ j. refl) (λ y. refl) (λ h. refl) (λ r t. refl) opened (refs_all (λ r. Unit {0}) (λ r. tt) opened)
      ∙ map-path key_meaning scalar_meaning head_meaning raises count_shortest (λ h. h) (put_pair p k (leaf x)) (put_pair p (key_meaning k) (leaf (scalar_meaning x)))
      (λ h. refl)
      (map-put key_meaning scalar_meaning head_meaning raises p k (leaf x)) a v
      ∙ ap (at_path (λ h. h) (put_pair p (key_meaning k) (leaf (scalar_meaning x))) a)
      (sym (map-map key_meaning scalar_meaning head_meaning (reference_meaning (paths own v)) (λ j. j) (λ y. y) (λ h. h)
      (shifted a p) key_meaning scalar_meaning head_meaning raises
      (Taken (ordinals own v)) (λ j. refl) (λ y. refl) (λ h. refl) (λ r t. names-shifted a p insert-grown r t.0) v
      (refs_taken (ordinals own v) v 0 f.backward (omega arith))))

  -- "The new value has number k, and old numbers from k on are one higher."
  pub new-number : get_or (paths own (insert a p k x v)) (new_ordinal a p v - 1) [] ≡ a ++ (p ∷ [])
  new-number = grown-new insert-grown 0 (new_ordinal a p v - 1) (omega arith) (omega arith)

  pub lower-numbers : (t : ℕ) → 1 ≤ t → t < new_ordinal a p v → get_or (paths own (insert a p k x v)) (t - 1) [] ≡ shift a p (get_or (paths own v) (t - 1) [])
  lower-numbers t h l = grown-low insert-grown (shift-empty a p) (t - 1) (omega arith)

  pub higher-numbers : (t : ℕ) → new_ordinal a p v ≤ t → get_or (paths own (insert a p k x v)) t [] ≡ shift a p (get_or (paths own v) (t - 1) [])
  higher-numbers t h = grown_high insert-grown (shift-empty a p) (t - 1) t (omega arith) (omega arith)
