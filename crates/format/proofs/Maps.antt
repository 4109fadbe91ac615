-- Laws of mapping a tree: what it keeps, and two maps after one another. Assumes nothing.
use mathlib.Core.Path.{◌≡◌, refl, ap, ap₂}
use mathlib.Core.List.{List, [], ◌∷◌, ◌++◌, map}
use mathlib.Core.Bool.{Bool}
use Prim.Native.Nat.{ℕ, suc, ◌+◌}
use Rattle.format.specs.Syntax.{KeyOf, int_key, string_key, ScalarOf, null, bool, int, float, string, ContainerOf, array, object, map_key, map_scalar}
use Rattle.format.specs.Syntax.{map_container}
use Rattle.format.specs.Tree.{Tree, leaf, ref, branch, Pairs, none, pair, TreePath, count, nodes, nodes_in, one, only, ordinals, ordinals_in, paths}
use Rattle.format.specs.Tree.{paths_in, map_tree, map_pairs}

-- a statement of every reference
module _ {K L H R : Type 0} (P : R → Type 0) where
  abbrev mutual
    pub Refs : Tree K L H R → Type 0
    Refs (leaf l) = Unit {0}
    Refs (ref r) = P r
    Refs (branch h ps) = RefsIn ps

    pub RefsIn : Pairs K L H R → Type 0
    RefsIn none = Unit {0}
    RefsIn (pair k v ps) = Refs v × RefsIn ps

module _ {K L H R : Type 0} (P : R → Type 0) (all : (r : R) → P r) where
  mutual
    pub refs_all : (v : Tree K L H R) → Refs P v
    refs_all (leaf l) = tt
    refs_all (ref r) = all r
    refs_all (branch h ps) = refs_all_in ps

    refs_all_in : (ps : Pairs K L H R) → RefsIn P ps
    refs_all_in none = tt
    refs_all_in (pair k v ps) = (refs_all v, refs_all_in ps)

module _ {K L H R : Type 0} (P Q : R → Type 0) (weaker : (r : R) → P r → Q r) where
  mutual
    pub refs_map : (v : Tree K L H R) → Refs P v → Refs Q v
    refs_map (leaf l) a = tt
    refs_map (ref r) a = weaker r a
    refs_map (branch h ps) a = refs_map_in ps a

    refs_map_in : (ps : Pairs K L H R) → RefsIn P ps → RefsIn Q ps
    refs_map_in none a = tt
    refs_map_in (pair k v ps) a = (refs_map v a.0, refs_map_in ps a.1)

module _ {K L H R K' L' H' R' : Type 0} (fk : K → K') (fl : L → L') (fh : H → H') (fr : R → R') where
  pub count_map : (ps : Pairs K L H R) → count (map_pairs fk fl fh fr ps) ≡ count ps
  count_map none = refl
  count_map (pair k v ps) = ap suc (count_map ps)

  mutual
    pub nodes-map : (v : Tree K L H R) → nodes (map_tree fk fl fh fr v) ≡ nodes v
    nodes-map (leaf l) = refl
    nodes-map (ref r) = refl
    nodes-map (branch h ps) = ap suc (nodes_in-map ps)

    pub nodes_in-map : (ps : Pairs K L H R) → nodes_in (map_pairs fk fl fh fr ps) ≡ nodes_in ps
    nodes_in-map none = refl
    nodes_in-map (pair k v ps) = ap suc (ap₂ ◌+◌ (nodes-map v) (nodes_in-map ps))

  -- where references keep whether they take an ordinal
  module _ (own : R → Bool) (own' : R' → Bool) (same : (r : R) → own' (fr r) ≡ own r) where
    mutual
      pub ordinals-map : (v : Tree K L H R) → ordinals own' (map_tree fk fl fh fr v) ≡ ordinals own v
      ordinals-map (leaf l) = refl
      ordinals-map (ref r) = ap one (same r)
      ordinals-map (branch h ps) = ap suc (ordinals_in-map ps)

      pub ordinals_in-map : (ps : Pairs K L H R) → ordinals_in own' (map_pairs fk fl fh fr ps) ≡ ordinals_in own ps
      ordinals_in-map none = refl
      ordinals_in-map (pair k v ps) = ap₂ ◌+◌ (ordinals-map v) (ordinals_in-map ps)

    mutual
      pub paths-map : (v : Tree K L H R) → paths own' (map_tree fk fl fh fr v) ≡ paths own v
      paths-map (leaf l) = refl
      paths-map (ref r) = ap (λ (b : Bool). only {A = TreePath} b []) (same r)
      paths-map (branch h ps) = ap {B = List TreePath} (λ l. [] ∷ l) (paths_in-map 0 ps)

      pub paths_in-map : (q : ℕ) (ps : Pairs K L H R) → paths_in own' q (map_pairs fk fl fh fr ps) ≡ paths_in own q ps
      paths_in-map q none = refl
      paths_in-map q (pair k v ps) = ap₂ ◌++◌ (ap (map (λ (a : TreePath). q ∷ a)) (paths-map v)) (paths_in-map (suc q) ps)

-- two maps after one another are one that agrees with them on each part, and on the references that are there
module _ {K L H R K₁ L₁ H₁ R₁ K₂ L₂ H₂ R₂ : Type 0}
    (fk : K → K₁) (fl : L → L₁) (fh : H → H₁) (fr : R → R₁)
    (gk : K₁ → K₂) (gl : L₁ → L₂) (gh : H₁ → H₂) (gr : R₁ → R₂)
    (jk : K → K₂) (jl : L → L₂) (jh : H → H₂) (jr : R → R₂)
    (P : R → Type 0)
    (ek : (k : K) → gk (fk k) ≡ jk k) (el : (l : L) → gl (fl l) ≡ jl l)
    (eh : (h : H) → gh (fh h) ≡ jh h) (er : (r : R) → P r → gr (fr r) ≡ jr r) where
  mutual
    pub map-map : (v : Tree K L H R) → Refs P v → map_tree gk gl gh gr (map_tree fk fl fh fr v) ≡ map_tree jk jl jh jr v
    map-map (leaf l) a = ap leaf (el l)
    map-map (ref r) a = ap ref (er r a)
    map-map (branch h ps) a = ap₂ branch (eh h) (map-map_in ps a)

    map-map_in : (ps : Pairs K L H R) → RefsIn P ps → map_pairs gk gl gh gr (map_pairs fk fl fh fr ps) ≡ map_pairs jk jl jh jr ps
    map-map_in none a = refl
    map-map_in (pair k v ps) a = rw (ek k, map-map v a.0, map-map_in ps a.1)

-- the same for keys, scalars and containers
module _ {I S I₁ S₁ I₂ S₂ : Type 0} (f : I → I₁) (g : S → S₁) (f' : I₁ → I₂) (g' : S₁ → S₂) (h : I → I₂) (j : S → S₂)
    (ei : (x : I) → f' (f x) ≡ h x) (es : (t : S) → g' (g t) ≡ j t) where
  pub key-map : (k : KeyOf I S) → map_key f' g' (map_key f g k) ≡ map_key h j k
  key-map (int_key x) = ap int_key (ei x)
  key-map (string_key t) = ap string_key (es t)

  pub scalar-map : (x : ScalarOf I S) → map_scalar f' g' (map_scalar f g x) ≡ map_scalar h j x
  scalar-map null = refl
  scalar-map (bool b) = refl
  scalar-map (int x) = ap int (ei x)
  scalar-map (float t) = refl
  scalar-map (string t) = ap string (es t)

pub container-map : {S S₁ S₂ : Type 0} (g : S → S₁) (g' : S₁ → S₂) (j : S → S₂) → ((t : S) → g' (g t) ≡ j t) → (c : ContainerOf S)
    → map_container g' (map_container g c) ≡ map_container j c
container-map g g' j e array = refl
container-map g g' j e (object t) = ap object (e t)
