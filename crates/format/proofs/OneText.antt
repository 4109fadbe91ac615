-- Demand 2, "the one canonical text of that meaning": the canonical syntax is a function of the meaning. Assumes nothing.
use mathlib.Core.Path.{◌≡◌, refl, sym, ap, ap₂, ◌∙◌}
use mathlib.Core.Logic.{◌↔◌}
use mathlib.Core.List.{List, [], ◌∷◌, ◌++◌, map}
use mathlib.Core.Bool.{Bool, true, false}
use Prim.Native.Nat.{ℕ, zero, suc, ◌+◌, ◌-◌, ◌≤◌, ◌<◌}
use native.Mathlib.Nat.{add-zero, zero-add}
use native.Mathlib.Omega.{arith}
use lib.ListN.{length, get_or, length-append, length-map, get_or-append}
use lib.Seq.{get_or-append-add}
use Rattle.decimal.proofs.Decide.{Order, below, above, order}
use Rattle.format.specs.Kind.{tag, has_ordinal}
use Rattle.format.specs.Tree.{Tree, leaf, ref, branch, Pairs, none, pair, TreePath, one, only, ordinals, ordinals_in, paths, paths_in, map_tree}
use Rattle.format.specs.Syntax.{map_key, map_scalar, map_container, Container, Head, Reference, ref_kind, Value, Values, own, print}
use Rattle.format.specs.Keys.{integer, key_meaning}
use Rattle.format.specs.Fits.{Backward, BackwardIn, Valid}
use Rattle.format.specs.Meaning.{Meaning, meaning, scalar_meaning, HeadMeaning, head_meaning, ReferenceMeaning, reference_meaning}
use Rattle.format.specs.Canonical.{shortest, shortest_int, shortest_quoted, canonical_key, canonical_scalar, canonical_head, canonical_reference}
use Rattle.format.specs.Canonical.{literal_of, quoted_of, canonical}
use Rattle.format.proofs.Maps.{Refs, RefsIn, paths-map, ordinals-map, map-map, key-map, scalar-map, container-map}
use Rattle.format.proofs.NormalForm.{literal-shortest, quoted_bytes, canonical-valid, canonical-meaning}
use Rattle.format.proofs.Unique.{unique}

-- ---- lists
get_d_map_in : {A B : Type 0} (f : A → B) (l : List A) (i : ℕ) (d : A) (d' : B) → i < length l → get_or (map f l) i d' ≡ f (get_or l i d)
get_d_map_in f [] i d d' h = absurd (omega arith)
get_d_map_in f (x ∷ l) zero d d' h = refl
get_d_map_in f (x ∷ l) (suc i) d d' h = get_d_map_in f l i d d' (omega arith)

pub length-only : {A : Type 0} (b : Bool) (a : A) → length (only b a) ≡ one b
length-only true a = refl
length-only false a = refl

pub one-most : (b : Bool) → one b ≤ 1
one-most true = omega arith
one-most false = omega arith

-- ---- the rank of a path: how many ordinals are taken before the value there
module _ {K L H R : Type 0} (own : R → Bool) where
  abbrev mutual
    pub path_rank : Tree K L H R → TreePath → ℕ
    path_rank (leaf l) a = 0
    path_rank (ref r) a = 0
    path_rank (branch h ps) [] = 0
    path_rank (branch h ps) (q ∷ a) = suc (path_rank_in ps q a)

    pub path_rank_in : Pairs K L H R → ℕ → TreePath → ℕ
    path_rank_in none q a = 0
    path_rank_in (pair k v ps) zero a = path_rank v a
    path_rank_in (pair k v ps) (suc q) a = ordinals own v + path_rank_in ps q a

  -- entry i of the paths of pairs that begin at place b leads through some place, and has rank i
  record PathFound (ps : Pairs K L H R) (b i : ℕ) : Type 0 where
    place : ℕ
    rest : TreePath
    is : get_or (paths_in own b ps) i [] ≡ (b + place) ∷ rest
    ranked : path_rank_in ps place rest ≡ i

  mutual
    pub paths-length : (v : Tree K L H R) → length (paths own v) ≡ ordinals own v
    paths-length (leaf l) = refl
    paths-length (ref r) = length-only (own r) []
    paths-length (branch h ps) = ap suc (paths_in-length 0 ps)

    paths_in-length : (q : ℕ) (ps : Pairs K L H R) → length (paths_in own q ps) ≡ ordinals_in own ps
    paths_in-length q none = refl
    paths_in-length q (pair k v ps) = simp (length-append, length-map) (ap₂ ◌+◌ (paths-length v) (paths_in-length (suc q) ps))

  found_first : (k : K) (v : Tree K L H R) (ps : Pairs K L H R) (b i : ℕ) → i < ordinals own v → path_rank v (get_or (paths own v) i []) ≡ i
      → PathFound (pair k v ps) b i
  found_first k v ps b i h e =
      let l : i < length (paths own v) = omega (arith, paths-length v) in
      let under : List TreePath = map (λ (a : TreePath). b ∷ a) (paths own v) in
      record {
        place = 0;
        rest = get_or (paths own v) i [];
        is = get_or-append under (paths_in own (suc b) ps) [] i (omega (arith, length-map (paths own v) (λ (a : TreePath). b ∷ a)))
            ∙ get_d_map_in (λ (a : TreePath). b ∷ a) (paths own v) i [] [] l ∙ ap (λ (q : ℕ). q ∷ get_or (paths own v) i []) (sym (add-zero b));
        ranked = e;
      }

  found-later : (k : K) (v : Tree K L H R) (ps : Pairs K L H R) (b i : ℕ) → ordinals own v ≤ i → PathFound ps (suc b) (i - ordinals own v)
      → PathFound (pair k v ps) b i
  found-later k v ps b i h f =
      let under : List TreePath = map (λ (a : TreePath). b ∷ a) (paths own v) in
      let j : ℕ = i - ordinals own v in
      let i-is : i ≡ length under + j = omega (arith, paths-length v, length-map (paths own v) (λ (a : TreePath). b ∷ a)) in
      record {
        place = suc f.place;
        rest = f.rest;
        is = ap (λ (n : ℕ). get_or (under ++ paths_in own (suc b) ps) n []) i-is ∙ get_or-append-add under (paths_in own (suc b) ps) j [] ∙ f.is
            ∙ ap (λ (q : ℕ). q ∷ f.rest) (omega arith);
        ranked = ap (λ (n : ℕ). ordinals own v + n) f.ranked ∙ omega arith;
      }

  mutual
    pub rank-path : (v : Tree K L H R) (i : ℕ) → i < ordinals own v → path_rank v (get_or (paths own v) i []) ≡ i
    rank-path (leaf l) i h = omega arith
    rank-path (ref r) i h = omega (arith, one-most (own r))
    rank-path (branch h ps) zero l = refl
    rank-path (branch h ps) (suc i) l = through (rank_in_path ps 0 i (omega arith))
      where
        through : PathFound ps 0 i → path_rank (branch h ps) (get_or (paths_in own 0 ps) i []) ≡ suc i
        through f = rw (f.is, zero-add f.place) (ap suc f.ranked)

    rank_in_path : (ps : Pairs K L H R) (b i : ℕ) → i < ordinals_in own ps → PathFound ps b i
    rank_in_path none b i h = absurd (omega arith)
    rank_in_path (pair k v ps) b i h = which (order i (ordinals own v)) (λ l. rank-path v i l) (λ l. rank_in_path ps (suc b) (i - ordinals own v) l)
      where
        which : Order i (ordinals own v) → (i < ordinals own v → path_rank v (get_or (paths own v) i []) ≡ i)
            → (i - ordinals own v < ordinals_in own ps → PathFound ps (suc b) (i - ordinals own v)) → PathFound (pair k v ps) b i
        which (below l) f g = found_first k v ps b i l (f l)
        which (above l) f g = found-later k v ps b i l (g (omega arith))

-- ---- the canonical syntax of a meaning
abbrev head_of : HeadMeaning → Head
head_of h = record { container = map_container quoted_of h; spelling = shortest }

abbrev pub own_meaning : ReferenceMeaning → Bool
own_meaning r = has_ordinal (tag (ref_kind r.kind))

-- the ordinal of the value that is named is one more than its path's rank
abbrev reference_of : Meaning → ReferenceMeaning → Reference
reference_of m r = record { kind = r.kind; spelling = shortest; named = suc (path_rank own_meaning m r.names) }

unfoldable pub canonical_of : Meaning → Value
canonical_of m = map_tree (map_key literal_of quoted_of) (map_scalar literal_of quoted_of) head_of (reference_of m) m

-- every reference names an ordinal that is taken
abbrev pub Taken : (top : ℕ) → Reference → Type 0
Taken top r = (1 ≤ r.named) × (r.named ≤ top)

mutual
  pub refs_taken : (top : ℕ) (v : Value) (seen : ℕ) → Backward seen v → seen + ordinals own v ≤ top → Refs (Taken top) v
  refs_taken top (leaf x) seen b h = tt
  refs_taken top (ref r) seen b h = (b.0, omega (arith, b.1))
  refs_taken top (branch c ps) seen b h = refs_taken_in top ps (suc seen) b (omega arith)

  refs_taken_in : (top : ℕ) (ps : Values) (seen : ℕ) → BackwardIn seen ps → seen + ordinals_in own ps ≤ top → RefsIn (Taken top) ps
  refs_taken_in top none seen b h = tt
  refs_taken_in top (pair k v ps) seen b h = (refs_taken top v seen b.0 (omega arith), refs_taken_in top ps (seen + ordinals own v) b.1 (omega arith))

-- the meaning has the numbering of the syntax
pub meaning-paths : (v : Value) → paths own_meaning (meaning v) ≡ paths own v
unfolding meaning
meaning-paths v = paths-map key_meaning scalar_meaning head_meaning (reference_meaning (paths own v)) own own_meaning (λ r. refl) v

pub meaning-ordinals : (v : Value) → ordinals own_meaning (meaning v) ≡ ordinals own v
unfolding meaning
meaning-ordinals v = ordinals-map key_meaning scalar_meaning head_meaning (reference_meaning (paths own v)) own own_meaning (λ r. refl) v

-- CANONICAL TEXT IS A FUNCTION OF THE MEANING
pub canonical-of-meaning : (v : Value) → Valid v → canonical_of (meaning v) ≡ canonical v
unfolding canonical_of meaning canonical
canonical-of-meaning v f =
    map-map key_meaning scalar_meaning head_meaning (reference_meaning (paths own v)) (map_key literal_of quoted_of) (map_scalar literal_of quoted_of) head_of
    (reference_of (meaning v))
    canonical_key canonical_scalar canonical_head canonical_reference (Taken (ordinals own v))
    (key-map integer quoted_bytes literal_of quoted_of shortest_int shortest_quoted literal-shortest (λ q. refl))
    (scalar-map integer quoted_bytes literal_of quoted_of shortest_int shortest_quoted literal-shortest (λ q. refl))
    (λ h. ap (λ (c : Container). record { container = c; spelling = shortest })
    (container-map quoted_bytes quoted_of shortest_quoted (λ q. refl) h.container)) reference-of v
    (refs_taken (ordinals own v) v 0 f.backward (omega arith))
  where
    reference-of : (r : Reference) → Taken (ordinals own v) r → reference_of (meaning v) (reference_meaning (paths own v) r) ≡ canonical_reference r
    reference-of r t =
        ap (λ (n : ℕ). record { kind = r.kind; spelling = shortest; named = n })
        (ap suc (ap (λ (ps : List TreePath). path_rank own_meaning (meaning v) (get_or ps (r.named - 1) [])) (sym (meaning-paths v))
        ∙ rank-path own_meaning (meaning v) (r.named - 1) (omega (arith, meaning-ordinals v))) ∙ omega arith)

-- ONE CANONICAL TEXT: the same for two plans exactly when their meanings are the same
pub one-canonical-text : (v w : Value) → Valid v → Valid w → (print (canonical v) ≡ print (canonical w)) ↔ (meaning v ≡ meaning w)
one-canonical-text v w f g = (
  λ e. sym (canonical-meaning v) ∙ ap meaning (unique (canonical v) (canonical w) (canonical-valid v f) (canonical-valid w g) e) ∙ canonical-meaning w,
  λ e. ap print (sym (canonical-of-meaning v f) ∙ ap canonical_of e ∙ canonical-of-meaning w g),
)

-- canonical text of canonical text is itself
pub canonical-twice : (v : Value) → Valid v → canonical (canonical v) ≡ canonical v
canonical-twice v f = sym (canonical-of-meaning (canonical v) (canonical-valid v f)) ∙ ap canonical_of (canonical-meaning v) ∙ canonical-of-meaning v f
