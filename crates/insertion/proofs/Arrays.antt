-- The array that `array_at` gives is the one that stands at the node. Assumes nothing.
use mathlib.Core.Path.{◌≡◌, refl, ap, ◌∙◌, subst}
use mathlib.Core.List.{◌∷◌}
use mathlib.Core.Bool.{Bool, true, false}
use Prim.Native.Nat.{ℕ, zero, suc, ◌+◌, ◌-◌, ◌≤◌, ◌<◌}
use native.Mathlib.Omega.{arith}
use lib.Dec.{ltb}
use borrow.Author.Tests.{ltb-false, lt-ltb, le-ltb}
use Rattle.format.specs.Tree.{leaf, ref, branch, none, pair, TreePath, nodes, nodes_in}
use Rattle.format.specs.Syntax.{array, object, Key, Container, Value, Values}
use Rattle.format.specs.Answer.{Answer, ok, ◌>>=◌, require}
use Rattle.format.specs.Read.{is_array}
use Rattle.format.specs.Writing.{Site, under, array_at, array_in}
use Rattle.format.proofs.Answers.{ok_same, not_both, bind_ok}
use Rattle.insertion.specs.Ways.{WayTo, found, inside, WayIn, first, later}

-- in pairs, the first of which has place q
record Below (ps : Values) (node q : ℕ) (s : Site) : Type 0 where
  place : ℕ
  path : TreePath
  is : (q + place) ∷ path ≡ s.path
  way : WayIn ps node place path s.pairs

is-array : (c : Container) → (x : Unit {0}) → require (is_array c) 11 0 ≡ ok x → c ≡ array
is-array array x e = refl
is-array (object q) x e = absurd (not_both e)

-- in the first pair's value, or in the others
abbrev from : (v : Value) (ps : Values) (i b : ℕ) → Bool → Answer Site
from v ps i b c = elim c [ true ↦ array_at i v >>= λ s. ok (under b s) | false ↦ array_in (i - nodes v) (suc b) ps ]

step : (k : Key) (v : Value) (ps : Values) (i q : ℕ) (s : Site) (b : Bool) → ltb i (nodes v) ≡ b
    → ((s : Site) → array_at i v ≡ ok s → WayTo v i s.path s.pairs)
    → ((s : Site) → array_in (i - nodes v) (suc q) ps ≡ ok s → Below ps (i - nodes v) (suc q) s)
    → from v ps i q b ≡ ok s → Below (pair k v ps) (suc i) q s
step k v ps i q s true t f g e =
    let a = bind_ok (array_at i v) _ s e in
    let at : q + 0 ≡ q = omega arith in
    subst (Below (pair k v ps) (suc i) q) (ok_same a.2)
    (record { place = 0; path = a.0.path; is = ap (λ (m : ℕ). m ∷ a.0.path) at; way = first k ps (f a.0 a.1) })
step k v ps i q s false t f g e =
    let past : nodes v ≤ i = ltb-false i (nodes v) t in
    let more : i ≡ nodes v + (i - nodes v) = omega arith in
    let b = g s e in
    let at : q + suc b.place ≡ suc q + b.place = omega arith in
    record { place = suc b.place; path = b.path; is = ap (λ (m : ℕ). m ∷ b.path) at ∙ b.is; way = later k v more b.way }

mutual
  pub locates : (v : Value) (node : ℕ) (s : Site) → array_at node v ≡ ok s → WayTo v node s.path s.pairs
  locates (leaf x) node s e = absurd (not_both e)
  locates (ref r) node s e = absurd (not_both e)
  locates (branch h ps) zero s e =
      let a = bind_ok (require (is_array h.container) 11 0) _ s e in
      subst (λ (t : Site). WayTo (branch h ps) 0 t.path t.pairs) (ok_same a.2) (found h ps (is-array h.container a.0 a.1))
  locates (branch h ps) (suc i) s e =
      let b = locates_in ps i 0 s e in
      let at : b.place ≡ 0 + b.place = omega arith in
      subst (λ (a : TreePath). WayTo (branch h ps) (suc i) a s.pairs) (ap (λ (m : ℕ). m ∷ b.path) at ∙ b.is) (inside h b.way)

  locates_in : (ps : Values) (node q : ℕ) (s : Site) → array_in node q ps ≡ ok s → Below ps node q s
  locates_in none i q s e = absurd (not_both e)
  locates_in (pair k v ps) zero q s e = absurd (not_both e)
  locates_in (pair k v ps) (suc i) q s e = step k v ps i q s (ltb i (nodes v)) refl (λ t f. locates v i t f) (λ t f. locates_in ps (i - nodes v) (suc q) t f) e

-- ---- and the other way: the array of a way is given

mutual
  pub nodes-inside : {v : Value} {j : ℕ} {a : TreePath} {qs : Values} → WayTo v j a qs → j + suc (nodes_in qs) ≤ nodes v
  nodes-inside (found h ps c) = omega arith
  nodes-inside (inside h w) = omega (arith, nodes-inside_in w)

  nodes-inside_in : {ps : Values} {j q : ℕ} {a : TreePath} {qs : Values} → WayIn ps j q a qs → j + suc (nodes_in qs) ≤ nodes_in ps
  nodes-inside_in (first k ps w) = omega (arith, nodes-inside w)
  nodes-inside_in (later k v e w) = omega (arith, nodes-inside_in w)

mutual
  pub way-given : {v : Value} {node : ℕ} {a : TreePath} {qs : Values} → WayTo v node a qs → array_at node v ≡ ok (record { path = a; pairs = qs })
  way-given (found h ps c) = rw (c, is_array)
  way-given (inside h {q = q} w) = way-given_in w 0 q (omega arith)

  -- in pairs, the first of which has place b
  way-given_in : {ps : Values} {node q : ℕ} {a : TreePath} {qs : Values} → WayIn ps node q a qs → (b m : ℕ) → m ≡ b + q
      → array_in node b ps ≡ ok (record { path = m ∷ a; pairs = qs })
  way-given_in (first k {v} ps {qs} {i} {a} w) b m e =
      let low : i < nodes v = omega (arith, nodes-inside w) in
      let same : b ≡ m = omega arith in
      ap (from v ps i b) (lt-ltb i (nodes v) low) ∙ ap (λ (s : Answer Site). s >>= λ t. ok (under b t)) (way-given w)
      ∙ ap (λ (n : ℕ). ok (record { path = n ∷ a; pairs = qs })) same
  way-given_in (later k v {ps} {i = i} {j} d w) b m e =
      let past : j - nodes v ≡ i = omega arith in
      ap (from v ps j b) (le-ltb j (nodes v) (omega arith)) ∙ ap (λ (n : ℕ). array_in n (suc b) ps) past ∙ way-given_in w (suc b) m (omega arith)
