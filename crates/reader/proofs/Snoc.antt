-- Laws of pairs to which one is added at the end: their words, and the ordinals that they take. Assumes nothing.
use Rattle.std.proofs.Common.{◌≡◌, ℕ, suc, ◌+◌, ◌-◌, ◌≤◌, Bool, true, false, T, List, [], ◌∷◌, ◌++◌, length, get_or, sym, refl, ap, ◌∙◌, subst, ap₂}
use Rattle.std.proofs.Common.{subst₂, append_assoc, append-nil, add-zero, add-suc, suc-add, arith, length-append}
use Rattle.format.specs.Tree.{leaf, ref, branch, none, pair, nodes, nodes_in, ordinals, ordinals_in, only}
use Rattle.format.specs.Syntax.{Key, Value, Values, own, write, write_key, write_pairs}
use Rattle.format.specs.Answer.{Answer, ok, refused, ◌>>=◌}
use Rattle.format.specs.Table.{Node, words, flat, key_node, table, table_in, value_offset, next_offset, indices, indices_in, target_of}
use Rattle.format.proofs.OneText.{length-only, one-most}
use Rattle.format.proofs.Fronts.{key-front, write-front}
use Rattle.reader.specs.Steps.{Takes, TakesIn}

abbrev joined : Values → Values → Values
joined none qs = qs
joined (pair k v ps) qs = pair k v (joined ps qs)

abbrev pub snoc : Values → Key → Value → Values
snoc ps k v = joined ps (pair k v none)

joined_snoc : (ps : Values) (k : Key) (v : Value) (qs : Values) → joined (snoc ps k v) qs ≡ joined ps (pair k v qs)
joined_snoc none k v qs = refl
joined_snoc (pair j u ps) k v qs = ap (pair j u) (joined_snoc ps k v qs)

joined-none : (ps : Values) → joined ps none ≡ ps
joined-none none = refl
joined-none (pair k v ps) = ap (pair k v) (joined-none ps)

-- pairs read before those of a reading
unfoldable pub onto : Values → Answer (Values × List ℕ) → Answer (Values × List ℕ)
onto ps (ok q) = ok (joined ps q.0, q.1)
onto ps (refused c p) = refused c p

pub onto-none : (o : Answer (Values × List ℕ)) → onto none o ≡ o
unfolding onto
onto-none (ok q) = refl
onto-none (refused c p) = refl

pub onto-done : (ps : Values) (s : List ℕ) → onto ps (ok (none, s)) ≡ ok (ps, s)
unfolding onto
onto-done ps s = ap (λ (x : Values). ok (x, s)) (joined-none ps)

pub onto-refused : (ps : Values) (c p : ℕ) → onto ps (refused c p) ≡ refused c p
unfolding onto
onto-refused ps c p = refl

pub onto-snoc : (ps : Values) (k : Key) (v : Value) (o : Answer (Values × List ℕ)) → onto ps (o >>= λ q. ok (pair k v q.0, q.1)) ≡ onto (snoc ps k v) o
unfolding onto
onto-snoc ps k v (ok q) = ap (λ (x : Values). ok (x, q.1)) (sym (joined_snoc ps k v q.0))
onto-snoc ps k v (refused c p) = refl

-- ---- what they count

pub nodes-snoc : (ps : Values) (k : Key) (v : Value) → nodes_in (snoc ps k v) ≡ nodes_in ps + suc (nodes v)
nodes-snoc none k v = omega arith
nodes-snoc (pair j u ps) k v = omega (arith, nodes-snoc ps k v)

pub ordinals-snoc : (ps : Values) (k : Key) (v : Value) → ordinals_in own (snoc ps k v) ≡ ordinals_in own ps + ordinals own v
ordinals-snoc none k v = omega arith
ordinals-snoc (pair j u ps) k v = omega (arith, ordinals-snoc ps k v)

-- a text in front of another adds its own length
pub key-adds : (k : Key) (r : List ℕ) → length (write_key k r) ≡ length (write_key k []) + length r
key-adds k r = ap length (key-front k [] r) ∙ length-append (write_key k []) r

pub write-adds : (v : Value) (r : List ℕ) → length (write v r) ≡ length (write v []) + length r
write-adds v r = ap length (write-front v [] r) ∙ length-append (write v []) r

pub length-snoc : (ps : Values) (k : Key) (v : Value) → length (write_pairs (snoc ps k v) []) ≡ length (write_pairs ps []) + length (write_key k []) + length
    (write v [])
unfolding write
length-snoc none k v = omega (arith, key-adds k (write v []))
length-snoc (pair j u ps) k v =
    omega (
      arith,
      key-adds j (write u (write_pairs (snoc ps k v) [])),
      write-adds u (write_pairs (snoc ps k v) []),
      key-adds j (write u (write_pairs ps [])),
      write-adds u (write_pairs ps []),
      length-snoc ps k v,
    )

mutual
  pub ordinals-le : (v : Value) → ordinals own v ≤ nodes v
  ordinals-le (leaf x) = omega arith
  ordinals-le (ref r) = one-most (own r)
  ordinals-le (branch h ps) = omega (arith, ordinals_in-le ps)

  ordinals_in-le : (ps : Values) → ordinals_in own ps ≤ nodes_in ps
  ordinals_in-le none = omega arith
  ordinals_in-le (pair k v ps) = omega (arith, ordinals-le v, ordinals_in-le ps)

-- ---- their words

pub flat_append : (a b : List Node) → flat (a ++ b) ≡ flat a ++ flat b
flat_append [] b = refl
flat_append (r ∷ a) b = ap (λ (x : List ℕ). words r ++ x) (flat_append a b)

pub table-snoc : (to : ℕ → ℕ) (ps : Values) (k : Key) (v : Value) (o i n o' i' n' : ℕ) → o' ≡ o + length (write_pairs ps []) → i' ≡ i + nodes_in ps
    → n' ≡ n + ordinals_in own ps
    → table_in to o i n (snoc ps k v) ≡ table_in to o i n ps ++ (key_node o' i' k ∷ table to (value_offset o' k) (suc i') n' v)
unfolding write
table-snoc to none k v o i n o' i' n' a b c =
    ap (λ (x : List Node). key_node o i k ∷ x) (append-nil (table to (value_offset o k) (suc i) n v))
    ∙ same (sym (a ∙ add-zero o)) (sym (b ∙ add-zero i)) (sym (c ∙ add-zero n))
  where
    same : o ≡ o' → i ≡ i' → n ≡ n' → key_node o i k ∷ table to (value_offset o k) (suc i) n v ≡ key_node o' i' k ∷ table to (value_offset o' k) (suc i') n' v
    same x y z = rw (x, y, z)
table-snoc to (pair j u ps) k v o i n o' i' n' a b c =
    ap (λ (x : List Node). key_node o i j ∷ table to (value_offset o j) (suc i) n u ++ x)
    (table-snoc to ps k v (next_offset o j u) (suc (i + nodes u)) (n + ordinals own u) o' i' n'
    (omega (arith, a, key-adds j (write u (write_pairs ps [])), key-adds j (write u []), write-adds u (write_pairs ps []))) (omega (arith, b)) (omega (arith, c)))
    ∙ ap (λ (x : List Node). key_node o i j ∷ x)
    (sym (append_assoc (table to (value_offset o j) (suc i) n u) (table_in to (next_offset o j u) (suc (i + nodes u)) (n + ordinals own u) ps)
    (key_node o' i' k ∷ table to (value_offset o' k) (suc i') n' v)))

-- ---- the ordinals that they take

pub takes-snoc : (to : ℕ → ℕ) (ps : Values) (k : Key) (v : Value) (i n : ℕ) → TakesIn to i n (snoc ps k v)
    → TakesIn to i n ps × Takes to (suc (i + nodes_in ps)) (n + ordinals_in own ps) v
takes-snoc to none k v i n q = (tt, subst₂ (λ a b. Takes to a b v) (ap suc (sym (add-zero i))) (sym (add-zero n)) q.0)
takes-snoc to (pair j u ps) k v i n q =
    let r = takes-snoc to ps k v (suc (i + nodes u)) (n + ordinals own u) q.1 in
    ((q.0, r.0), subst₂ (λ a b. Takes to a b v) (node i (nodes u) (nodes_in ps)) (number n (ordinals own u) (ordinals_in own ps)) r.1)
  where
    node : (a b c : ℕ) → suc (suc (a + b) + c) ≡ suc (a + suc (b + c))
    node a b c = omega arith

    number : (a b c : ℕ) → a + b + c ≡ a + (b + c)
    number a b c = omega arith

mutual
  indices-length : (v : Value) (i : ℕ) → length (indices i v) ≡ ordinals own v
  indices-length (leaf x) i = refl
  indices-length (ref r) i = length-only (own r) i
  indices-length (branch h ps) i = ap suc (indices_in-length ps (suc i))

  indices_in-length : (ps : Values) (i : ℕ) → length (indices_in i ps) ≡ ordinals_in own ps
  indices_in-length none i = refl
  indices_in-length (pair k v ps) i = length-append (indices (suc i) v) (indices_in (suc (i + nodes v)) ps)
      ∙ ap₂ ◌+◌ (indices-length v (suc i)) (indices_in-length ps (suc (i + nodes v)))

-- `to` names the nodes of a list, from an ordinal on
abbrev Names : (to : ℕ → ℕ) (n : ℕ) → List ℕ → Type 0
Names to n [] = Unit {0}
Names to n (i ∷ is) = (to n ≡ i) × Names to (suc n) is

names-first : (to : ℕ → ℕ) (n : ℕ) (a b : List ℕ) → Names to n (a ++ b) → Names to n a
names-first to n [] b q = tt
names-first to n (i ∷ a) b q = (q.0, names-first to (suc n) a b q.1)

names-rest : (to : ℕ → ℕ) (n : ℕ) (a b : List ℕ) (m : ℕ) → n + length a ≡ m → Names to n (a ++ b) → Names to m b
names-rest to n [] b m e q = subst (λ (x : ℕ). Names to x b) (sym (add-zero n) ∙ e) q
names-rest to n (i ∷ a) b m e q = names-rest to (suc n) a b m (suc-add n (length a) ∙ sym (add-suc n (length a)) ∙ e) q.1

only_of : (to : ℕ → ℕ) (b : Bool) (i n : ℕ) → Names to n (only b i) → T b → to n ≡ i
only_of to true i n q t = q.0
only_of to false i n q t = absurd t

mutual
  takes_of : (to : ℕ → ℕ) (v : Value) (i n : ℕ) → Names to n (indices i v) → Takes to i n v
  takes_of to (leaf x) i n q = q.0
  takes_of to (ref r) i n q = only_of to (own r) i n q
  takes_of to (branch h ps) i n q = (q.0, takes_in_of to ps (suc i) (suc n) q.1)

  takes_in_of : (to : ℕ → ℕ) (ps : Values) (i n : ℕ) → Names to n (indices_in i ps) → TakesIn to i n ps
  takes_in_of to none i n q = tt
  takes_in_of to (pair k v ps) i n q = (
    takes_of to v (suc i) n (names-first to n (indices (suc i) v) (indices_in (suc (i + nodes v)) ps) q),
    takes_in_of to ps (suc (i + nodes v)) (n + ordinals own v)
        (names-rest to n (indices (suc i) v) (indices_in (suc (i + nodes v)) ps) (n + ordinals own v) (ap (λ (x : ℕ). n + x) (indices-length v (suc i))) q),
  )

names_list : (to : ℕ → ℕ) (is : List ℕ) (n : ℕ) → ((j : ℕ) → to (n + j) ≡ get_or is j 0) → Names to n is
names_list to [] n h = tt
names_list to (i ∷ is) n h = (ap to (sym (add-zero n)) ∙ h 0, names_list to is (suc n) (λ j. ap to (suc-add n j ∙ sym (add-suc n j)) ∙ h (suc j)))

-- the definition's own naming takes a whole value's ordinals
pub takes_whole : (v : Value) → Takes (target_of v) 0 1 v
takes_whole v = takes_of (target_of v) v 0 1 (names_list (target_of v) (indices 0 v) 1 (λ j. ap (λ (x : ℕ). get_or (indices 0 v) x 0) (one_less j)))
  where
    one_less : (j : ℕ) → 1 + j - 1 ≡ j
    one_less j = omega arith
