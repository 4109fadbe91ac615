-- Canonical text: it fits where its plan does, means the same, and is no longer. Assumes nothing.
use mathlib.Core.Path.{◌≡◌, refl, sym, ap, ◌∙◌}
use mathlib.Core.Logic.{◌↔◌}
use mathlib.Core.List.{List, [], ◌∷◌, ◌++◌, map}
use Prim.Native.Nat.{ℕ, zero, suc, ◌+◌, ◌-◌, ◌≤◌}
use native.Mathlib.Omega.{arith}
use lib.ListN.{length, length-append}
use Rattle.decimal.specs.Digits.{spelled}
use Rattle.decimal.proofs.Numerals.{spelled-length}
use Rattle.format.specs.Bytes.{byte}
use Rattle.format.specs.Tree.{leaf, ref, branch, none, pair, TreePath, count, nodes, ordinals, paths, map_tree, map_pairs}
use Rattle.format.specs.Syntax.{int_key, string_key, null, bool, int, float, string, array, object, map_container, Spelling, Sign, unsigned, plus, minus}
use Rattle.format.specs.Syntax.{Literal, Quoted, Key, Scalar, Container, Value, Values, own, write_number, write_sign, write_int, write_string, write_key}
use Rattle.format.specs.Syntax.{write_scalar, write_container, write, write_pairs, print}
use lib.IntN.{ℤ, pos, negsuc}
use Rattle.format.specs.Keys.{signed, integer, key_meaning, has_key}
use Rattle.format.specs.Limits.{source_limit, depth_limit, integer_limit, Terms, unseen}
use Rattle.format.specs.Fits.{IntFits, KeyFits, ScalarFits, ContainerFits, allowed, Sound, SoundIn, Limited, LimitedIn, Backward, BackwardIn, Shallow}
use Rattle.format.specs.Fits.{ShallowIn, Valid, Fits}
use Rattle.format.specs.Answer.{ok}
use Rattle.format.specs.Read.{read}
use Rattle.format.specs.Meaning.{meaning, scalar_meaning, head_meaning, reference_meaning}
use Rattle.format.specs.Canonical.{shortest, shortest_sign, shortest_int, shortest_quoted, canonical_key, canonical_scalar, canonical_head, canonical_reference}
use Rattle.format.specs.Canonical.{literal_of, canonical}
use Rattle.format.proofs.Maps.{refs_all, count_map, nodes-map, ordinals-map, paths-map, map-map, key-map, scalar-map, container-map}
use Rattle.format.proofs.Fronts.{number-length, quoted_length}
use Rattle.format.proofs.Printed.{read-print}

-- ---- integers and texts: what they mean, and the shortest way to write that
pub literal-shortest : (x : Literal) → literal_of (integer x) ≡ shortest_int x
literal-shortest x = go x.sign x.magnitude
  where
    go : (s : Sign) (n : ℕ) → literal_of (signed s n) ≡ record { sign = shortest_sign s n; zeros = 0; magnitude = n }
    go unsigned n = refl
    go plus n = refl
    go minus zero = refl
    go minus (suc n) = refl

pub literal-means : (z : ℤ) → integer (literal_of z) ≡ z
literal-means (pos n) = refl
literal-means (negsuc n) = refl

pub int_same : (x : Literal) → integer (shortest_int x) ≡ integer x
int_same x = ap integer (sym (literal-shortest x)) ∙ literal-means (integer x)

-- keys, scalars and containers mean the same
abbrev pub quoted_bytes : Quoted → List ℕ
quoted_bytes q = q.text

key-same : (k : Key) → key_meaning (canonical_key k) ≡ key_meaning k
key-same k = key-map shortest_int shortest_quoted integer quoted_bytes integer quoted_bytes int_same (λ q. refl) k

scalar-same : (x : Scalar) → scalar_meaning (canonical_scalar x) ≡ scalar_meaning x
scalar-same x = scalar-map shortest_int shortest_quoted integer quoted_bytes integer quoted_bytes int_same (λ q. refl) x

container-same : (c : Container) → map_container quoted_bytes (map_container shortest_quoted c) ≡ map_container quoted_bytes c
container-same c = container-map shortest_quoted quoted_bytes quoted_bytes (λ q. refl) c

-- CANONICAL TEXT MEANS THE SAME
pub canonical-meaning : (v : Value) → meaning (canonical v) ≡ meaning v
unfolding meaning canonical
canonical-meaning v =
    ap (λ (env : List TreePath). map_tree key_meaning scalar_meaning head_meaning (reference_meaning env) (canonical v))
    (paths-map canonical_key canonical_scalar canonical_head canonical_reference own own (λ r. refl) v)
    ∙ map-map canonical_key canonical_scalar canonical_head canonical_reference key_meaning scalar_meaning head_meaning (reference_meaning (paths own v))
    key_meaning scalar_meaning head_meaning (reference_meaning (paths own v)) (λ r. Unit {0})
    key-same scalar-same (λ h. container-same h.container) (λ r t. refl) v (refs_all (λ r. Unit {0}) (λ r. tt) v)

-- ---- it is no longer
sign_shorter : (s : Sign) (n : ℕ) (r t : List ℕ) → length r ≤ length t → length (write_sign (shortest_sign s n) r) ≤ length (write_sign s t)
sign_shorter unsigned n r t h = h
sign_shorter plus n r t h = omega arith
sign_shorter minus zero r t h = omega arith
sign_shorter minus (suc n) r t h = omega arith

pub number_shorter : (w : Spelling) (n : ℕ) (r t : List ℕ) → length r ≤ length t → length (write_number shortest n r) ≤ length (write_number w n t)
number_shorter w n r t h = omega (arith, number-length shortest n r, number-length w n t)

int_shorter : (x : Literal) (r t : List ℕ) → length r ≤ length t → length (write_int (shortest_int x) r) ≤ length (write_int x t)
int_shorter x r t h =
    let n : ℕ = x.magnitude in
    let e : length (spelled 0 n ++ (byte ";" ∷ r)) ≤ length (spelled x.zeros n ++ (byte ";" ∷ t)) =
    simp (length-append, spelled-length) (omega arith) in
    omega (arith, sign_shorter x.sign n (spelled 0 n ++ (byte ";" ∷ r)) (spelled x.zeros n ++ (byte ";" ∷ t)) e)

string_shorter : (q : Quoted) (r t : List ℕ) → length r ≤ length t → length (write_string (shortest_quoted q) r) ≤ length (write_string q t)
string_shorter q r t h = omega (arith, quoted_length (shortest_quoted q) (byte ";" ∷ r), quoted_length q (byte ";" ∷ t))

key_shorter : (k : Key) (r t : List ℕ) → length r ≤ length t → length (write_key (canonical_key k) r) ≤ length (write_key k t)
key_shorter (int_key x) r t h = int_shorter x r t h
key_shorter (string_key q) r t h = string_shorter q r t h

pub scalar_shorter : (x : Scalar) (r t : List ℕ) → length r ≤ length t → length (write_scalar (canonical_scalar x) r) ≤ length (write_scalar x t)
scalar_shorter null r t h = omega arith
scalar_shorter (bool b) r t h = omega arith
scalar_shorter (int x) r t h = int_shorter x r t h
scalar_shorter (float f) r t h = simp length-append (omega arith)
scalar_shorter (string q) r t h = string_shorter q r t h

pub container_shorter : (c : Container) (r t : List ℕ) → length r ≤ length t
    → length (write_container (map_container shortest_quoted c) r) ≤ length (write_container c t)
container_shorter array r t h = omega arith
container_shorter (object q) r t h = omega (arith, quoted_length (shortest_quoted q) (byte ":" ∷ r), quoted_length q (byte ":" ∷ t))

abbrev pub canonical_pairs : Values → Values
canonical_pairs ps = map_pairs canonical_key canonical_scalar canonical_head canonical_reference ps

pub count-canonical : (ps : Values) → count (canonical_pairs ps) ≡ count ps
count-canonical ps = count_map canonical_key canonical_scalar canonical_head canonical_reference ps

mutual
  unfolding write canonical

  write_shorter : (v : Value) (r t : List ℕ) → length r ≤ length t → length (write (canonical v) r) ≤ length (write v t)
  write_shorter (leaf x) r t h = scalar_shorter x r t h
  write_shorter (ref n) r t h = omega (arith, number_shorter n.spelling n.named (byte ";" ∷ r) (byte ";" ∷ t) (omega arith))
  write_shorter (branch o ps) r t h =
      container_shorter o.container (write_number shortest (count (canonical_pairs ps)) (byte ":" ∷ byte "{" ∷ write_pairs (canonical_pairs ps) (byte "}" ∷ r)))
      (write_number o.spelling (count ps) (byte ":" ∷ byte "{" ∷ write_pairs ps (byte "}" ∷ t)))
      (rw (count-canonical ps)
      (number_shorter o.spelling (count ps) (byte ":" ∷ byte "{" ∷ write_pairs (canonical_pairs ps) (byte "}" ∷ r))
      (byte ":" ∷ byte "{" ∷ write_pairs ps (byte "}" ∷ t))
      (omega (arith, pairs_shorter ps (byte "}" ∷ r) (byte "}" ∷ t) (omega arith)))))

  pairs_shorter : (ps : Values) (r t : List ℕ) → length r ≤ length t → length (write_pairs (canonical_pairs ps) r) ≤ length (write_pairs ps t)
  pairs_shorter none r t h = h
  pairs_shorter (pair k v ps) r t h =
      key_shorter k (write (canonical v) (write_pairs (canonical_pairs ps) r)) (write v (write_pairs ps t))
      (write_shorter v (write_pairs (canonical_pairs ps) r) (write_pairs ps t) (pairs_shorter ps r t h))

-- paper 02, L8: "canonical text is never longer than its plan"
pub canonical_shorter : (v : Value) → length (print (canonical v)) ≤ length (print v)
canonical_shorter v = write_shorter v [] [] (omega arith)

-- ---- it fits where its plan does, and its plan where it does, lengths aside
same : {A : Type 0} → A ↔ A
same = (λ x. x, λ x. x)

both : {A B C D : Type 0} → A ↔ B → C ↔ D → (A × C) ↔ (B × D)
both f g = (λ x. (f.0 x.0, g.0 x.1), λ y. (f.1 y.0, g.1 y.1))

int-fits : (x : Literal) → IntFits x ↔ IntFits (shortest_int x)
int-fits x = go x.sign x.magnitude
  where
    go : (s : Sign) (n : ℕ) → (n ≤ integer_limit s) ↔ (n ≤ integer_limit (shortest_sign s n))
    go unsigned n = same
    go plus n = same
    go minus zero = (λ f. omega arith, λ f. omega arith)
    go minus (suc n) = same

key_fits : (k : Key) → KeyFits k ↔ KeyFits (canonical_key k)
key_fits (int_key x) = int-fits x
key_fits (string_key q) = same

scalar_fits : (x : Scalar) → ScalarFits x ↔ ScalarFits (canonical_scalar x)
scalar_fits null = same
scalar_fits (bool b) = same
scalar_fits (int x) = int-fits x
scalar_fits (float t) = same
scalar_fits (string q) = same

container-fits : (c : Container) → ContainerFits c ↔ ContainerFits (map_container shortest_quoted c)
container-fits array = same
container-fits (object q) = same

allowed_same : (c : Container) (k : Key) → allowed (map_container shortest_quoted c) (canonical_key k) ≡ allowed c k
allowed_same array k = refl
allowed_same (object q) (int_key x) = refl
allowed_same (object q) (string_key t) = refl

has_same : (k : Key) (js : List Key) → has_key (canonical_key k) (map canonical_key js) ≡ has_key k js
has_same k [] = refl
has_same k (j ∷ js) = rw (key-same k, key-same j, has_same k js)

mutual
  unfolding canonical

  sound-canonical : (v : Value) → Sound v ↔ Sound (canonical v)
  sound-canonical (leaf x) = scalar_fits x
  sound-canonical (ref r) = same
  sound-canonical (branch h ps) = both (container-fits h.container) (sound_in_canonical h.container [] ps)

  sound_in_canonical : (c : Container) (js : List Key) (ps : Values)
      → SoundIn c js ps ↔ SoundIn (map_container shortest_quoted c) (map canonical_key js) (canonical_pairs ps)
  sound_in_canonical c js none = same
  sound_in_canonical c js (pair k v ps) =
      let f = key_fits k in
      let x = sound-canonical v in
      let rest = sound_in_canonical c (k ∷ js) ps in (
        λ s. (f.0 s.0, rw (allowed_same c k) s.1, rw (has_same k js) s.2, x.0 s.3, rest.0 s.4),
        λ s. (f.1 s.0, rw (allowed_same c k) at s.1, rw (has_same k js) at s.2, x.1 s.3, rest.1 s.4),
      )

mutual
  unfolding canonical

  limited-canonical : (v : Value) → Limited v ↔ Limited (canonical v)
  limited-canonical (leaf x) = same
  limited-canonical (ref r) = same
  limited-canonical (branch h ps) = rw (count-canonical ps) (both same (limited_in_canonical ps))

  limited_in_canonical : (ps : Values) → LimitedIn ps ↔ LimitedIn (canonical_pairs ps)
  limited_in_canonical none = same
  limited_in_canonical (pair k v ps) = both (limited-canonical v) (limited_in_canonical ps)

pub ordinals-canonical : (v : Value) → ordinals own (canonical v) ≡ ordinals own v
unfolding canonical
ordinals-canonical v = ordinals-map canonical_key canonical_scalar canonical_head canonical_reference own own (λ r. refl) v

mutual
  unfolding canonical

  backward-canonical : (v : Value) (n : ℕ) → Backward n v ↔ Backward n (canonical v)
  backward-canonical (leaf x) n = same
  backward-canonical (ref r) n = same
  backward-canonical (branch h ps) n = backward_in_canonical ps (suc n)

  backward_in_canonical : (ps : Values) (n : ℕ) → BackwardIn n ps ↔ BackwardIn n (canonical_pairs ps)
  backward_in_canonical none n = same
  backward_in_canonical (pair k v ps) n = rw (ordinals-canonical v) (both (backward-canonical v n) (backward_in_canonical ps (n + ordinals own v)))

mutual
  unfolding canonical

  shallow-canonical : (v : Value) (d : ℕ) → Shallow d v ↔ Shallow d (canonical v)
  shallow-canonical (leaf x) d = same
  shallow-canonical (ref r) d = same
  shallow-canonical (branch h ps) d = both same (shallow_in_canonical ps (d - 1))

  shallow_in_canonical : (ps : Values) (d : ℕ) → ShallowIn d ps ↔ ShallowIn d (canonical_pairs ps)
  shallow_in_canonical none d = same
  shallow_in_canonical (pair k v ps) d = both (shallow-canonical v d) (shallow_in_canonical ps d)

pub nodes-canonical : (v : Value) → nodes (canonical v) ≡ nodes v
unfolding canonical
nodes-canonical v = nodes-map canonical_key canonical_scalar canonical_head canonical_reference v

-- CANONICAL TEXT FITS where its plan does
pub canonical-valid : (v : Value) → Valid v → Valid (canonical v)
canonical-valid v f =
    let shorter = canonical_shorter v in
    record {
      short = omega (arith, f.short);
      shallow = (shallow-canonical v depth_limit).0 f.shallow;
      backward = (backward-canonical v unseen).0 f.backward;
      sound = (sound-canonical v).0 f.sound;
      limited = (limited-canonical v).0 f.limited;
    }

-- and so does every plan that is spelled otherwise, if it is short enough
pub spelled-valid : (v : Value) → Valid (canonical v) → length (print v) ≤ source_limit → Valid v
spelled-valid v f h = record {
  short = h;
  shallow = (shallow-canonical v depth_limit).1 f.shallow;
  backward = (backward-canonical v unseen).1 f.backward;
  sound = (sound-canonical v).1 f.sound;
  limited = (limited-canonical v).1 f.limited;
}

pub canonical-fits : (terms : Terms) (v : Value) → Fits terms v → Fits terms (canonical v)
canonical-fits terms v f = record { valid = canonical-valid v f.valid; small = omega (arith, nodes-canonical v, f.small) }

-- so it is read as what it was printed from
pub canonical-read : (terms : Terms) (v : Value) → Fits terms v → read terms (print (canonical v)) ≡ ok (canonical v)
canonical-read terms v f = read-print terms (canonical v) (canonical-fits terms v f)
