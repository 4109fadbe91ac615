-- A plan has no more nodes than bytes, so that what names and counts its values is a *number*. Assumes nothing.
use mathlib.Core.List.{List, [], ◌∷◌}
use Prim.Native.Nat.{ℕ, ◌+◌, ◌≤◌, ◌<◌}
use native.Mathlib.Omega.{arith}
use lib.ListN.{length, length-append}
use Rattle.format.specs.Bytes.{byte}
use Rattle.format.specs.Tree.{leaf, ref, branch, none, pair, count, nodes, nodes_in, ordinals, ordinals_in}
use Rattle.format.specs.Syntax.{int_key, string_key, null, bool, int, float, string, array, object, Key, Scalar, Container, Value, Values, own, write_number}
use Rattle.format.specs.Syntax.{write_key, write_scalar, write_container, write, write_pairs}
use Rattle.format.specs.Limits.{number_limit, Seen, see_branch, see}
use Rattle.format.specs.Fits.{Limited, LimitedIn, Backward, BackwardIn}
use Rattle.format.proofs.Fronts.{number-length, key-front, scalar-front, container-front}
use Rattle.format.proofs.OneText.{one-most}

-- ---- each part has a byte or more
key-some : (k : Key) → 1 ≤ length (write_key k [])
key-some (int_key x) = omega arith
key-some (string_key q) = omega arith

key_longer : (k : Key) (r : List ℕ) → length r < length (write_key k r)
key_longer k r = rw (key-front k [] r) (simp length-append (omega (arith, key-some k)))

scalar-some : (x : Scalar) → 1 ≤ length (write_scalar x [])
scalar-some null = omega arith
scalar-some (bool b) = omega arith
scalar-some (int x) = omega arith
scalar-some (float t) = omega arith
scalar-some (string q) = omega arith

scalar_longer : (x : Scalar) (r : List ℕ) → length r < length (write_scalar x r)
scalar_longer x r = rw (scalar-front x [] r) (simp length-append (omega (arith, scalar-some x)))

container-some : (c : Container) → 1 ≤ length (write_container c [])
container-some array = omega arith
container-some (object q) = omega arith

container_longer : (c : Container) (r : List ℕ) → length r < length (write_container c r)
container_longer c r = rw (container-front c [] r) (simp length-append (omega (arith, container-some c)))

mutual
  unfolding write

  pub write_longer : (v : Value) (r : List ℕ) → length r + nodes v ≤ length (write v r)
  write_longer (leaf x) r = omega (arith, scalar_longer x r)
  write_longer (ref n) r = omega (arith, number-length n.spelling n.named (byte ";" ∷ r))
  write_longer (branch h ps) r =
      let pairs : List ℕ = byte ":" ∷ byte "{" ∷ write_pairs ps (byte "}" ∷ r) in
      omega (
        arith,
        container_longer h.container (write_number h.spelling (count ps) pairs),
        number-length h.spelling (count ps) pairs,
        pairs_longer ps (byte "}" ∷ r),
      )

  pairs_longer : (ps : Values) (r : List ℕ) → length r + nodes_in ps ≤ length (write_pairs ps r)
  pairs_longer none r = omega arith
  pairs_longer (pair k v ps) r = omega (arith, key_longer k (write v (write_pairs ps r)), write_longer v (write_pairs ps r), pairs_longer ps r)

-- ---- backward references and few nodes
mutual
  ordinals-most : (v : Value) → ordinals own v ≤ nodes v
  ordinals-most (leaf x) = omega arith
  ordinals-most (ref r) = one-most (own r)
  ordinals-most (branch h ps) = omega (arith, ordinals_in-most ps)

  ordinals_in-most : (ps : Values) → ordinals_in own ps ≤ nodes_in ps
  ordinals_in-most none = omega arith
  ordinals_in-most (pair k v ps) = omega (arith, ordinals-most v, ordinals_in-most ps)

pub count_most : (ps : Values) → count ps ≤ nodes_in ps
count_most none = omega arith
count_most (pair k v ps) = omega (arith, count_most ps)

mutual
  pub limited : (v : Value) (seen : Seen) → Backward seen v → seen + nodes v ≤ number_limit → Limited v
  limited (leaf x) seen b m = tt
  limited (ref r) seen b m = omega arith
  limited (branch h ps) seen b m = (omega (arith, count_most ps), limited_in ps (see_branch seen) b (omega arith))

  limited_in : (ps : Values) (seen : Seen) → BackwardIn seen ps → seen + nodes_in ps ≤ number_limit → LimitedIn ps
  limited_in none seen b m = tt
  limited_in (pair k v ps) seen b m = (limited v seen b.0 (omega arith), limited_in ps (see seen v) b.1 (omega (arith, ordinals-most v)))
