-- What paper 01 asks of a plan's syntax beyond its form.
use Rattle.std.specs.Prelude.{◌≡◌, List, [], ◌∷◌, Bool, true, false, not, ℕ, ◌-◌, ◌≤◌, T, length}
use Rattle.format.specs.Tree.{leaf, ref, branch, none, pair, count, nodes}
use Rattle.format.specs.Syntax.{int_key, string_key, null, bool, int, float, string, array, object}
use Rattle.format.specs.Syntax.{Literal, Quoted, Key, Scalar, Container, Value, Values, print}
use Rattle.format.specs.Limits.{number_limit, source_limit, depth_limit, integer_limit, Terms, is_float, Seen, unseen, see_branch, see}
use Rattle.format.specs.Keys.{has_key}

abbrev pub IntFits : Literal → Type 0
IntFits x = x.magnitude ≤ integer_limit x.sign

abbrev pub QuotedFits : Quoted → Type 0
QuotedFits q = length q.text ≤ number_limit

abbrev pub KeyFits : Key → Type 0
KeyFits (int_key x) = IntFits x
KeyFits (string_key q) = QuotedFits q

abbrev pub ScalarFits : Scalar → Type 0
ScalarFits null = Unit {0}
ScalarFits (bool b) = Unit {0}
ScalarFits (int x) = IntFits x
ScalarFits (float t) = T (is_float t)
ScalarFits (string q) = QuotedFits q

abbrev pub ContainerFits : Container → Type 0
ContainerFits array = Unit {0}
ContainerFits (object q) = QuotedFits q

-- "A key of `a` is an i or an s; a key of `O` is an s"
abbrev pub allowed : Container → Key → Bool
allowed array k = true
allowed (object q) (int_key x) = false
allowed (object q) (string_key t) = true

-- integers and texts in range; keys allowed in their container, and none equal to an earlier one
abbrev mutual
  pub Sound : Value → Type 0
  Sound (leaf x) = ScalarFits x
  Sound (ref r) = Unit {0}
  Sound (branch h ps) = ContainerFits h.container × SoundIn h.container [] ps

  pub SoundIn : Container → (earlier : List Key) → Values → Type 0
  SoundIn c earlier none = Unit {0}
  SoundIn c earlier (pair k v ps) = KeyFits k × T (allowed c k) × T (not (has_key k earlier)) × Sound v × SoundIn c (k ∷ earlier) ps

-- counts and ordinals named are *numbers*
abbrev mutual
  pub Limited : Value → Type 0
  Limited (leaf x) = Unit {0}
  Limited (ref r) = r.named ≤ number_limit
  Limited (branch h ps) = (count ps ≤ number_limit) × LimitedIn ps

  pub LimitedIn : Values → Type 0
  LimitedIn none = Unit {0}
  LimitedIn (pair k v ps) = Limited v × LimitedIn ps

-- "A reference may name number t only if t was taken before the reference's own letter: at least 1, at most the count taken so far,
-- an r's own number not included. It may name a container that is still open."
abbrev mutual
  pub Backward : Seen → Value → Type 0
  Backward seen (leaf x) = Unit {0}
  Backward seen (ref r) = (1 ≤ r.named) × (r.named ≤ seen)
  Backward seen (branch h ps) = BackwardIn (see_branch seen) ps

  pub BackwardIn : Seen → Values → Type 0
  BackwardIn seen none = Unit {0}
  BackwardIn seen (pair k v ps) = Backward seen v × BackwardIn (see seen v) ps

-- "a value in a container one more than the container": so many levels are left for the value and what it holds
abbrev mutual
  pub Shallow : (levels : ℕ) → Value → Type 0
  Shallow d (leaf x) = 1 ≤ d
  Shallow d (ref r) = 1 ≤ d
  Shallow d (branch h ps) = (1 ≤ d) × ShallowIn (d - 1) ps

  pub ShallowIn : (levels : ℕ) → Values → Type 0
  ShallowIn d none = Unit {0}
  ShallowIn d (pair k v ps) = Shallow d v × ShallowIn d ps

-- a plan that is nowhere outside paper 01's grammar and limits
pub record Valid (v : Value) : Type 0 where
  pub short : length (print v) ≤ source_limit
  pub shallow : Shallow depth_limit v
  pub backward : Backward unseen v
  pub sound : Sound v
  pub limited : Limited v

-- Demand 2, "A plan is accepted exactly when it fits paper 01": it is valid, and the table has room for its nodes.
pub record Fits (terms : Terms) (v : Value) : Type 0 where
  pub valid : Valid v
  pub small : nodes v ≤ terms.capacity

-- the source is the print of a syntax that fits
pub record IsPlan (terms : Terms) (source : List ℕ) (v : Value) : Type 0 where
  pub printed : source ≡ print v
  pub fits : Fits terms v
