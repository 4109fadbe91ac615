-- What was printed behind a tag is read back: laws for those who scan a plan that was read. Assumes nothing.
use Prim.Native.Nat.{ℕ, ◌≤◌}
use mathlib.Core.Path.{◌≡◌, refl}
use mathlib.Core.List.{List, ◌∷◌}
use mathlib.Core.Bool.{true, false}
use lib.ListN.{drop}
use Rattle.format.specs.Bytes.{byte}
use Rattle.format.specs.Kind.{Kind, tag}
use Rattle.format.specs.Syntax.{null, bool, int, float, string, array, object, Spelling, Quoted, Scalar, write_number, write_quoted, write_scalar}
use Rattle.format.specs.Limits.{number_limit}
use Rattle.format.specs.Fits.{ScalarFits, ContainerFits}
use Rattle.format.specs.Answer.{ok}
use Rattle.format.specs.Read.{bool_text, count_text, named_text, scalar_text, head_text}
use Rattle.format.proofs.Printed.{number-printed, int-printed, quoted_printed, float-printed}
use Rattle.scanner.specs.Scans.{scalar_behind}

pub named-printed : (l : ℕ) (w : Spelling) (n : ℕ) (r : List ℕ) → n ≤ number_limit → named_text l (byte ":" ∷ write_number w n (byte ";" ∷ r)) ≡ ok ((w, n), r)
unfolding named_text
named-printed l w n r h = rw (number-printed l w n (byte ";") r h refl)

count-printed : (l : ℕ) (w : Spelling) (n : ℕ) (r : List ℕ) → n ≤ number_limit → count_text l (write_number w n (byte ":" ∷ byte "{" ∷ r)) ≡ ok ((w, n), r)
unfolding count_text
count-printed l w n r h = rw (number-printed l w n (byte ":") (byte "{" ∷ r) h refl)

pub array-printed : (l : ℕ) (w : Spelling) (n : ℕ) (r : List ℕ) → n ≤ number_limit
    → head_text true l (byte ":" ∷ write_number w n (byte ":" ∷ byte "{" ∷ r)) ≡ ok ((array, (w, n)), r)
unfolding head_text
array-printed l w n r h = rw (count-printed l w n r h)

pub object-printed : (l : ℕ) (q : Quoted) (w : Spelling) (n : ℕ) (r : List ℕ) → ContainerFits (object q) → n ≤ number_limit
    → head_text false l (byte ":" ∷ write_quoted q (byte ":" ∷ write_number w n (byte ":" ∷ byte "{" ∷ r))) ≡ ok ((object q, (w, n)), r)
unfolding head_text
object-printed l q w n r f h = rw (quoted_printed l (byte ":") q (write_number w n (byte ":" ∷ byte "{" ∷ r)) f, count-printed l w n r h)

-- what follows a scalar's tag
abbrev pub behind_tag : Scalar → List ℕ → List ℕ
behind_tag x r = drop 1 (write_scalar x r)

abbrev pub scalar_kind : Scalar → Kind
scalar_kind null = Kind.null
scalar_kind (bool b) = Kind.bool
scalar_kind (int x) = Kind.int
scalar_kind (float t) = Kind.float
scalar_kind (string q) = Kind.string

pub scalar-tagged : (x : Scalar) (r : List ℕ) → write_scalar x r ≡ tag (scalar_kind x) ∷ behind_tag x r
scalar-tagged null r = refl
scalar-tagged (bool b) r = refl
scalar-tagged (int x) r = refl
scalar-tagged (float t) r = refl
scalar-tagged (string q) r = refl

pub scalar-printed : (l : ℕ) (x : Scalar) (r : List ℕ) → ScalarFits x → scalar_behind (tag (scalar_kind x)) l (behind_tag x r) ≡ ok (x, r)
unfolding scalar_behind scalar_text bool_text
scalar-printed l null r f = refl
scalar-printed l (bool true) r f = refl
scalar-printed l (bool false) r f = refl
scalar-printed l (int x) r f = rw (int-printed l x r f)
scalar-printed l (float t) r f = rw (float-printed l t r f)
scalar-printed l (string q) r f = rw (quoted_printed l (byte ";") q r f)
