-- THE THEOREMS OF CANONICAL TEXT AS A SERVICE, over the definitions that `canonicalize` equals. Assumes nothing.
use Prim.Native.Nat.{ℕ, ◌*◌, ◌≤◌, ◌<◌}
use native.Mathlib.Omega.{arith}
use mathlib.Core.Path.{◌≡◌, refl, sym, ap, ap₂, ◌∙◌, subst}
use mathlib.Core.Logic.{◌↔◌}
use mathlib.Core.List.{List, ◌++◌}
use lib.Dec.{leb, leb→le}
use lib.ListN.{length, drop}
use lib.Seq.{drop_at}
use borrow.Author.Tests.{le-leb, lt-leb}
use Rattle.decimal.proofs.Decide.{and_left}
use Rattle.format.specs.Tree.{nodes}
use Rattle.format.specs.Syntax.{Value, print}
use Rattle.format.specs.Limits.{source_limit, Terms}
use Rattle.format.specs.Fits.{IsPlan}
use Rattle.format.specs.Answer.{ok, refused, require}
use Rattle.format.specs.Read.{read}
use Rattle.format.specs.Table.{width, flat, table_of, SameButOffsets}
use Rattle.format.specs.Meaning.{Meaning, meaning, Means}
use Rattle.format.specs.Canonical.{canonical}
use Rattle.format.specs.Reading.{terms_of, table_after}
use Rattle.format.proofs.Answers.{ok_same, bind_ok, require-ok}
use Rattle.format.proofs.Inversion.{read_ok}
use Rattle.format.proofs.NormalForm.{canonical_shorter, canonical-valid, canonical-read, canonical-meaning, nodes-canonical}
use Rattle.format.proofs.NormalTable.{canonical-table}
use Rattle.format.proofs.OneText.{one-canonical-text, canonical-twice}
use Rattle.format.proofs.Results.{table_of-length, flat-length, after-accepted}
use Rattle.format.proofs.Unique.{one-meaning, accepted-means}
use Rattle.format.specs.Writing.{fits_in, with_room, canonical_bytes}
use Rattle.editor.specs.Promise.{table_written}

-- ---- what is written, and of what

-- the plan read, and the bytes written
pub record Canonicalized (terms : Terms) (room : ℕ) (source bytes : List ℕ) : Type 0 where
  pub value : Value
  pub read : read terms source ≡ ok value
  pub text : bytes ≡ print (canonical value)
  pub fits : length bytes ≤ room

room_of : (room : ℕ) (text bytes : List ℕ) → with_room room text ≡ ok bytes → (bytes ≡ text) × (length bytes ≤ room)
room_of room text bytes e =
    let a = bind_ok (require (fits_in room (length text)) 14 0) _ bytes e in
    let same : text ≡ bytes = ok_same a.2 in
    let fits = require-ok (fits_in room (length text)) 14 0 a.0 a.1 in
    (sym same, omega (arith, ap length same, leb→le (length text) room (and_left (leb (length text) room) (leb (length text) source_limit) fits)))

-- a refusal of reading is its own
pub read-refused : (terms : Terms) (room : ℕ) (source : List ℕ) (code at : ℕ) → read terms source ≡ refused code at
    → canonical_bytes terms room source ≡ refused code at
unfolding canonical_bytes
read-refused terms room source code at e = rw e

pub canonicalized : (terms : Terms) (room : ℕ) (source bytes : List ℕ) → canonical_bytes terms room source ≡ ok bytes → Canonicalized terms room source bytes
unfolding canonical_bytes
canonicalized terms room source bytes e =
    let a = bind_ok (read terms source) _ bytes e in
    let r = room_of room (print (canonical a.0)) bytes a.2 in
    record { value = a.0; read = a.1; text = r.0; fits = r.1 }

-- of a plan that is read, 14 is the only refusal, and only where its canonical text is too long for the output
pub by_value : (terms : Terms) (room : ℕ) (source : List ℕ) (v : Value) → read terms source ≡ ok v
    → canonical_bytes terms room source ≡ with_room room (print (canonical v))
unfolding canonical_bytes
by_value terms room source v e = rw e

module _ (terms : Terms) (room : ℕ) (source : List ℕ) (v : Value) (e : read terms source ≡ ok v) where
  pub no_longer : (length (print (canonical v)) ≤ length source) × (length (print (canonical v)) ≤ source_limit)
  no_longer =
      let p = read_ok terms source v e in
      (omega (arith, canonical_shorter v, ap length p.printed), omega (arith, canonical_shorter v, p.fits.valid.short))

  -- where there is room for it, it is written
  pub written_where_room : length (print (canonical v)) ≤ room → canonical_bytes terms room source ≡ ok (print (canonical v))
  written_where_room h =
      by_value terms room source v e ∙ rw (le-leb (length (print (canonical v))) room h, le-leb (length (print (canonical v))) source_limit no_longer.1)

  -- so an output as long as the plan is always enough
  pub enough-room : length source ≤ room → canonical_bytes terms room source ≡ ok (print (canonical v))
  enough-room h = written_where_room (omega (arith, no_longer.0))

  -- and where there is none, it is 14 at 0
  pub refused_without_room : room < length (print (canonical v)) → canonical_bytes terms room source ≡ refused 14 0
  refused_without_room h = by_value terms room source v e ∙ rw (lt-leb (length (print (canonical v))) room h)

-- ---- demand 2

module _ (terms : Terms) (room : ℕ) (source bytes : List ℕ) (e : canonical_bytes terms room source ≡ ok bytes) where
  abbrev r : Canonicalized terms room source bytes
  r = canonicalized terms room source bytes e

  abbrev v : Value
  v = r.value

  plan : IsPlan terms source v
  plan = read_ok terms source v r.read

  -- the text written is a plan: it is read as the canonical syntax of the plan given
  pub read_again : read terms bytes ≡ ok (canonical (canonicalized terms room source bytes e).value)
  read_again = ap (read terms) r.text ∙ canonical-read terms v plan.fits

  -- CANONICAL TEXT IS NEVER LONGER THAN ITS PLAN
  pub never_longer : length bytes ≤ length source
  never_longer = omega (arith, ap length r.text, canonical_shorter v, ap length plan.printed)

  -- it means what the plan means
  pub means-same : (m : Meaning) → Means source m → Means bytes m
  means-same m s = record {
    syntax = canonical v;
    valid = canonical-valid v plan.fits.valid;
    printed = r.text;
    is = canonical-meaning v ∙ one-meaning source (meaning v) m (record { syntax = v; valid = plan.fits.valid; printed = plan.printed; is = refl }) s;
  }

  -- CANONICALIZING IT AGAIN GIVES THE SAME BYTES
  pub canonical_again : canonical_bytes terms room bytes ≡ ok bytes
  canonical_again =
      let same : print (canonical (canonical v)) ≡ bytes = ap print (canonical-twice v plan.fits.valid) ∙ sym r.text in
      written_where_room terms room bytes (canonical v) read_again (omega (arith, ap length same, r.fits)) ∙ ap ok same

-- PLANS OF THE SAME MEANING GET THE SAME BYTES, and no others do; whatever tables and outputs were lent
pub one-text : (c c' : Terms) (n n' : ℕ) (source source' bytes bytes' : List ℕ) → canonical_bytes c n source ≡ ok bytes → canonical_bytes c' n' source' ≡ ok bytes'
    → (m m' : Meaning) → Means source m → Means source' m' → (bytes ≡ bytes') ↔ (m ≡ m')
one-text c c' n n' source source' bytes bytes' e f m m' s s' = (
  λ b. one-meaning bytes m m' (means-same c n source bytes e m s) (subst (λ (l : List ℕ). Means l m') (sym b) (means-same c' n' source' bytes' f m' s')),
  λ i. same i,
)
  where
    same : m ≡ m' → bytes ≡ bytes'
    same i =
        let r = canonicalized c n source bytes e in
        let r' = canonicalized c' n' source' bytes' f in
        let p = read_ok c source r.value r.read in
        let p' = read_ok c' source' r'.value r'.read in
        let a : meaning r.value ≡ m = one-meaning source (meaning r.value) m (accepted-means c source r.value r.read) s in
        let a' : meaning r'.value ≡ m' = one-meaning source' (meaning r'.value) m' (accepted-means c' source' r'.value r'.read) s' in
        r.text ∙ (one-canonical-text r.value r'.value p.fits.valid p'.fits.valid).1 (a ∙ i ∙ sym a') ∙ sym r'.text

-- THE TABLE IS THE PLAN'S BUT FOR TEXT OFFSETS
pub same-table : (room : ℕ) (source bytes t : List ℕ) (v : Value) → read (terms_of t) source ≡ ok v → canonical_bytes (terms_of t) room source ≡ ok bytes
    → SameButOffsets (nodes v) (table_after (terms_of t) source t) (table_written (terms_of t) (ok bytes) source t)
same-table room source bytes t v is_read e =
    let one : (canonicalized (terms_of t) room source bytes e).value ≡ v = ok_same (sym (canonicalized (terms_of t) room source bytes e).read ∙ is_read) in
    let t₁ : List ℕ = table_after (terms_of t) source t in
    let rest : List ℕ = drop (nodes v * width) t in
    let first : t₁ ≡ flat (table_of v) ++ rest = after-accepted (terms_of t) source t v is_read in
    let size : length (flat (table_of v)) ≡ nodes v * width = flat-length (table_of v) ∙ ap (λ (n : ℕ). n * width) (table_of-length v) in
    let again : read (terms_of t) bytes ≡ ok (canonical v) = read_again (terms_of t) room source bytes e ∙ ap (λ (u : Value). ok (canonical u)) one in
    record {
      nodes = table_of v;
      counted = table_of-length v;
      others = table_of (canonical v);
      rest = rest;
      first = first;
      second = after-accepted (terms_of t) bytes t₁ (canonical v) again
          ∙ ap (λ (l : List ℕ). flat (table_of (canonical v)) ++ l)
          (ap₂ (λ (n : ℕ) (l : List ℕ). drop (n * width) l) (nodes-canonical v) first ∙ drop_at (flat (table_of v)) rest (nodes v * width) size);
      same = canonical-table v;
    }
