-- What a service that writes answers and leaves, by the definitions. Assumes nothing.
use Prim.Native.Nat.{ℕ, ◌≤◌, ◌<◌}
use native.Mathlib.Nat.{zero-add}
use native.Mathlib.Omega.{arith}
use mathlib.Core.Path.{◌≡◌, refl, sym, ap, ◌∙◌, subst}
use mathlib.Core.List.{List, [], ◌++◌}
use mathlib.Core.Bool.{Bool, true, false, true≢false}
use mathlib.Core.Logic.{⊎_elim}
use Rattle.std.proofs.Math.Logic.{∥∥₁_elim}
use Rattle.std.proofs.Props.{props}
use Rattle.std.specs.Prelude.{Result, Ok, Err}
use lib.Dec.{leb, leb→le, not_T}
use lib.ListN.{length, take, drop, replicate, drop_of_length-le}
use lib.Seq.{sets-eq, length-sets, take-append_seam}
use borrow.Author.Tests.{le-leb}
use Rattle.decimal.proofs.Decide.{Order, below, above, order, T_of, T_false, and_left, and_right}
use Rattle.format.specs.Syntax.{Value, print}
use Rattle.format.specs.Limits.{source_limit, Terms}
use Rattle.format.specs.Answer.{Answer, ok, refused, ◌>>=◌, require}
use Rattle.format.specs.declared.codes.Refusal.{Refusal}
use Rattle.format.specs.Codes.{number_of}
use Rattle.format.specs.Read.{read}
use Rattle.format.specs.Canonical.{canonical}
use Rattle.format.specs.Reading.{terms_of, cleared, over, table_after}
use Rattle.format.specs.Fits.{IsPlan}
use Rattle.format.proofs.Inversion.{read_ok}
use Rattle.format.proofs.Results.{after-length, after-terms}
use Rattle.format.specs.Writing.{fits_in, with_room, canonical_bytes, insertion_of, insert_bytes}
use Rattle.format.proofs.Answers.{not_both, bind-refused}
use Rattle.editor.specs.Promise.{writing_answer, Writes}
use Rattle.editor.specs.Ends.{room_answer, Refuses, Settles, Short, Spared, shrinks, short, EditFits}
use Rattle.tokens.specs.Tokens.{Token, tokens, write_tokens}
use Rattle.tokens.specs.Between.{Stretch}
use Rattle.tokens.proofs.TokenLaws.{tokens-write, tokens-canonical, tokens-fit}
use Rattle.tokens.proofs.Stretches.{between_stretch}
use Rattle.rewriting.specs.declared.Edit.{Edit}
use Rattle.rewriting.specs.declared.rewrite.Change.{Change}
use Rattle.rewriting.specs.Output.{Puts}
use Rattle.rewriting.specs.Rewriting.{changed_text}
use Rattle.rewriting.specs.Edited.{canonical_text, edited_text, writable, Parted}
use Rattle.rewriting.specs.declared.splice.Splice.{Splice}
use Rattle.rewriting.proofs.Anywhere.{canonical_anywhere}
use Rattle.rewriting.proofs.Editable.{by-stands, edited_most}
use Rattle.rewriting.proofs.Measures.{texts_inside, canonical-text-most}
use Rattle.placing.specs.Locating.{spot_for, table_located, Locates}
use Rattle.placing.proofs.SpotLaws.{Located, spot-leads}
use Rattle.editor.proofs.Canonicalizing.{by_value}

-- ---- 14

-- the output as it was
pub puts_on : {bytes out out₁ : List ℕ} {n : ℕ} {out' : List ℕ} → out₁ ≡ out → Puts bytes 0 out₁ n out' → Puts bytes 0 out n out'
puts_on {bytes} {n = n} {out'} e p = subst (λ (o : List ℕ). Puts bytes 0 o n out') e p

pub writes-on : {text : Answer (List ℕ)} {source before after out out₁ : List ℕ} {r : Result ℕ Refusal} → out₁ ≡ out
    → Writes (terms_of before) text source before after out out r → Writes (terms_of before) text source before after out out₁ r
writes-on {text} {source} {before} {after} {out} {r = r} e w = subst (λ (o : List ℕ). Writes (terms_of before) text source before after out o r) (sym e) w

-- a text for which there is room, put in front
module _ {bytes : List ℕ} {n : ℕ} {out out' : List ℕ} (put : Puts bytes 0 out n out') where
  pub size : n ≡ length bytes
  size = put.end ∙ zero-add (length bytes)

  module _ (f : fits_in (length out) (length bytes) ≡ true) where
    fits : length bytes ≤ length out
    fits = leb→le (length bytes) (length out) (and_left (leb (length bytes) (length out)) (leb (length bytes) source_limit) (T_of f))

    -- behind it what was there
    written : out' ≡ over bytes out
    written = put.text ∙ sets-eq bytes out 0 (omega (arith, fits)) ∙ ap (λ (k : ℕ). bytes ++ drop k out) (zero-add (length bytes))

    pub prefix-inside : n ≤ length out'
    prefix-inside = omega (arith, fits, size, ap length put.text ∙ length-sets out 0 bytes)

    -- what is read again is what was written
    prefix : take n out' ≡ bytes
    prefix = ap (λ (k : ℕ). take k out') size ∙ ap (take (length bytes)) written ∙ take-append_seam bytes (drop (length bytes) out)

-- ---- what is answered and left, the bytes to write being known

module _ {text : Answer (List ℕ)} (source before out : List ℕ) where
  -- a refusal that is the definition's own, with nothing written
  refusal : {after : List ℕ} {code at : ℕ} {r : Result ℕ Refusal} → text ≡ refused code at → writing_answer r ≡ refused code at → after ≡ cleared before
      → Writes (terms_of before) text source before after out out r
  refusal {after} {r = r} e f t =
      subst (λ (a : Answer (List ℕ)). Writes (terms_of before) a source before after out out r) (sym e)
      (record { answer = f; leaves = record { table = t; output = refl } })

  pub writes-refused : {after : List ℕ} {r : Refusal} → text ≡ refused (number_of r.code) r.at → after ≡ cleared before
      → Writes (terms_of before) text source before after out out (Err r)
  unfolding writing_answer
  writes-refused e t = refusal e refl t

  -- the plan having been read: 14, or the text
  module _ (bytes : List ℕ) (e : text ≡ with_room (length out) bytes) {between : List ℕ} (t : between ≡ table_after (terms_of before) source before) where
    roomed : (b : Bool) → fits_in (length out) (length bytes) ≡ b → text ≡ (require b 14 0 >>= λ u. ok bytes)
    roomed b f = e ∙ ap (λ (b : Bool). require b 14 0 >>= λ u. ok bytes) f

    pub writes_14 : fits_in (length out) (length bytes) ≡ false → {after : List ℕ} {r : Result ℕ Refusal} → Refuses between after r
        → Writes (terms_of before) text source before after out out r
    writes_14 f c = refusal (roomed false f) c.answer (c.table ∙ ap (λ (k : ℕ). replicate k 0) (ap length t ∙ after-length (terms_of before) source before (omega arith)))

    pub writes-text : fits_in (length out) (length bytes) ≡ true → {n : ℕ} {out' : List ℕ} → Puts bytes 0 out n out'
        → {after : List ℕ} {r : Result ℕ Refusal} → Settles (take n out') between after r → Writes (terms_of before) text source before after out out' r
    writes-text f {n} {out'} put {after} {r} c =
        let same : take n out' ≡ bytes = prefix put f in
        let read_again = ap (λ (b : List ℕ). table_after (terms_of between) b between) same ∙ ap (λ (u : List ℕ). table_after (terms_of u) bytes u) t
        ∙ ap (λ (c : Terms). table_after c bytes (table_after (terms_of before) source before)) (after-terms source before) in
        subst (λ (a : Answer (List ℕ)). Writes (terms_of before) a source before after out out' r) (sym (roomed true f)) (record {
          answer = c.answer ∙ ap (λ (l : List ℕ). ok (length l)) same;
          leaves = record { table = c.table ∙ read_again; output = written put f };
        })

-- ---- an edit

-- an edit of a plan is one that is written, unless its texts are too long
fit-writable : (source t : List ℕ) (e : Edit) (key value : List ℕ) → EditFits source t e key value → length key ≤ source_limit → length value ≤ source_limit
    → writable (length source) e (length key) (length value) ≡ true
fit-writable source t e key value z h i = by-stands (length source) e (length key) (length value) z.short h i ∙ z.inside

short-room : {room : ℕ} (source t : List ℕ) (e : Edit) (key value : List ℕ) → Short room (length source) (length key) (length value) → EditFits source t e key value
    → fits_in room (length (edited_text source t e key value)) ≡ true
short-room {room} source t e key value h z =
    let f = fit-writable source t e key value z (omega (arith, h.low)) (omega (arith, h.low)) in
    let n : ℕ = length (edited_text source t e key value) in
    let m : n ≤ source_limit = omega (arith, edited_most source t e key value f z.parted, h.low) in
    rw (le-leb n room (omega (arith, m, h.enough)), le-leb n source_limit m)

pub canonical_spared : (room source key value : ℕ) (e : Edit) → e ≡ Edit.Canonical → fits_in room source ≡ true → Spared room e source key value
canonical_spared room source key value e c f = subst (λ (x : Edit). Spared room x source key value) (sym c) (shrinks f)

shrinks-room : (room : ℕ) (source t : List ℕ) → fits_in room (length source) ≡ true → fits_in room (length (canonical_text t source)) ≡ true
shrinks-room room source t h =
    let n : ℕ = length (canonical_text t source) in
    let i : length source ≤ room = leb→le (length source) room (and_left (leb (length source) room) (leb (length source) source_limit) (T_of h)) in
    let j : length source ≤ source_limit =
    leb→le (length source) source_limit (and_right (leb (length source) room) (leb (length source) source_limit) (T_of h)) in
    rw (le-leb n room (omega (arith, canonical-text-most t source, i)), le-leb n source_limit (omega (arith, canonical-text-most t source, j)))

pub spared_room : {room : ℕ} (source t : List ℕ) (e : Edit) (key value : List ℕ) → Spared room e (length source) (length key) (length value)
    → EditFits source t e key value → fits_in room (length (edited_text source t e key value)) ≡ true
spared_room {room} source t Edit.Canonical key value (shrinks h) z = shrinks-room room source t h
spared_room source t e key value (short h) z = short-room source t e key value h z

-- what is not edited at all has a text that is longer than any plan: 14, whatever the room
module _ {source t : List ℕ} {e : Edit} {key value : List ℕ} (z : EditFits source t e key value) (room : ℕ) where
  too_long : {n : ℕ} → n ≤ length (edited_text source t e key value) → source_limit < n → fits_in room (length (edited_text source t e key value)) ≡ false
  too_long {n} h i =
      let m : ℕ = length (edited_text source t e key value) in
      T_false (fits_in room m) (not_T (fits_in room m) (λ t.
      let j : m ≤ source_limit = leb→le m source_limit (and_right (leb m room) (leb m source_limit) t) in
      omega arith))

  pub unfit_14 : writable (length source) e (length key) (length value) ≡ false → fits_in room (length (edited_text source t e key value)) ≡ false
  unfit_14 g = by (order source_limit (length key)) (order source_limit (length value))
    where
      by : Order source_limit (length key) → Order source_limit (length value) → fits_in room (length (edited_text source t e key value)) ≡ false
      by (below h) j = too_long z.key h
      by (above h) (below i) = too_long z.value i
      by (above h) (above i) = absurd (true≢false (sym (fit-writable source t e key value z h i) ∙ g))

-- of an edit whose fitting is known as a fact alone
module _ {source t : List ℕ} {e : Edit} {key value : List ℕ} (z : ∥ EditFits source t e key value ∥₁) where
  pub spared_fits : {room : ℕ} → Spared room e (length source) (length key) (length value) → fits_in room (length (edited_text source t e key value)) ≡ true
  spared_fits s = ∥∥₁_elim z (Prim.hlevel props) (λ f. spared_room source t e key value s f)

-- what was said of the room
pub room_said : (r b : Bool) → room_answer r ≡ require b 14 0 → b ≡ r
room_said true true e = refl
room_said true false e = absurd (not_both (sym e))
room_said false true e = absurd (not_both e)
room_said false false e = refl

-- ---- retyping

module _ (before source : List ℕ) (v : Value) (e : read (terms_of before) source ≡ ok v) where
  plan : IsPlan (terms_of before) source v
  plan = read_ok (terms_of before) source v e

  -- the plan is a stretch of its tokens
  abbrev whole-plan : Stretch source 0 (length source)
  whole-plan = record {
    tokens = tokens v;
    fit = tokens-fit v plan.fits.valid.sound plan.fits.valid.limited;
    text = plan.printed ∙ sym (tokens-write v []) ∙ ap (write_tokens (tokens v)) (sym (drop_of_length-le source {i = length source} (omega arith)));
    inside = omega arith;
  }

  -- each token being told its node's tag in the table that reading left
  canonical-text : canonical_text (table_after (terms_of before) source before) source ≡ print (canonical v)
  canonical-text =
      ap (changed_text Change.Canonical (table_after (terms_of before) source before) 0) (between_stretch whole-plan)
      ∙ canonical_anywhere (table_after (terms_of before) source before) 0 (tokens v)
      ∙ ap (λ (ts : List Token). write_tokens ts []) (sym (tokens-canonical v))
      ∙ tokens-write (canonical v) []

  pub canonical-sound : (t : List ℕ) → EditFits source t Edit.Canonical [] []
  canonical-sound t = record {
    short = omega (arith, plan.fits.valid.short, ap length plan.printed);
    inside = refl;
    parted = λ p i. absurd (never i);
    key = omega arith;
    value = omega arith;
  }
    where
      never : {p : Splice} → Edit.Canonical ≡ Edit.Splice p → ⊥
      never i = let z : ◌≡◌ {A = ℕ} 0 1 = cc in omega arith

  pub canonical-written : {t : List ℕ} → t ≡ table_after (terms_of before) source before → (room : ℕ)
      → canonical_bytes (terms_of before) room source ≡ with_room room (canonical_text t source)
  canonical-written i room =
      by_value (terms_of before) room source v e
      ∙ ap (with_room room) (sym (ap (λ (t : List ℕ). canonical_text t source) i ∙ canonical-text))

-- ---- inserting

-- the spot that was found, and what it leads to
module _ {source : List ℕ} {node place : ℕ} {key value before after : List ℕ} where
  module _ {p : Splice} (l : Locates source node place key value before after (Ok p)) where
    spot_is : spot_for (terms_of before) source node place key value ≡ ok p
    spot_is = sym l.answer

    pub spot-table : after ≡ table_after (terms_of before) source before
    spot-table = l.table ∙ ap (λ (a : Answer Splice). table_located (terms_of before) a source before) spot_is

    pub located : Located (terms_of before) source node place key value p
    located = spot-leads (terms_of before) source node place key value p spot_is

    pub insert-sound : (t : List ℕ) → EditFits source t (Edit.Splice p) key value
    insert-sound t =
        let inside = texts_inside source key value p in
        record {
          short = located.short;
          inside = located.stands;
          parted = λ q i. subst (λ (r : Splice). Parted source r × (r.renumbering.up ≤ 1)) (same_splice i) (located.parted, located.by_one);
          key = inside.0;
          value = inside.1;
        }
      where
        same_splice : {q r : Splice} → Edit.Splice q ≡ Edit.Splice r → q ≡ r
        same_splice i = cc

  module _ {r : Refusal} (l : Locates source node place key value before after (Err r)) where
    -- refused before 14, so whatever room the output has
    insert-refused : (room : ℕ) → insert_bytes (terms_of before) room source node place key value ≡ refused (number_of r.code) r.at
    unfolding insert_bytes spot_for
    insert-refused room =
        let s = bind-refused (insertion_of (terms_of before) source node place key value) _ (number_of r.code) r.at (sym l.answer) in
        ⊎_elim (λ i. rw i) (λ i. absurd (not_both (sym i.2))) s

    pub writes_unplaced : (out : List ℕ) → Writes (terms_of before) (insert_bytes (terms_of before) (length out) source node place key value)
        source before after out out (Err r)
    writes_unplaced out =
        writes-refused source before out (insert-refused (length out))
        (l.table ∙ ap (λ (a : Answer Splice). table_located (terms_of before) a source before) (sym l.answer))
