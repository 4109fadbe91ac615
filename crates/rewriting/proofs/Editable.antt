-- What is edited at all. Assumes nothing.
use Prim.Native.Nat.{ℕ, ◌+◌, ◌*◌, ◌≤◌}
use native.Mathlib.Nat.{zero-add}
use native.Mathlib.Omega.{arith}
use mathlib.Core.Path.{◌≡◌, refl, sym, ap, ◌∙◌}
use mathlib.Core.Bool.{Bool, true, false, ◌&&◌}
use mathlib.Core.List.{List}
use Rattle.std.specs.Prelude.{Option, Some, None}
use lib.Dec.{leb, leb→le}
use lib.ListN.{length}
use lib.Seq.{sets}
use borrow.Author.Tests.{le-leb}
use Rattle.decimal.proofs.Decide.{T_of, T_true, and_left, and_right}
use Rattle.format.specs.Limits.{source_limit}
use Rattle.format.specs.Answer.{Answer, ok, refused, ◌>>=◌, require}
use Rattle.format.proofs.Answers.{ok_same, not_both}
use Rattle.rewriting.specs.declared.Edit.{Edit}
use Rattle.rewriting.specs.declared.splice.Splice.{Splice}
use Rattle.rewriting.specs.declared.output.Output.{Output}
use Rattle.rewriting.specs.Output.{Puts, Appends}
use Rattle.rewriting.specs.Edited.{edited_text, edit_stands, writable, edited_answer, edited_bytes}
use Rattle.rewriting.specs.Edited.{length_edited, output_edited, Edits, Parted}
use Rattle.rewriting.proofs.Measures.{spliced-index, parted-most, canonical-text-most}

-- ---- the tests

module _ (n : ℕ) (e : Edit) (key value : ℕ) where
  pub by-stands : n ≤ source_limit → key ≤ source_limit → value ≤ source_limit → writable n e key value ≡ edit_stands n e
  by-stands h i j = rw (le-leb n source_limit h, le-leb key source_limit i, le-leb value source_limit j)

-- ---- what they say

record Sizes (n : ℕ) (e : Edit) (k v : ℕ) : Type 0 where
  source : n ≤ source_limit
  key : k ≤ source_limit
  value : v ≤ source_limit
  standing : edit_stands n e ≡ true

sizes : (n : ℕ) (e : Edit) (key value : ℕ) → writable n e key value ≡ true → Sizes n e key value
sizes n e key value w =
    let b : Bool = leb key source_limit && (leb value source_limit && edit_stands n e) in
    let c : Bool = leb value source_limit && edit_stands n e in
    record {
      source = leb→le n source_limit (and_left (leb n source_limit) b (T_of w));
      key = leb→le key source_limit (and_left (leb key source_limit) c (and_right (leb n source_limit) b (T_of w)));
      value =
          leb→le value source_limit
          (and_left (leb value source_limit) (edit_stands n e) (and_right (leb key source_limit) c (and_right (leb n source_limit) b (T_of w))));
      standing =
          T_true (edit_stands n e)
          (and_right (leb value source_limit) (edit_stands n e) (and_right (leb key source_limit) c (and_right (leb n source_limit) b (T_of w))));
    }

-- ---- what is written

-- by the test
bytes-by : (s t : List ℕ) (e : Edit) (key value : List ℕ) (b : Bool) → writable (length s) e (length key) (length value) ≡ b
    → edited_bytes s t e key value ≡ (require b 14 0 >>= λ u. ok (edited_text s t e key value))
bytes-by s t e key value b f = ap (λ (b : Bool). require b 14 0 >>= λ u. ok (edited_text s t e key value)) f

pub leaves-unfit : (s t : List ℕ) (e : Edit) (key value : List ℕ) {out : List ℕ} → writable (length s) e (length key) (length value) ≡ false
    → Edits s t e key value out out None
unfolding edited_answer
leaves-unfit s t e key value {out} f =
    let bytes : edited_bytes s t e key value ≡ refused 14 0 = bytes-by s t e key value false f in
    record { answer = sym (ap length_edited bytes); output = sym (ap (λ (a : Answer (List ℕ)). output_edited a out) bytes) }

pub standing : (s : List ℕ) (e : Edit) (key value : List ℕ) → writable (length s) e (length key) (length value) ≡ true → edit_stands (length s) e ≡ true
standing s e key value f = (sizes (length s) e (length key) (length value) f).standing

-- so short that its length is an index: far below the highest
edited-index : (s t : List ℕ) (e : Edit) (key value : List ℕ) → writable (length s) e (length key) (length value) ≡ true
    → length (edited_text s t e key value) ≤ 1048576
edited-index s t Edit.Canonical key value f =
    omega (arith, canonical-text-most t s, (sizes (length s) Edit.Canonical (length key) (length value) f).source)
edited-index s t (Edit.Splice p) key value f =
    let z = sizes (length s) (Edit.Splice p) (length key) (length value) f in
    spliced-index s key value p z.standing z.source z.key z.value

pub edits-written : (s t : List ℕ) (e : Edit) (key value : List ℕ) {o o' : Output} → writable (length s) e (length key) (length value) ≡ true → o.length ≡ 0
    → Appends (edited_text s t e key value) o o' → {out' : List ℕ} → o'.bytes.now ≡ out' → Edits s t e key value o.bytes.now out' (Some o'.length)
unfolding edited_answer
edits-written s t e key value {o} {o'} f z w i =
    let bytes : edited_bytes s t e key value ≡ ok (edited_text s t e key value) = bytes-by s t e key value true f in
    let size : o'.length ≡ length (edited_text s t e key value) = omega (arith, w.end, z, edited-index s t e key value f) in
    record {
      answer = ap ok size ∙ sym (ap length_edited bytes);
      output = sym i ∙ w.text ∙ ap (λ (i : ℕ). sets o.bytes.now i (edited_text s t e key value)) z
          ∙ sym (ap (λ (a : Answer (List ℕ)). output_edited a o.bytes.now) bytes);
    }

-- ---- for those who edit

-- how long it is at most, between tokens, where no reference rises by more than one
pub edited_most : (s t : List ℕ) (e : Edit) (key value : List ℕ) → writable (length s) e (length key) (length value) ≡ true
    → ((p : Splice) → e ≡ Edit.Splice p → Parted s p × (p.renumbering.up ≤ 1))
    → 4 * length (edited_text s t e key value) ≤ 5 * length s + 4 * length key + 4 * length value + 36
edited_most s t Edit.Canonical key value f g = omega (arith, canonical-text-most t s)
edited_most s t (Edit.Splice p) key value f g =
    parted-most s key value p (sizes (length s) (Edit.Splice p) (length key) (length value) f).standing (g p refl).0 (g p refl).1

pub record Put (s t : List ℕ) (e : Edit) (key value out out' : List ℕ) (n : ℕ) : Type 0 where
  pub fit : writable (length s) e (length key) (length value) ≡ true
  pub text : Puts (edited_text s t e key value) 0 out n out'

pub record Untouched (s t : List ℕ) (e : Edit) (key value out out' : List ℕ) : Type 0 where
  pub unfit : writable (length s) e (length key) (length value) ≡ false
  pub same : out' ≡ out

module _ {s t : List ℕ} {e : Edit} {key value out out' : List ℕ} {r : Option ℕ} (g : Edits s t e key value out out' r) where
  -- by the test
  pub answer-by : (b : Bool) → writable (length s) e (length key) (length value) ≡ b
      → edited_answer r ≡ length_edited (require b 14 0 >>= λ u. ok (edited_text s t e key value))
  answer-by b f = g.answer ∙ ap length_edited (bytes-by s t e key value b f)

  pub output-by : (b : Bool) → writable (length s) e (length key) (length value) ≡ b
      → out' ≡ output_edited (require b 14 0 >>= λ u. ok (edited_text s t e key value)) out
  output-by b f = g.output ∙ ap (λ (a : Answer (List ℕ)). output_edited a out) (bytes-by s t e key value b f)

  pub written_of : {n : ℕ} → r ≡ Some n → Put s t e key value out out' n
  unfolding edited_answer
  written_of {n} i = by (writable (length s) e (length key) (length value)) refl
    where
      by : (b : Bool) → writable (length s) e (length key) (length value) ≡ b → Put s t e key value out out' n
      by true f = record {
        fit = f;
        text = record {
          end = ok_same (ap edited_answer (sym i) ∙ answer-by true f) ∙ sym (zero-add (length (edited_text s t e key value)));
          text = output-by true f;
        };
      }
      by false f = absurd (not_both (sym (answer-by false f) ∙ ap edited_answer i))

  pub unfit-of : r ≡ None → Untouched s t e key value out out'
  unfolding edited_answer
  unfit-of i = by (writable (length s) e (length key) (length value)) refl
    where
      by : (b : Bool) → writable (length s) e (length key) (length value) ≡ b → Untouched s t e key value out out'
      by true f = absurd (not_both (ap edited_answer (sym i) ∙ answer-by true f))
      by false f = record { unfit = f; same = output-by false f }
