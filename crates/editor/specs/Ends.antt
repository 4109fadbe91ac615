-- How a service that writes ends.
use Rattle.std.specs.Prelude.{◌≡◌, List, Bool, true, ℕ, Result, ◌+◌, ◌*◌, ◌≤◌, length}
use Rattle.format.specs.Limits.{source_limit}
use Rattle.format.specs.Answer.{Answer, ok, refused, ◌>>=◌, require}
use Rattle.format.specs.declared.codes.Refusal.{Refusal}
use Rattle.format.specs.Reading.{terms_of, cleared, table_after}
use Rattle.format.specs.Writing.{fits_in, with_room}
use Rattle.rewriting.specs.declared.Edit.{Edit}
use Rattle.rewriting.specs.declared.splice.Splice.{Splice}
use Rattle.rewriting.specs.Edited.{edited_text, edit_stands, Parted}
use Rattle.editor.specs.Promise.{writing_answer, Writes}

-- the paper's number where there is no room: "bytes to write exceed the output's length or 65,536" is 14, at 0
abbrev pub room_answer : (enough : Bool) → Answer (Unit {0})
room_answer enough = require enough 14 0

-- of a text by its length
abbrev pub room_of : (room : ℕ) → (size : Answer ℕ) → Answer (Unit {0})
room_of room size = size >>= λ n. require (fits_in room n) 14 0

-- so answered, the plan having been read
pub record Refuses (t t' : List ℕ) (r : Result ℕ Refusal) : Type 0 where
  pub answer : writing_answer r ≡ refused 14 0
  pub table : t' ≡ cleared t

-- the bytes written are read
pub record Settles (bytes t t' : List ℕ) (r : Result ℕ Refusal) : Type 0 where
  pub answer : writing_answer r ≡ ok (length bytes)
  pub table : t' ≡ table_after (terms_of t) bytes t

-- lengths of texts that need not be measured: what is written is at most five quarters of the source, with the texts and a head of nine bytes
pub record Short (room source key value : ℕ) : Type 0 where
  pub enough : source_limit ≤ room
  pub low : 5 * source + 4 * key + 4 * value + 36 ≤ 4 * source_limit

-- an edit that need not be measured: a canonical text is never longer than its source
pub data Spared (room : ℕ) : Edit → (source key value : ℕ) → Type 0 where
  shrinks : {source key value : ℕ} → fits_in room source ≡ true → Spared room Edit.Canonical source key value
  short : {e : Edit} {source key value : ℕ} → Short room source key value → Spared room e source key value

-- an edit of a plan that was read: it has its place there, between tokens, no reference rises by more than one, and its texts are part of what is written
pub record EditFits (s t : List ℕ) (e : Edit) (k v : List ℕ) : Type 0 where
  pub short : length s ≤ source_limit
  pub inside : edit_stands (length s) e ≡ true
  pub parted : (p : Splice) → e ≡ Edit.Splice p → Parted s p × (p.renumbering.up ≤ 1)
  pub key : length k ≤ length (edited_text s t e k v)
  pub value : length v ≤ length (edited_text s t e k v)

-- 14; the output is as it was
pub record Roomed (s t : List ℕ) (e : Edit) (key value out out' : List ℕ) (r : Bool) : Type 0 where
  pub answer : room_answer r ≡ room_of (length out) (ok (length (edited_text s t e key value)))
  pub same : out' ≡ out

-- the answer, the table and the output, the bytes to write being known
abbrev pub Finishes : (s : List ℕ) → Edit → (key value t t' out out' : List ℕ) → Result ℕ Refusal → Type 0
Finishes s e key value t t' out out' r =
    (before : List ℕ) (text : Answer (List ℕ)) → t ≡ table_after (terms_of before) s before → text ≡ with_room (length out) (edited_text s t e key value)
    → Writes (terms_of before) text s before t' out out' r
