-- WHAT AN EDIT WRITES, of any source.
use Rattle.std.specs.Prelude.{◌≡◌, List, ◌++◌, Option, Some, None, Bool, true, ◌&&◌, ℕ, ◌-◌, leb, length}
use Rattle.std.proofs.lemmas.List.Edits.{sets}
use Rattle.format.specs.Limits.{source_limit, number_limit}
use Rattle.format.specs.Answer.{Answer, ok, refused, ◌>>=◌, require}
use Rattle.tokens.specs.Between.{Stretch}
use Rattle.rewriting.specs.declared.Edit.{Edit}
use Rattle.rewriting.specs.declared.rewrite.Change.{Change}
use Rattle.rewriting.specs.declared.splice.Splice.{Splice}
use Rattle.rewriting.specs.Shortest.{numbered_text}
use Rattle.rewriting.specs.Rewriting.{rewritten_text, renumbered_between}

-- "Every integer and number in shortest decimal form"
abbrev pub canonical_text : (table s : List ℕ) → List ℕ
canonical_text t s = rewritten_text Change.Canonical t 0 s 0 (length s)

-- the array's head with its new count: its tag and colon, the count in shortest form, a colon and a brace
abbrev pub spliced_head : List ℕ → Splice → List ℕ
spliced_head s p = numbered_text s p.at p.count (p.inside - 2) p.inside

-- the bytes before the head, the head, those behind it up to where bytes are left out, "Both go in as they stand", and the bytes from there on; references
-- renumbered, wherever they stand
abbrev pub spliced_text : (s key value : List ℕ) → Splice → List ℕ
spliced_text s key value p =
    renumbered_between p.renumbering s 0 p.at
    ++ (spliced_head s p ++ (renumbered_between p.renumbering s p.inside p.from
    ++ (key ++ (value ++ renumbered_between p.renumbering s p.to (length s)))))

abbrev pub edited_text : (s table : List ℕ) → Edit → (key value : List ℕ) → List ℕ
edited_text s t Edit.Canonical key value = canonical_text t s
edited_text s t (Edit.Splice p) key value = spliced_text s key value p

-- ---- what is edited at all: texts that a plan can hold, and a splice whose head is there, and whose numbers do not overflow

abbrev pub stands : (size : ℕ) → Splice → Bool
stands n p =
    leb 2 p.inside && (leb p.at (p.inside - 2) && (leb p.inside n && (leb p.count number_limit
    && (leb p.renumbering.up number_limit && leb p.renumbering.down p.renumbering.from))))

abbrev pub edit_stands : (size : ℕ) → Edit → Bool
edit_stands n Edit.Canonical = true
edit_stands n (Edit.Splice p) = stands n p

abbrev pub writable : (size : ℕ) → Edit → (key value : ℕ) → Bool
writable n e key value = leb n source_limit && (leb key source_limit && (leb value source_limit && edit_stands n e))

-- WHAT WRITING ANSWERS AND LEAVES

-- the paper's number and values: the length of the whole; 14, since of an edit of a plan that was read what is not edited at all would be longer than a plan
-- may be (`unfit_14`, crates/editor)
unfoldable pub edited_answer : Option ℕ → Answer ℕ
edited_answer (Some size) = ok size
edited_answer None = refused 14 0

-- what is to write
abbrev pub edited_bytes : (s table : List ℕ) → Edit → (key value : List ℕ) → Answer (List ℕ)
edited_bytes s t e key value = do
  _ ← require (writable (length s) e (length key) (length value)) 14 0
  ok (edited_text s t e key value)

-- the length of the whole, whatever the room
abbrev pub length_edited : Answer (List ℕ) → Answer ℕ
length_edited bytes = bytes >>= λ b. ok (length b)

-- stored from the output's first byte on as far as there is room; what is not edited leaves the output as it was
abbrev pub output_edited : Answer (List ℕ) → (out : List ℕ) → List ℕ
output_edited (ok bytes) out = sets out 0 bytes
output_edited (refused n p) out = out

-- the answer, and every byte of the output, for every input
pub record Edits (s table : List ℕ) (e : Edit) (key value out out' : List ℕ) (r : Option ℕ) : Type 0 where
  pub answer : edited_answer r ≡ length_edited (edited_bytes s table e key value)
  pub output : out' ≡ output_edited (edited_bytes s table e key value) out

-- ---- what holds of a splice

-- indices between tokens: they fill the source before the array's head, behind it up to where bytes are left out, there, and from there on
pub record Parted (s : List ℕ) (p : Splice) : Type 0 where
  pub front : Stretch s 0 p.at
  pub middle : Stretch s p.inside p.from
  pub left : Stretch s p.from p.to
  pub back : Stretch s p.to (length s)
