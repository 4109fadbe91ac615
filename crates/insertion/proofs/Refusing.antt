-- Inserting is refused exactly where a row of paper 01's table holds and none before it does. Assumes nothing.
use mathlib.Core.Path.{◌≡◌, ◌∙◌, subst}
use mathlib.Core.Logic.{◌⊎◌}
use mathlib.Core.List.{List}
use Prim.Native.Nat.{ℕ, ◌≤◌, ◌<◌}
use lib.ListN.{length}
use borrow.Author.Tests.{le-leb}
use Rattle.format.specs.Syntax.{Key, Scalar, Value, print}
use Rattle.format.specs.Limits.{source_limit, Terms}
use Rattle.format.specs.Answer.{ok, refused}
use Rattle.format.specs.Edit.{insert}
use Rattle.format.specs.Writing.{Site, fits_in, with_room, inserted_plan, insertion_of, insert_bytes}
use Rattle.insertion.proofs.Told.{Told, through, row_of, bind, ask, too_long, refuses-bytes}
use Rattle.insertion.proofs.Steps.{WithNodes, StepRow, step_row, passes, steps_pass, row_step}

module _ (terms : Terms) (room : ℕ) (source : List ℕ) (node place : ℕ) (key value : List ℕ) where
  -- the refusals and their positions: a row of the steps before 14, or 14 with all of them passed
  pub data RefusedRow : (code at : ℕ) → Type 0 where
    step : (n p : ℕ) → StepRow terms source node place key value n p → RefusedRow n p
    no_bytes : (old : Value) (s : Site) (k : Key) (x : Scalar) → WithNodes terms source node place key value old s k x
        → (room < length (print (insert s.path place k x old))) ⊎ (source_limit < length (print (insert s.path place k x old))) → RefusedRow 14 0

  -- ---- a refusal has its row
  told : Told RefusedRow (λ (bytes : List ℕ). Unit {0}) (insert_bytes terms room source node place key value)
  unfolding insert_bytes
  told =
      bind (insertion_of terms source node place key value) _ (λ n p e. step n p (step_row terms source node place key value n p e)) (λ i e.
      let n : ℕ = length (print (inserted_plan place i)) in
      let passed = passes terms source node place key value i e in
      ask (fits_in room n) 14 0 _ (λ f. no_bytes i.plan i.site i.key i.value passed (too_long room n f)) (λ f. through _ tt))

  pub refused-row : (n p : ℕ) → insert_bytes terms room source node place key value ≡ refused n p → RefusedRow n p
  refused-row n p e = row_of (subst (Told RefusedRow (λ (bytes : List ℕ). Unit {0})) e told)

  -- ---- where a row holds there is that refusal, and where none does the insertion
  module _ (old : Value) (s : Site) (k : Key) (x : Scalar) (w : WithNodes terms source node place key value old s k x) where
    abbrev new : List ℕ
    new = print (insert s.path place k x old)

    to_write : insert_bytes terms room source node place key value ≡ with_room room (print (insert s.path place k x old))
    unfolding insert_bytes
    to_write = rw (steps_pass terms source node place key value old s k x w)

    pub accepted : length (print (insert s.path place k x old)) ≤ room → length (print (insert s.path place k x old)) ≤ source_limit
        → insert_bytes terms room source node place key value ≡ ok (print (insert s.path place k x old))
    accepted r l = to_write ∙ rw (le-leb (length new) room r, le-leb (length new) source_limit l)

  -- "A number is given exactly when its row holds and nothing earlier in the order does."
  pub row-refused : (n p : ℕ) → RefusedRow n p → insert_bytes terms room source node place key value ≡ refused n p
  unfolding insert_bytes
  row-refused n p (step m q r) = rw (row_step terms source node place key value m q r)
  row-refused n p (no_bytes old s k x w h) = to_write old s k x w ∙ rw (refuses-bytes room (length (print (insert s.path place k x old))) h)
