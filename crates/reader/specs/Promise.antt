-- WHAT READING PROMISES. The other files here say what its private functions promise each other; nothing public rests on them.
use Rattle.std.specs.Prelude.{◌≡◌, ℕ, List, Result, Ok, Err}
use Rattle.format.specs.declared.codes.Refusal.{Refusal}
use Rattle.format.specs.Codes.{number_of}
use Rattle.format.specs.Answer.{Answer, ok, refused}
use Rattle.format.specs.Reading as reading
use Rattle.format.specs.Reading.{terms_of, answer, table_after}
use Rattle.reader.specs.declared.Counts.{Counts}

-- the paper's values for what is read and its number for what is refused:
-- "Reading returns the count of nodes and of numbers taken." "A refusal returns its number and a position"
unfoldable pub reading_answer : Result Counts Refusal → Answer reading.Counts
reading_answer (Ok c) = ok (record { nodes = c.nodes; ordinals = c.ordinals })
reading_answer (Err r) = refused (number_of r.code) r.at

-- demands 1 and 2 for reading: the answer, and every word of the table, for every source and every table
pub record Reads (source before after : List ℕ) (r : Result Counts Refusal) : Type 0 where
  pub answer : reading_answer r ≡ answer (terms_of before) source
  pub table : after ≡ table_after (terms_of before) source before
