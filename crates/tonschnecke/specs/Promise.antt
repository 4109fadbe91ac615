-- What the C interface promises: the struct that C gets says the definition's answer.
use Rattle.std.specs.Prelude.{◌≡◌, List, ℕ}
use Rattle.format.specs.Limits.{Terms}
use Rattle.format.specs.Answer.{Answer, ok, refused}
use Rattle.format.specs.Reading.{terms_of, Counts, answer, table_after}
use Rattle.editor.specs.Promise.{length_of, Leaves}
use Rattle.tonschnecke.specs.declared.reading.TonReading.{TonReading}
use Rattle.tonschnecke.specs.declared.writing.TonWriting.{TonWriting}

-- no refusal has number 0, so code 0 says that the plan is accepted
unfoldable pub reading_of : Answer Counts → TonReading
reading_of (ok counts) = record { code = 0; at = 0; nodes = counts.nodes; ordinals = counts.ordinals }
reading_of (refused code at) = record { code = code; at = at; nodes = 0; ordinals = 0 }

-- demands 1 and 2 for reading, as C sees it: the whole struct, and every word of the table
pub record TonReads (source before after : List ℕ) (r : TonReading) : Type 0 where
  pub answer : r ≡ reading_of (answer (terms_of before) source)
  pub table : after ≡ table_after (terms_of before) source before

-- and code 0 says that the bytes are written
unfoldable pub writing_of : Answer ℕ → TonWriting
writing_of (ok size) = record { code = 0; at = 0; length = size }
writing_of (refused code at) = record { code = code; at = at; length = 0 }

-- the same for a service that writes a plan: the whole struct, every word of the table, every byte of the output
pub record TonWrites (terms : Terms) (bytes : Answer (List ℕ)) (source before after out out' : List ℕ) (r : TonWriting) : Type 0 where
  pub answer : r ≡ writing_of (length_of bytes)
  pub leaves : Leaves terms bytes source before after out out'
