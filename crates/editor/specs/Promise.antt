-- WHAT THE SERVICES THAT WRITE A PLAN PROMISE. The other files here say what their private functions promise each other; nothing public rests on them.
use Rattle.std.specs.Prelude.{◌≡◌, List, ℕ, length, Result, Ok, Err}
use Rattle.format.specs.Limits.{Terms}
use Rattle.format.specs.Answer.{Answer, ok, refused, ◌>>=◌}
use Rattle.format.specs.Reading.{cleared, over, table_after}
use Rattle.format.specs.declared.codes.Refusal.{Refusal}
use Rattle.format.specs.Codes.{number_of}

-- "their length as result"
abbrev pub length_of : (bytes : Answer (List ℕ)) → Answer ℕ
length_of bytes = bytes >>= λ b. ok (length b)

-- the paper's number and values for each case: the length; "A refusal returns its number and a position"
unfoldable pub writing_answer : Result ℕ Refusal → Answer ℕ
writing_answer (Ok size) = ok size
writing_answer (Err r) = refused (number_of r.code) r.at

-- "A service that writes a plan leaves the table that reading the plan given, if there was one, and then the plan written leaves"; "makes
-- every word of the table zero"
abbrev pub table_written : Terms → Answer (List ℕ) → (source table : List ℕ) → List ℕ
table_written terms (ok bytes) source t = table_after terms bytes (table_after terms source t)
table_written terms (refused n p) source t = cleared t

-- "Any lent output past the written part keeps what it held."; "writes nothing to the output"
abbrev pub output_after : Answer (List ℕ) → (out : List ℕ) → List ℕ
output_after (ok bytes) out = over bytes out
output_after (refused n p) out = out

-- every word of the table and every byte of the output
pub record Leaves (terms : Terms) (bytes : Answer (List ℕ)) (source before after out out' : List ℕ) : Type 0 where
  pub table : after ≡ table_written terms bytes source before
  pub output : out' ≡ output_after bytes out

-- demands 1 and 2 for a service that writes: the answer, and all that it leaves, for every input
pub record Writes (terms : Terms) (bytes : Answer (List ℕ)) (source before after out out' : List ℕ) (r : Result ℕ Refusal) : Type 0 where
  pub answer : writing_answer r ≡ length_of bytes
  pub leaves : Leaves terms bytes source before after out out'
