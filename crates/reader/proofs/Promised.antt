-- What follows from the promise of `read` alone, for those who call it. Assumes nothing.
use Rattle.std.proofs.Common.{◌≡◌, ℕ, ◌*◌, ◌≤◌, List, length, Ok, Err, sym, refl, ap, ◌∙◌, arith}
use Rattle.format.specs.Tree.{nodes, ordinals}
use Rattle.format.specs.Syntax.{Value, own}
use Rattle.format.specs.Limits.{Terms}
use Rattle.format.specs.Answer.{Answer, ok, refused, ◌>>=◌}
use Rattle.format.specs.Read.{read}
use Rattle.format.specs.Table.{width}
use Rattle.format.specs.declared.codes.Refusal.{Refusal}
use Rattle.format.specs.Codes.{number_of}
use Rattle.format.specs.Reading as reading
use Rattle.format.specs.Reading.{terms_of, answer}
use Rattle.format.proofs.Answers.{ok_same, not_both}
use Rattle.format.proofs.Inversion.{read_ok}
use Rattle.format.proofs.Results.{after-length}
use Rattle.reader.specs.Promise.{reading_answer, Reads}
use Rattle.reader.specs.declared.Counts.{Counts}

abbrev counts : Value → Answer reading.Counts
counts v = ok (record { nodes = nodes v; ordinals = ordinals own v })

-- the value that was read, and its counts
pub record Took (terms : Terms) (source : List ℕ) (n : reading.Counts) : Type 0 where
  pub value : Value
  pub read : read terms source ≡ ok value
  pub counted : n ≡ record { nodes = nodes value; ordinals = ordinals own value }

took : (terms : Terms) (source : List ℕ) (n : reading.Counts) (a : Answer Value) → read terms source ≡ a → ok n ≡ (a >>= counts) → Took terms source n
took terms source n (ok v) r e = record { value = v; read = r; counted = ok_same e }
took terms source n (refused code at) r e = absurd (not_both (sym e))

pub accepted : {source before after : List ℕ} {c : Counts} → Reads source before after (Ok c)
    → Took (terms_of before) source (record { nodes = c.nodes; ordinals = c.ordinals })
unfolding answer reading_answer
accepted {source} {before} reads = took (terms_of before) source _ (read (terms_of before) source) refl reads.answer

-- what an acceptance counts stands in the table: so many nodes
pub counted : (source before after : List ℕ) (c : Counts) → Reads source before after (Ok c) → c.nodes * width ≤ length after
counted source before after c reads =
    let t = accepted reads in
    let small = (read_ok (terms_of before) source t.value t.read).fits.small in
    omega (arith, small, ap (λ (n : reading.Counts). n.nodes) t.counted, ap length reads.table ∙ after-length (terms_of before) source before (omega arith))

stopped : (a : Answer Value) (code at : ℕ) → refused code at ≡ (a >>= counts) → a ≡ refused code at
stopped (ok v) code at e = absurd (not_both e)
stopped (refused c p) code at e = same e
  where
    same : {A B : Type 0} {c p d q : ℕ} → ◌≡◌ {A = Answer A} (refused c p) (refused d q) → ◌≡◌ {A = Answer B} (refused d q) (refused c p)
    same e = cc

pub refusal : {source before after : List ℕ} {r : Refusal} → Reads source before after (Err r)
    → read (terms_of before) source ≡ refused (number_of r.code) r.at
unfolding answer reading_answer
refusal {source} {before} {after} {r} reads = stopped (read (terms_of before) source) (number_of r.code) r.at reads.answer
