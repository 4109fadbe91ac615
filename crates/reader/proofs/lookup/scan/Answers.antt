-- `reader::lookup::scan` meets its contract. Assumes nothing.
use Rattle.std.proofs.Common.{◌≡◌, ℕ, ◌<◌, ◌≤◌, List, rules}
use Rattle.std.specs.Prelude.{Option, Some, None, MatchOption}
use Rattle.std.proofs.lemmas.Iterator.{first_from_Range}
use Rattle.format.specs.Table.{word_at, ordinal_word}
use Rattle.reader.specs.Nodes.{CarrierIn}
use Rattle.reader.proofs.lookup.scan.Goals as goal

carrier : {t : List ℕ} {from to n : ℕ} (r : Option ℕ)
    → MatchOption r ((i : ℕ) → from ≤ i → i < to → word_at t i ordinal_word ≡ n → ⊥)
    (λ i. (from ≤ i) × (i < to) × (word_at t i ordinal_word ≡ n) × ((k : ℕ) → from ≤ k → k < i → word_at t k ordinal_word ≡ n → ⊥))
    → CarrierIn t from to n r
carrier None h = record { found = tt; none = h }
carrier (Some i) h = record { found = (h.1, h.2); none = tt }

pub returns : goal.returns
returns c =
    let t : List ℕ = c.args.table.now in
    let n : ℕ = c.args.ordinal in
    carrier _ (first_from_Range _ _ _ _ (λ i. word_at t i ordinal_word ≡ n) (λ i. word_at t i ordinal_word ≡ n → ⊥) c.find.ensures.ran
    (λ i f q. search rules) (λ i f q. search rules))
