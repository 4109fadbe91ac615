-- `reader::lookup::node_of` meets its contract. Assumes nothing.
use Rattle.std.proofs.Common.{◌≡◌, ℕ, ◌<◌, ◌≤◌, List, rules, arith}
use Rattle.std.specs.Prelude.{Option, Some, None, MatchOption}
use Rattle.decimal.proofs.Decide.{Order, below, above, order}
use Rattle.format.specs.Table.{word_at, ordinal_word}
use Rattle.reader.specs.Nodes.{CarrierIn}
use Rattle.reader.proofs.lookup.node_of.Goals as goal

module _ {t : List ℕ} {from to n : ℕ} (h : from ≤ to) where
  both : (r : Option ℕ) → CarrierIn t from to n None → CarrierIn t 0 from n r → CarrierIn t 0 to n r
  both (Some i) later earlier = record { found = (omega (arith, earlier.found.0), earlier.found.1); none = tt }
  both None later earlier = record { found = tt; none = λ i l u. go i u (order i from) }
    where
      go : (i : ℕ) → i < to → Order i from → word_at t i ordinal_word ≡ n → ⊥
      go i u (below l) = earlier.none i (omega arith) l
      go i u (above l) = later.none i l u

  joined : {r : Option ℕ} {Earlier : Type 0} (later : Option ℕ) → CarrierIn t from to n later
      → MatchOption later Earlier (λ i. r ≡ Some i) → (Earlier → CarrierIn t 0 from n r) → CarrierIn t 0 to n r
  joined {r} None a e f = both r a (f e)
  joined (Some i) a e f = rw e record { found = a.found; none = tt }

pub returns : goal.returns
returns c = joined c.hint-from.ensures _ c.scan.ensures c.or_else.ensures (λ e. search rules)
