-- `placing::target::pair_node` meets its contract. Assumes nothing.
use mathlib.Core.Path.{◌≡◌}
use Rattle.placing.specs.Words.{pair_node}
use Rattle.placing.proofs.target.pair_node.Given as goal

abbrev pub invariant-loop : goal.invariant-loop
invariant-loop l = l.node ≡ pair_node l.table l.first l.counter
