-- `reader::seen::Pairs::mark` meets its contract. Assumes nothing.
use Rattle.std.proofs.Common.{◌-◌}
use Rattle.reader.proofs.KeyLaws as keys
use Rattle.reader.proofs.seen.Pairs.mark.Given as goal

abbrev pub invariant-loop-i : goal.invariant-loop-i
invariant-loop-i l = keys.Marking l.self.source.now l.self.table.now l.initial.filter l.filter l.self.first l.self.node l.initial.i l.i

abbrev pub decreases-loop-i : goal.decreases-loop-i
decreases-loop-i l = l.self.node - l.i
