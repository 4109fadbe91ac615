-- `reader::value::read_value`, `read_container` and `read_pairs`, a cycle of calls: the bytes left fall.
use Rattle.std.proofs.Common.{◌+◌, ◌-◌, ◌*◌, ◌≤◌, length}
use Rattle.reader.proofs.PairSteps as pairs
use Rattle.reader.proofs.value.+read_container_read_pairs_read_value.Given as goal

abbrev pub decreases-read_container : goal.decreases-read_container
decreases-read_container l = 3 * (length l.source.now - l.cursor.at)

abbrev pub decreases-read_pairs : goal.decreases-read_pairs
decreases-read_pairs l = 3 * (length l.source.now - l.start.at) + 2

abbrev pub decreases-read_value : goal.decreases-read_value
decreases-read_value l = 3 * (length l.source.now - l.cursor.at) + 1

abbrev pub invariant-read_pairs-loop : goal.invariant-read_pairs-loop
invariant-read_pairs-loop l = record {
  within : l.counter ≤ l.count;
  run : pairs.Run l.source l.initial.table l.table l.initial.filter l.filter l.capacity l.container l.count l.initial.cursor l.cursor (l.count - l.counter)
      l.seen;
}
