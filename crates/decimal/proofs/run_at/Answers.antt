-- The byte that `get` gave is the one that stands there.
use Rattle.std.proofs.Common.{◌≡◌, get_or, arith}
use Rattle.decimal.proofs.Runs.{scanned_more}
use Rattle.decimal.proofs.run_at.Goals as goal

pub loop-digit-preserved : goal.loop-digit-preserved
loop-digit-preserved c =
    let found = c.in-Some-48-to-57.ensures.lookup in
    let read : c.in-Some-48-to-57.digit.now ≡ get_or c.args.source.now c.loop-digit.next 0 = found.4 (omega arith) 0 in
    scanned_more _ _ _ _ _ _ c.loop-digit.invariant (found.3).0 (omega arith) (omega arith) (rw (← read) c.push_digit-value.ensures)
