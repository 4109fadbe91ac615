-- `reader::value::read_value`, `read_container` and `read_pairs`, a cycle of calls, meet their contracts. Assumes nothing.
use Rattle.std.proofs.Common.{◌+◌, ◌-◌, sym, refl, ap, ◌∙◌, get_or, arith, rules}
use Rattle.reader.specs.declared.cursor.Cursor.{Cursor}
use Rattle.reader.specs.Texts.{container_kinds}
use Rattle.reader.specs.Steps.{TagAt}
use Rattle.reader.proofs.Tagged as tagged
use Rattle.reader.proofs.Exits.{exit, found_at, unfit_at}
use Rattle.reader.proofs.Leaves as leaves
use Rattle.reader.proofs.ContainerSteps as containers
use Rattle.reader.proofs.PairSteps as pairs
use Rattle.reader.proofs.value.+read_container_read_pairs_read_value.Goals as goal

-- ---- `read_container`

pub read_container-returns-in_err-check_room-clause-meets : goal.read_container-returns-in_err-check_room-clause-meets
read_container-returns-in_err-check_room-clause-meets t c =
    let here = c.requires.tag_at in
    exit _ _ _ _ c.from_residual.ensures.1 (leaves.gate_shut _ _ _ _ here.0 container_kinds tt here.1 _ _ c.in_err-check_room.ensures)

pub read_container-returns-in_err-text-clause-meets : goal.read_container-returns-in_err-text-clause-meets
read_container-returns-in_err-text-clause-meets t c =
    let here = c.requires.tag_at in
    exit _ _ _ _ c.from_residual-in_err-text.ensures.1
    (containers.head_not _ _ _ _ here.0 here.1 c.in_ok-check_room.ensures _ _ (unfit_at c.head.ensures _ _ _ c.in_err-text.ensures))

pub read_container-open_node-inside-requires : goal.read_container-open_node-inside-requires
read_container-open_node-inside-requires t c =
    let fit = c.requires.fit in
    let there = leaves.room-there _ _ c.in_ok-check_room.ensures in
    (omega (arith, fit.table, there.1), fit.ordinal, there.0)

pub read_container-read_pairs-requires : goal.read_container-read_pairs-requires
read_container-read_pairs-requires t c =
    let fit = c.requires.fit in
    let is = found_at c.head.ensures _ c.in_ok-text.ensures in
    let first = containers.first-pair _ _ _ _ _ _ c.requires.tag_at.1 c.open_node-inside.ensures in (
      omega (arith, c.decreases, ap (λ (i : Cursor). i.at) first, is.on, is.inside),
      containers.first-fit _ _ _ _ _ _ _ first is.inside fit (leaves.room-there _ _ c.in_ok-check_room.ensures).1 c.open_node-inside.auto.table,
    )

pub read_container-returns-in_err-last-clause-meets : goal.read_container-returns-in_err-last-clause-meets
read_container-returns-in_err-last-clause-meets t c =
    let here = c.requires.tag_at in
    let is = found_at c.head.ensures _ c.in_ok-text.ensures in
    exit _ _ _ _ c.from_residual-in_err-last.ensures.1
    (containers.pairs-refused _ _ _ _ here.0 here.1 c.in_ok-check_room.ensures _ is _
    (containers.first-pair _ _ _ _ _ _ here.1 c.open_node-inside.ensures) _ _ c.in_err-last.ensures.meets_pairs)

pub read_container-returns-then-not-byte_is-clause-meets : goal.read_container-returns-then-not-byte_is-clause-meets
read_container-returns-then-not-byte_is-clause-meets t c =
    let here = c.requires.tag_at in
    let is = found_at c.head.ensures _ c.in_ok-text.ensures in
    rw c.at.ensures (containers.brace_missing _ _ _ _ here.0 here.1 c.in_ok-check_room.ensures _ is c.args.table.now _ _ c.args.table.now c.requires.fit _ _
    c.open_node-inside.ensures c.in_ok-last.ensures.meets_pairs (sym c.byte_is.ensures ∙ c.if-not-byte_is.true))

pub read_container-returns-clause-meets : goal.read_container-returns-clause-meets
read_container-returns-clause-meets t c =
    let here = c.requires.tag_at in
    let is = found_at c.head.ensures _ c.in_ok-text.ensures in
    containers.container_good _ _ _ _ here.0 here.1 c.in_ok-check_room.ensures _ is c.args.table.now _ _ _ c.requires.fit _ _ c.open_node-inside.ensures c.in_ok-last.ensures.meets_pairs
    (sym c.byte_is.ensures ∙ c.if-not-byte_is.false) c.read_pairs.auto.table c.put_end.ensures

-- ---- `read_value`

pub read_value-returns-then-source-at-clause-meets : goal.read_value-returns-then-source-at-clause-meets
read_value-returns-then-source-at-clause-meets t c = rw c.at.ensures (leaves.gate_end _ _ _ c.if-source-at.true c.requires.inside)

pub read_value-returns-in_default-clause-meets : goal.read_value-returns-in_default-clause-meets
read_value-returns-in_default-clause-meets t c =
    let here : TagAt c.args.source.now c.args.cursor (get_or c.args.source.now c.args.cursor.at 0) = record { inside = c.if-source-at.false; is = refl } in
    rw c.at-in_default.ensures (leaves.gate_other _ _ _ _ here (tagged.none-chosen (get_or c.args.source.now c.args.cursor.at 0) (search rules)))

-- ---- `read_pairs`

pub read_pairs-loop-init : goal.read_pairs-loop-init
read_pairs-loop-init t c = record { within = omega arith; run = pairs.run_start _ _ _ _ _ _ _ _ (omega arith) c.requires }

pub read_pairs-returns-in_err-behind-clause-meets_pairs : goal.read_pairs-returns-in_err-behind-clause-meets_pairs
read_pairs-returns-in_err-behind-clause-meets_pairs t c =
    let run = c.loop.invariant.run in
    exit _ _ _ _ c.from_residual.ensures.1 (pairs.run_key_bad run (c.args.count - (c.loop.counter + 1)) (omega arith) _ _ (c.in_err-behind.ensures.meets_key run.earlier run.keys))

pub read_pairs-read_value-requires : goal.read_pairs-read_value-requires
read_pairs-read_value-requires t c =
    let run = c.loop.invariant.run in
    let key = c.in_ok-behind.ensures.meets_key run.earlier run.keys in
    let behind = pairs.run_on run in
    (omega (arith, c.decreases, key.on, key.inside, behind), pairs.mid_fit run (c.args.count - (c.loop.counter + 1)) (omega arith) _ _ key c.read_key.auto.table)

pub read_pairs-returns-in_err-cursor-clause-meets_pairs : goal.read_pairs-returns-in_err-cursor-clause-meets_pairs
read_pairs-returns-in_err-cursor-clause-meets_pairs t c =
    let run = c.loop.invariant.run in
    let key = c.in_ok-behind.ensures.meets_key run.earlier run.keys in
    exit _ _ _ _ c.from_residual-in_err-cursor.ensures.1
    (pairs.run_value_bad run (c.args.count - (c.loop.counter + 1)) (omega arith) _ _ key _ _ c.in_err-cursor.ensures.meets)

pub read_pairs-loop-preserved : goal.read_pairs-loop-preserved
read_pairs-loop-preserved t c =
    let run = c.loop.invariant.run in
    let key = c.in_ok-behind.ensures.meets_key run.earlier run.keys in
    record {
      within = omega arith;
      run = pairs.run_more run (c.args.count - (c.loop.counter + 1)) (omega arith) _ _ key _ _ c.in_ok-cursor.ensures.meets c.read_key.auto.table
          c.read_value.auto.table _ _ c.read_key.auto.filter c.read_value.auto.filter _ c.in_ok-behind.was c.read_key.ensures.remembers
          c.read_value.ensures.grows _ _ c.key_at.ensures c.next-seen.ensures;
    }

pub read_pairs-returns-clause-meets_pairs : goal.read_pairs-returns-clause-meets_pairs
read_pairs-returns-clause-meets_pairs t c = pairs.run_done c.loop.invariant.run (omega arith)
