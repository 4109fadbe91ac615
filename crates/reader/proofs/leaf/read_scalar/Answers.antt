-- `reader::leaf::read_scalar` meets its contract. Assumes nothing.
use Rattle.std.proofs.Common.{arith}
use Rattle.format.specs.Kind.{scalar_kinds}
use Rattle.reader.proofs.ScalarTexts.{scalar-behind}
use Rattle.reader.proofs.Exits.{exit, found_at, unfit_at}
use Rattle.reader.proofs.Leaves as leaves
use Rattle.reader.proofs.leaf.read_scalar.Goals as goal

pub returns-in_err-check_room : goal.returns-in_err-check_room
returns-in_err-check_room g c = let here = c.requires.tag_at in
    exit _ _ _ _ c.from_residual.ensures.1 (leaves.gate_shut _ _ _ _ here.0 scalar_kinds tt here.1 _ _ c.in_err-check_room.ensures)

pub returns-in_err-text : goal.returns-in_err-text
returns-in_err-text g c = let here = c.requires.tag_at in
    let told = scalar-behind here.1 c.scan.ensures.scans in
    exit _ _ _ _ c.from_residual-in_err-text.ensures.1
    (leaves.scalar_not _ _ _ _ here.0 here.1 c.in_ok-check_room.ensures _ _ (unfit_at told _ _ _ c.in_err-text.ensures))

pub add_node-requires : goal.add_node-requires
add_node-requires g c = let fit = c.requires.fit in
    (omega (arith, fit.table, (leaves.room-there _ _ c.in_ok-check_room.ensures).1), fit.ordinal)

pub returns : goal.returns
returns g c = let here = c.requires.tag_at in
    let told = scalar-behind here.1 c.scan.ensures.scans in
    leaves.scalar_good _ _ _ _ here.0 here.1 c.in_ok-check_room.ensures _ _ _ _ _ c.requires.fit (found_at told _ c.in_ok-text.ensures)
    c.has_ordinal-taken.ensures c.add_node.ensures
