-- `reader::leaf::read_reference` meets its contract. Assumes nothing.
use Rattle.std.proofs.Common.{refl, arith}
use Rattle.reader.specs.Texts.{reference_kinds}
use Rattle.reader.proofs.Exits.{exit, found_at, unfit_at}
use Rattle.reader.proofs.Leaves as leaves
use Rattle.reader.proofs.leaf.read_reference.Goals as goal

pub returns-in_err-check_room : goal.returns-in_err-check_room
returns-in_err-check_room c = let tagged = c.requires.tag_at in
    exit _ _ _ _ c.from_residual.ensures.1 (leaves.gate_shut _ _ _ _ tagged.0 reference_kinds tt tagged.1 _ _ c.in_err-check_room.ensures)

pub returns-in_err-text : goal.returns-in_err-text
returns-in_err-text c =
    let tagged = c.requires.tag_at in
    exit _ _ _ _ c.from_residual-in_err-text.ensures.1
    (leaves.reference_not _ _ _ _ tagged.0 tagged.1 c.in_ok-check_room.ensures _ _ (unfit_at c.named.ensures.scans _ _ _ c.in_err-text.ensures))

pub returns-then-named-eq0 : goal.returns-then-named-eq0
returns-then-named-eq0 c =
    let tagged = c.requires.tag_at in
    let is = found_at c.named.ensures.scans _ c.in_ok-text.ensures in
    rw c.at.ensures (leaves.reference_zero _ _ _ _ tagged.0 tagged.1 c.in_ok-check_room.ensures _ is c.if-named-eq0.true)

pub returns-then-cursor-named : goal.returns-then-cursor-named
returns-then-cursor-named c =
    let tagged = c.requires.tag_at in
    let is = found_at c.named.ensures.scans _ c.in_ok-text.ensures in
    rw c.at-then-cursor-named.ensures
    (leaves.reference-above _ _ _ _ tagged.0 tagged.1 c.in_ok-check_room.ensures _ is c.if-named-eq0.false c.if-cursor-named.true)

pub add_node-requires : goal.add_node-requires
add_node-requires c =
    let fit = c.requires.fit in
    (omega (arith, fit.table, (leaves.room-there _ _ c.in_ok-check_room.ensures).1), fit.ordinal)

pub returns : goal.returns
returns c =
    let tagged = c.requires.tag_at in
    let is = found_at c.named.ensures.scans _ c.in_ok-text.ensures in
    leaves.reference_good _ _ _ _ tagged.0 tagged.1 c.in_ok-check_room.ensures _ is c.if-named-eq0.false c.if-cursor-named.false _ _ _ _ _ _ _ c.requires.fit refl
    c.has_ordinal.ensures c.node_of.ensures c.unwrap_or-target.ensures c.add_node.ensures
