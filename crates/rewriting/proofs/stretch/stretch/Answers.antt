-- `rewriting::stretch::stretch` meets its contract. Assumes nothing.
use native.Mathlib.Omega.{arith}
use Rattle.scanner.proofs.Numbers.{found_of}
use Rattle.rewriting.specs.Stretches.{halted, ended}
use Rattle.rewriting.proofs.Rewritten as rewritten
use Rattle.rewriting.proofs.stretch.stretch.Goals as goal

pub loop-at-preserved-in-Some : goal.loop-at-preserved-in-Some
loop-at-preserved-in-Some c = rewritten.keeps-plain c.loop-at.invariant c.loop-at-test.true c.in-Some.ensures

pub returns-in_default-token : goal.returns-in_default-token
returns-in_default-token c = let kept = c.loop-at.invariant in
    ended _ _ kept (rewritten.ends-unfit kept c.token.ensures.scans c.in_default-token.is)

pub stays-requires : goal.stays-requires
stays-requires c = found_of c.token.ensures.scans c.in-Ok.is

pub returns-then-not-stays : goal.returns-then-not-stays
returns-then-not-stays c = let kept = c.loop-at.invariant in
    let found = found_of c.token.ensures.scans c.in-Ok.is in
    let told = c.tag_at.ensures in
    halted _ _ _ kept (rewritten.halts kept c.loop-at-test.true found (rewritten.stays_as told c.stays.ensures) (c.if-not-stays.true))

pub next_node-node-requires : goal.next_node-node-requires
next_node-node-requires c = let kept = c.loop-at.invariant in
    let found = found_of c.token.ensures.scans c.in-Ok.is in
    (omega (arith, found.on, found.inside), kept.low)

pub loop-at-smaller : goal.loop-at-smaller
loop-at-smaller c = omega (arith, (found_of c.token.ensures.scans c.in-Ok.is).on, c.loop-at-test.true)

pub loop-at-preserved : goal.loop-at-preserved
loop-at-preserved c = let found = found_of c.token.ensures.scans c.in-Ok.is in
    let told = c.tag_at.ensures in
    rewritten.keeps-more c.loop-at.invariant c.loop-at-test.true found (rewritten.stays_as told c.stays.ensures)
    (c.if-not-stays.false) c.next_node-node.ensures

pub returns : goal.returns
returns c = let kept = c.loop-at.invariant in
    ended _ _ kept (rewritten.ends_there kept c.loop-at-test.false)
