-- `reader::seen::Pairs::mark` meets its contract. Assumes nothing.
use Rattle.std.proofs.Common.{arith}
use Rattle.reader.proofs.KeyLaws as keys
use Rattle.reader.proofs.seen.Pairs.mark.Goals as goal

pub loop-i-init : goal.loop-i-init
loop-i-init c = keys.marking_none _ _ _ _ _ _ c.args.seen c.unmarked_from-i.ensures c.args.self.now.walk

pub returns-then-self-i : goal.returns-then-self-i
returns-then-self-i c = keys.marking_end c.loop-i.invariant _ _ _ _ _ c.key_or.ensures c.hash-hash.ensures c.enter-known.ensures c.if-self-i.true
    _ c.unmarked_from-i.ensures

pub loop-i-preserved : goal.loop-i-preserved
loop-i-preserved c = keys.marking_more c.loop-i.invariant _ _ _ _ _ c.key_or.ensures c.hash-hash.ensures c.enter-known.ensures c.if-self-i.false
    c.enter-known.auto.filter

pub bounds-self-i : goal.bounds-self-i
bounds-self-i c = let on = keys.marking-on c.loop-i.invariant c.if-self-i.false in omega (arith, on.0, on.1, c.args.self.now.fits)

pub loop-i-smaller : goal.loop-i-smaller
loop-i-smaller c = let on = keys.marking-on c.loop-i.invariant c.if-self-i.false in omega (arith, on.0, on.1)
