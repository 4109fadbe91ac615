-- `rewriting::rewrite::rewrite` meets its contract. Assumes nothing.
use native.Mathlib.Omega.{arith}
use Rattle.rewriting.proofs.Rewritten as rewritten
use Rattle.rewriting.proofs.rewrite.rewrite.Goals as goal

-- the text first: what an edit breaks is seen there

pub returns-in-End : goal.returns-in-End
returns-in-End c = let stop = rewritten.ended_of c.stretch.ensures c.in-End.is in
    rewritten.rewriting_all c.loop-at.invariant stop.keeps stop.ends c.append.ensures

pub loop-at-preserved : goal.loop-at-preserved
loop-at-preserved c = let stop = rewritten.halted-of c.stretch.ensures c.in-Token.is in
    rewritten.rewriting_more c.loop-at.invariant stop.0 stop.1 c.append-in-Token.ensures c.tag_at.ensures c.respell-kept.ensures c.next_node-next.ensures

pub loop-at-init : goal.loop-at-init
loop-at-init c = rewritten.rewriting-none _ _ _ _ _ _ c.min-behind.ensures

pub respell-kept-requires : goal.respell-kept-requires
respell-kept-requires c = let stop = rewritten.halted-of c.stretch.ensures c.in-Token.is in
    rewritten.token-bounds c.loop-at.invariant stop.0 stop.1 c.requires

pub slice_bounds-append-end-in-Token : goal.slice_bounds-append-end-in-Token
slice_bounds-append-end-in-Token c = let stop = rewritten.halted-of c.stretch.ensures c.in-Token.is in
    omega (arith, rewritten.numbered-on c.loop-at.invariant stop.0 stop.1, stop.1.found.inside)

pub loop-at-smaller : goal.loop-at-smaller
loop-at-smaller c = let stop = rewritten.halted-of c.stretch.ensures c.in-Token.is in
    omega (arith, stop.0.on, stop.1.found.on, stop.1.found.inside)
