-- `key_filter::mixed_text` meets its contract. Assumes nothing.
use native.Mathlib.Omega.{arith}
use Rattle.key_filter.proofs.Hashing as hashing
use Rattle.key_filter.proofs.mixed_text.Goals as goal

pub loop-left-preserved : goal.loop-left-preserved
loop-left-preserved c = let loop = c.loop-left in
    let source = c.args.source.now in (
      omega arith,
      hashing.words_more source _ _ loop.at loop.left _ (omega (arith, loop.invariant.0)) loop.invariant.1 _ _ c.loop-left-test.true
          c.halves_at.ensures c.mixed-hash.ensures,
    )

pub returns-then-left-eq0 : goal.returns-then-left-eq0
returns-then-left-eq0 c = let loop = c.loop-left in
    let source = c.args.source.now in
    hashing.words-end source _ _ loop.at loop.left _ (omega (arith, loop.invariant.0)) loop.invariant.1 c.if-left-eq0.true

pub returns : goal.returns
returns c = let loop = c.loop-left in
    let source = c.args.source.now in
    hashing.words_last source _ _ loop.at loop.left _ (omega (arith, loop.invariant.0)) loop.invariant.1 _ _ c.loop-left-test.false
    (omega (arith, c.if-left-eq0.false)) c.rest_at.ensures c.mixed.ensures
