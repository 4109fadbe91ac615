-- `reader::seen::Pairs::has` meets its contract. Assumes nothing.
use Rattle.reader.proofs.KeyLaws as keys
use Rattle.reader.proofs.seen.Pairs.has.Goals as goal

pub returns-then-rises : goal.returns-then-rises
returns-then-rises c = keys.tested_rising _ _ _ _ _ _ _ _ _ c.rises.ensures c.if-rises.true

pub returns-then-filter-eq0 : goal.returns-then-filter-eq0
returns-then-filter-eq0 c = keys.tested_bare _ _ _ _ _ _ _ _ _ c.rises.ensures c.args.self.now.fits _ c.has_key.ensures c.if-rises.false
    c.if-filter-eq0.true

pub returns-then-not-mark : goal.returns-then-not-mark
returns-then-not-mark c = keys.tested_new _ _ _ _ _ _ _ _ _ c.rises.ensures c.if-rises.false _ _ c.mark.ensures (c.if-not-mark.true)

pub returns : goal.returns
returns c = keys.tested_walk _ _ _ _ _ _ _ _ _ c.rises.ensures c.if-rises.false _ _ c.mark.ensures
    c.args.self.now.fits _ c.has_key-2.ensures
