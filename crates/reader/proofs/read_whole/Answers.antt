-- `reader::read_whole` meets its contract. Assumes nothing.
use Rattle.reader.proofs.Exits.{exit}
use Rattle.reader.proofs.WholeSteps as whole
use Rattle.reader.proofs.read_whole.Goals as goal

pub returns-then-source-gt-SOURCE_LIMIT : goal.returns-then-source-gt-SOURCE_LIMIT
returns-then-source-gt-SOURCE_LIMIT c = rw c.at.ensures (whole.whole_long _ _ c.if-source-gt-SOURCE_LIMIT.true)

pub returns-in_err-end : goal.returns-in_err-end
returns-in_err-end c = exit _ _ _ _ c.from_residual.ensures.1 (whole.whole_bad _ _ c.if-source-gt-SOURCE_LIMIT.false _ _ c.in_err-end.ensures.meets)

pub returns-then-end-source : goal.returns-then-end-source
returns-then-end-source c = rw c.at-then-end-source.ensures
    (whole.whole-more _ _ _ _ _ c.if-source-gt-SOURCE_LIMIT.false c.in_ok-end.ensures.meets c.if-end-source.true)

pub returns : goal.returns
returns c = whole.whole_good _ _ _ _ _ c.if-source-gt-SOURCE_LIMIT.false c.in_ok-end.ensures.meets c.if-end-source.false
