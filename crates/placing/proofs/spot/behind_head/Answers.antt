-- `placing::spot::behind_head` meets its contract. Assumes nothing.
use Rattle.scanner.proofs.Numbers.{found_of, unfit-of}
use Rattle.placing.proofs.Gaps as gaps
use Rattle.placing.proofs.spot.behind_head.Goals as goal

pub returns-in_default : goal.returns-in_default
returns-in_default c = λ h. absurd (gaps.head-fit h (unfit-of c.token.ensures.scans c.in_default.is))

pub returns : goal.returns
returns c = λ h. gaps.behind-head h _ (found_of c.token.ensures.scans c.in-Ok.is)
