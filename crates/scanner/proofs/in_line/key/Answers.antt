-- `scanner::in_line::key` meets its contract. Assumes nothing.
use Rattle.scanner.proofs.Numbers.{answered}
use Rattle.scanner.proofs.Scalars as scalars
use Rattle.scanner.proofs.in_line.key.Goals as goal

pub returns-in-105 : goal.returns-in-105
returns-in-105 c = scalars.answers_as _ _ _ _ c.in-105.is c.integer.ensures

pub returns-in-115 : goal.returns-in-115
returns-in-115 c = answered (scalars.scalar-string _ _ _ _ c.in-115.is c.quoted.ensures.scans)
