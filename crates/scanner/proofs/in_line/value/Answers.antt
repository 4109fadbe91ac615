-- `scanner::in_line::value` meets its contract. Assumes nothing.
use Rattle.scanner.proofs.Numbers.{answered}
use Rattle.scanner.proofs.Scalars as scalars
use Rattle.scanner.proofs.in_line.value.Goals as goal

pub returns-in-105 : goal.returns-in-105
returns-in-105 c = scalars.answers_as _ _ _ _ c.in-105.is c.integer.ensures

pub or_scalar-requires : goal.or_scalar-requires
or_scalar-requires c = scalars.tag_as _ _ _ _ c.in-100.is c.plain.ensures

pub returns-in-78 : goal.returns-in-78
returns-in-78 c = answered (scalars.scalar-null _ _ _ _ c.in-78.is c.null.ensures.scans)
