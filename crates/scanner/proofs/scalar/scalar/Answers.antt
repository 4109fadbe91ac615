-- `scanner::scalar::scalar` meets its contract. Assumes nothing.
use Rattle.std.proofs.Common.{rules}
use Rattle.scanner.proofs.Numbers.{answered}
use Rattle.scanner.proofs.Scalars as scalars
use Rattle.scanner.proofs.scalar.scalar.Goals as goal

pub returns-in-78 : goal.returns-in-78
returns-in-78 c = answered (scalars.scalar-null _ _ _ _ c.in-78.is c.null.ensures.scans)

pub returns-in-98 : goal.returns-in-98
returns-in-98 c = answered (scalars.scalar-bool _ _ _ _ c.in-98.is c.boolean.ensures.scans)

pub returns-in-105 : goal.returns-in-105
returns-in-105 c = answered (scalars.scalar-int _ _ _ _ c.in-105.is c.int.ensures.scans)

pub returns-in-100 : goal.returns-in-100
returns-in-100 c = answered (scalars.scalar-float _ _ _ _ c.in-100.is c.float.ensures.scans)

pub returns-in-115 : goal.returns-in-115
returns-in-115 c = answered (scalars.scalar-string _ _ _ _ c.in-115.is c.quoted.ensures.scans)

pub returns-in_default : goal.returns-in_default
returns-in_default c = answered (scalars.scalar-none _ _ c.args.tag (search rules) (search rules) (search rules) (search rules) (search rules))
