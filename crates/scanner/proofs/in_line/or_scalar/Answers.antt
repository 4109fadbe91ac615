-- `scanner::in_line::or_scalar` meets its contract. Assumes nothing.
use mathlib.Core.Path.{ap}
use Rattle.scanner.specs.Scans.{scan_answer}
use Rattle.scanner.proofs.Numbers.{scans-is, answered}
use Rattle.scanner.proofs.in_line.or_scalar.Goals as goal

pub returns-in-Ok : goal.returns-in-Ok
returns-in-Ok c = answered (scans-is _ (c.requires.found 0 _ (ap (scan_answer 0) c.in-Ok.is)))
