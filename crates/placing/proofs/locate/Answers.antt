-- `placing::locate` meets its contract. Assumes nothing.
use mathlib.Core.Path.{subst}
use Rattle.reader.specs.Promise.{Reads}
use Rattle.placing.proofs.Locating as locating
use Rattle.placing.proofs.locate.Goals as goal

pub returns-in_default : goal.returns-in_default
returns-in_default c = locating.locates-unread _ _ _ _ (subst (Reads _ _ _) c.unwrap_err.ensures c.read-reading.ensures)

pub find_spot-placed-requires : goal.find_spot-placed-requires
find_spot-placed-requires c = locating.given (subst (Reads _ _ _) c.in-Ok.is c.read-reading.ensures)
