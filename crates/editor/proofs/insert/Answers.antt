-- `editor::insert` meets its contract. Assumes nothing.
use mathlib.Core.Path.{subst}
use Rattle.placing.specs.Locating.{Locates}
use Rattle.editor.proofs.Ended as ended
use Rattle.editor.proofs.insert.Goals as goal

-- the text first: what an edit breaks is seen there

pub returns-in_default : goal.returns-in_default
returns-in_default c = ended.writes_unplaced (subst (Locates _ _ _ _ _ _ _) c.unwrap_err.ensures c.locate-placing.ensures) _

pub returns : goal.returns
returns c = let placed = subst (Locates _ _ _ _ _ _ _) c.in-Ok.is c.locate-placing.ensures in
    c.write_plan.ensures _ _ (ended.spot-table placed) ((ended.located placed).bytes _)

pub write_plan-requires : goal.write_plan-requires
write_plan-requires c = ended.insert-sound (subst (Locates _ _ _ _ _ _ _) c.in-Ok.is c.locate-placing.ensures) _
