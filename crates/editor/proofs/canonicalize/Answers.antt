-- `editor::canonicalize` meets its contract. Assumes nothing.
use mathlib.Core.Path.{◌∙◌, subst}
use Rattle.format.proofs.Results.{after-refused}
use Rattle.reader.specs.Promise.{Reads}
use Rattle.reader.proofs.Promised as promised
use Rattle.editor.proofs.Canonicalizing.{read-refused}
use Rattle.editor.proofs.Ended as ended
use Rattle.editor.proofs.canonicalize.Goals as goal

pub write_plan-requires : goal.write_plan-requires
write_plan-requires c = let plan = promised.accepted (subst (Reads _ _ _) c.in-Ok.is c.read-reading.ensures) in
    ended.canonical-sound c.args.table.now _ plan.value plan.read _

pub returns-in_default : goal.returns-in_default
returns-in_default c = let refused = promised.refusal (subst (Reads _ _ _) c.unwrap_err.ensures c.read-reading.ensures) in
    ended.writes-refused _ _ _ (read-refused _ _ _ _ _ refused) (c.read-reading.ensures.table ∙ after-refused _ _ _ _ _ refused)

pub returns : goal.returns
returns c = let plan = promised.accepted (subst (Reads _ _ _) c.in-Ok.is c.read-reading.ensures) in
    let lent = c.args.table.now in
    c.write_plan.ensures _ _ c.read-reading.ensures.table
    (ended.canonical-written lent _ plan.value plan.read c.read-reading.ensures.table _)
