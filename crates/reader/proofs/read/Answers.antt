-- `reader::read` meets its contract. Assumes nothing.
use Rattle.reader.proofs.WholeSteps as whole
use Rattle.reader.proofs.read.Goals as goal

pub returns-in-Err : goal.returns-in-Err
returns-in-Err c = let read = c.read_by_length in
    whole.reads-refused _ _ _ _ read.result _ read.ensures c.in-Err.is c.clear.ensures read.auto.table

pub returns-in-Ok : goal.returns-in-Ok
returns-in-Ok c = let read = c.read_by_length in
    whole.reads-accepted _ _ _ c.args.table.now read.result _ read.ensures c.in-Ok.is
