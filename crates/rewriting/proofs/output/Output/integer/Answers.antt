-- `rewriting::output::Output::integer` meets its contract. Assumes nothing.
use Rattle.rewriting.proofs.Outputs as outputs
use Rattle.rewriting.proofs.output.Output.integer.Goals as goal
use Rattle.rewriting.proofs.output.Output.integer.Goals.{then-signed, else-signed}

pub returns : goal.returns
returns c = elim c.if-signed.branch [
  | then-signed w ↦ outputs.appends-negative c.from-signed.ensures w.if-signed.true w.self-is w.append.ensures c.number.ensures
  | else-signed w ↦ outputs.appends_positive c.from-signed.ensures w.if-signed.false w.self-is c.number.ensures
]
