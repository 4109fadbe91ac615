-- `rewriting::output::Output::append` meets its contract. Assumes nothing.
use Rattle.std.proofs.Common.{rules, ◌∙◌, refl}
use Rattle.rewriting.proofs.Outputs as outputs
use Rattle.rewriting.proofs.output.Output.append.Goals as goal

pub returns : goal.returns
returns c = record {
  end = search rules;
  text = outputs.stores _ c.args.text.now _ c.min-start.ensures c.min-count.ensures (c.copy.ensures ∙ refl);
  lent = search rules;
  room = search rules;
}
