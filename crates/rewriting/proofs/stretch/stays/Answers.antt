-- `rewriting::stretch::stays` meets its contract. Assumes nothing.
use native.Mathlib.Omega.{arith}
use Rattle.std.proofs.Common.{rules}
use Rattle.rewriting.proofs.Staying as staying
use Rattle.rewriting.proofs.stretch.stays.Goals as goal

pub returns-in-114 : goal.returns-in-114
returns-in-114 c = staying.reference_stays _ _ _ _ c.in-Renumber.is c.in-114.is c.moves.ensures

pub bounds-source-at-in_default : goal.bounds-source-at-in_default
bounds-source-at-in_default c = omega (arith, staying.number-inside c.args.source.now c.args.at c.args.text (search rules) (search rules) c.requires)

pub bounds-source-at-in_default-2 : goal.bounds-source-at-in_default-2
bounds-source-at-in_default-2 c = omega (arith, staying.number-inside c.args.source.now c.args.at c.args.text (search rules) (search rules) c.requires)

pub returns-in-78 : goal.returns-in-78
returns-in-78 c = staying.unnumbered_stays _ _ _ _ c.in-Canonical.is c.in-78.is

pub returns-in_default : goal.returns-in_default
returns-in_default c = staying.number_stays _ _ _ _ c.requires c.in-Canonical.is (search rules) (search rules) _ c.is_shortest.ensures

pub returns-in_default-letter : goal.returns-in_default-letter
returns-in_default-letter c = staying.other_stays c.args.tag c.args.source.now c.args.at c.args.text c.in-Renumber.is (search rules)
