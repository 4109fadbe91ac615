-- `rewriting::rewrite::respell` meets its contract. Assumes nothing.
use native.Mathlib.Omega.{arith}
use mathlib.Core.Path.{◌∙◌}
use Rattle.rewriting.proofs.Spelled as spelled
use Rattle.rewriting.proofs.rewrite.respell.Goals as goal

-- the text first: what an edit breaks is seen there

pub returns-in-Renumber : goal.returns-in-Renumber
returns-in-Renumber c = let changes = c.requires.3.moves _ c.in-Renumber.is in record {
  numbers = _;
  wrote = c.number.ensures;
  split = spelled.as_renumbered _ _ _ _ c.in-Renumber.is ∙ spelled.spelled-moved _ _ _ _ changes.0 changes.1;
  inside = omega arith;
}

pub overflow_sub-text : goal.overflow_sub-text
overflow_sub-text c = let changes = c.requires.3.moves _ c.in-Renumber.is in
    omega (arith, spelled.from_on _ _ changes.1, (c.requires.0.numbers _ c.in-Renumber.is).1)

pub overflow_add-text : goal.overflow_add-text
overflow_add-text c = let changes = c.requires.3.moves _ c.in-Renumber.is in
    omega (arith, c.requires.2 changes.0, (c.requires.0.numbers _ c.in-Renumber.is).0)
