-- `rewriting::write` meets its contract. Assumes nothing.
use mathlib.Core.Path.{refl, sym, ◌∙◌}
use Rattle.std.proofs.Common.{rules}
use Rattle.rewriting.proofs.Editable as editable
use Rattle.rewriting.proofs.write.Goals as goal

pub returns : goal.returns
returns c = editable.edits-written _ _ _ _ _ (sym c.can_write.ensures ∙ c.if-not-can_write.false) refl c.write_edited.ensures (search rules)

pub returns-then-not-can_write : goal.returns-then-not-can_write
returns-then-not-can_write c = editable.leaves-unfit _ _ _ _ _ (sym c.can_write.ensures ∙ c.if-not-can_write.true)
