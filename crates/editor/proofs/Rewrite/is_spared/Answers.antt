-- `editor::Rewrite::is_spared` meets its contract. Assumes nothing.
use mathlib.Core.Path.{sym, ◌∙◌}
use lib.ListN.{length}
use Rattle.editor.specs.Ends.{short}
use Rattle.editor.proofs.Ended as ended
use Rattle.editor.proofs.Rewrite.is_spared.Goals as goal

pub returns-in-Canonical : goal.returns-in-Canonical
returns-in-Canonical c = λ e. ended.canonical_spared _ (length c.args.self.now.source.now) _ _ _ c.in-Canonical.is (sym c.has_room.ensures ∙ e)

pub returns-in-Splice : goal.returns-in-Splice
returns-in-Splice c = λ e. short (c.is_short.ensures e)
