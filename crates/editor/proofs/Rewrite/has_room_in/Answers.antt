-- `editor::Rewrite::has_room_in` meets its contract. Assumes nothing.
use mathlib.Core.Path.{refl, sym, ap, ◌∙◌}
use Rattle.std.proofs.Common.{Bool}
use Rattle.format.specs.Answer.{require}
use Rattle.editor.proofs.Ended as ended
use Rattle.editor.proofs.Rewrite.has_room_in.Goals as goal

pub returns-then-is_spared : goal.returns-then-is_spared
returns-then-is_spared c =
    let spared = c.if-is_spared.true in
    record {
      answer = ap (λ (b : Bool). require b 14 0) (spared ∙ sym (ended.spared_fits c.args.self.now.fits (c.is_spared.ensures spared)));
      same = refl;
    }
