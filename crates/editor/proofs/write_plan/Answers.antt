-- `editor::write_plan` meets its contract. Assumes nothing.
use Prim.Native.Nat.{ℕ}
use mathlib.Core.Path.{sym, ◌∙◌}
use mathlib.Core.List.{List}
use lib.ListN.{length}
use lib.Seq.{length-take-le}
use Rattle.rewriting.specs.Edited.{edited_text}
use Rattle.rewriting.proofs.Editable as edits
use Rattle.editor.proofs.Ended as ended
use Rattle.editor.proofs.write_plan.Goals as goal

pub returns-then-not-has_room_in : goal.returns-then-not-has_room_in
returns-then-not-has_room_in c =
    let text : List ℕ = edited_text c.args.source.now c.args.table.now c.args.edit c.args.key.now c.args.value.now in
    λ before bytes t f.
    let room = c.has_room_in.ensures in
    ended.writes-on room.same
    (ended.writes_14 _ _ _ text f t (ended.room_said _ _ room.answer ∙ c.if-not-has_room_in.true) c.refuse.ensures)

pub returns-in_default : goal.returns-in_default
returns-in_default c =
    let text : List ℕ = edited_text c.args.source.now c.args.table.now c.args.edit c.args.key.now c.args.value.now in
    λ before bytes t f.
    let kept = edits.unfit-of c.write.ensures c.in_default.is in
    let none = ended.unfit_14 c.requires (length c.args.out.now) kept.unfit in
    ended.writes-on (kept.same ∙ c.has_room_in.ensures.same) (ended.writes_14 _ _ _ text f t none c.refuse-in_default.ensures)

pub slice_bounds-settle-end : goal.slice_bounds-settle-end
slice_bounds-settle-end c = let room = c.has_room_in.ensures in
    let put = edits.written_of c.write.ensures c.in-Some.is in
    ended.prefix-inside (ended.puts_on room.same put.text) (ended.room_said _ _ room.answer ∙ c.if-not-has_room_in.false)

pub slice_bounds-settle-end-2 : goal.slice_bounds-settle-end-2
slice_bounds-settle-end-2 c = let room = c.has_room_in.ensures in
    let put = edits.written_of c.write.ensures c.in-Some.is in
    sym (length-take-le _ _ (ended.prefix-inside (ended.puts_on room.same put.text) (ended.room_said _ _ room.answer ∙ c.if-not-has_room_in.false)))

pub returns : goal.returns
returns c = λ before bytes t f.
    let room = c.has_room_in.ensures in
    let put = edits.written_of c.write.ensures c.in-Some.is in
    ended.writes-text _ _ _ _ f t (ended.room_said _ _ room.answer ∙ c.if-not-has_room_in.false) (ended.puts_on room.same put.text)
    c.settle.ensures
