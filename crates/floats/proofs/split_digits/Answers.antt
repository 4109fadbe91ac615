-- `floats::split_digits` meets its contract. Assumes nothing.
use Rattle.std.proofs.Common.{◌≤◌, length, sym, ◌∙◌, arith, rules}
use Rattle.std.proofs.lemmas.Slice.{between_to_end}
use Rattle.bytes_at.proofs.Runs.{run_rest, run_inside}
use Rattle.floats.proofs.split_digits.Goals as goal

pub slice_bounds-result-count : goal.slice_bounds-result-count
slice_bounds-result-count c = run_inside _ 0 0 _ c.run_at-count.ensures (omega arith)

pub slice_bounds-result-start : goal.slice_bounds-result-start
slice_bounds-result-start c =
    let inside : c.run_at-count.result.next ≤ length c.args.text.now = run_inside _ 0 0 _ c.run_at-count.ensures (omega arith) in
    search rules

pub returns-clause-rest : goal.returns-clause-rest
returns-clause-rest c =
    between_to_end c.args.text.now c.run_at-count.result.next (length c.args.text.now) (omega arith)
    ∙ sym (run_rest _ 0 0 _ c.run_at-count.ensures)
