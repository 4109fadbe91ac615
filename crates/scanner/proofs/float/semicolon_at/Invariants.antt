-- `scanner::float::semicolon_at` meets its contract. Assumes nothing.
use Rattle.scanner.specs.Parts.{Passed}
use Rattle.scanner.proofs.float.semicolon_at.Given as goal

abbrev pub invariant-loop-i : goal.invariant-loop-i
invariant-loop-i l = Passed l.source l.at l.i
