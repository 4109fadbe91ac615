-- What was copied so far is the text's.
use Rattle.std.proofs.Common.{◌≡◌, length, take}
use Rattle.rewriting.proofs.output.copy.Given as goal

abbrev pub invariant-loop-i : goal.invariant-loop-i
invariant-loop-i l = (length l.out ≡ length l.text) × (take l.i l.out ≡ take l.i l.text)
