-- `bytes_at::same_bytes` meets its contract. Assumes nothing.
use Rattle.std.proofs.Common.{◌≡◌, length, drop}
use Rattle.format.specs.Bytes.{same_bytes}
use Rattle.bytes_at.proofs.same_bytes.Given as goal

abbrev pub invariant-loop-i : goal.invariant-loop-i
invariant-loop-i l = (length l.a ≡ length l.b) × (same_bytes l.a l.b ≡ same_bytes (drop l.i l.a) (drop l.i l.b))
