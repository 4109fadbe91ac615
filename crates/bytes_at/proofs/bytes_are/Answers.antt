-- `bytes_at::bytes_are` meets its contract. Assumes nothing.
use Rattle.std.proofs.Common.{sym, ◌∙◌, arith}
use Rattle.bytes_at.proofs.BytesAt.{byte-there}
use Rattle.bytes_at.proofs.bytes_are.Goals as goal

pub overflow_add-at : goal.overflow_add-at
overflow_add-at c = omega (arith, byte-there _ _ _ (omega arith) (sym c.byte_is.ensures ∙ c.if-byte_is.true))
