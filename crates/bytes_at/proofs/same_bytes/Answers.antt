-- `bytes_at::same_bytes` meets its contract. Assumes nothing.
use Rattle.bytes_at.proofs.BytesAt.{differ_length}
use Rattle.bytes_at.proofs.same_bytes.Goals as goal

pub returns-then-a-b : goal.returns-then-a-b
returns-then-a-b c = differ_length c.args.a.now c.args.b.now c.if-a-b.true
