-- `scanner::expect` meets its contract. Assumes nothing.
use Prim.Native.Nat.{◌<◌}
use native.Mathlib.Omega.{arith}
use mathlib.Core.Path.{sym, ◌∙◌}
use Rattle.bytes_at.proofs.BytesAt.{byte-there}
use Rattle.scanner.proofs.expect.Goals as goal

pub returns-then-byte_is : goal.returns-then-byte_is
returns-then-byte_is c =
    let stands = sym c.byte_is.ensures ∙ c.if-byte_is.true in
    let small : c.args.b < 256 = omega arith in
    (stands, byte-there _ _ _ small stands)
