-- `scanner::number::named` meets its contract. Assumes nothing.
use mathlib.Core.Path.{refl, ◌≡◌}
use mathlib.Core.Bool.{true}
use lib.Dec.{eqb}
use Rattle.format.specs.Bytes.{byte}
use Rattle.bytes_at.specs.ByteAt.{byte_at}
use Rattle.scanner.proofs.Numbers.{exits, found_of, named_colon, named_not, named_open, named-is, answered}
use Rattle.scanner.proofs.number.named.Goals as goal

pub returns-in_err-expect : goal.returns-in_err-expect
returns-in_err-expect c =
    answered (exits c.from_residual.ensures.1 c.in_err-expect.ensures.1 (named_colon _ _ c.in_err-expect.ensures.0))

pub returns-in_err-run : goal.returns-in_err-run
returns-in_err-run c =
    let colon : eqb (byte_at c.args.source.now c.args.at) (byte ":") ≡ true = c.in_ok-expect.ensures.0 in
    answered (exits c.from_residual-in_err-run.ensures.1 refl (named_not _ _ colon _ _ c.number.ensures c.in_err-run.was))

pub returns-in_err-expect-2 : goal.returns-in_err-expect-2
returns-in_err-expect-2 c =
    let colon : eqb (byte_at c.args.source.now c.args.at) (byte ":") ≡ true = c.in_ok-expect.ensures.0 in
    let is = found_of c.number.ensures c.in_ok-run.was in
    answered (exits c.from_residual-in_err-expect-2.ensures.1 c.in_err-expect-2.ensures.1 (named_open _ _ colon _ is c.in_err-expect-2.ensures.0))

pub returns : goal.returns
returns c =
    let colon : eqb (byte_at c.args.source.now c.args.at) (byte ":") ≡ true = c.in_ok-expect.ensures.0 in
    let is = found_of c.number.ensures c.in_ok-run.was in
    answered (named-is _ _ colon _ is (c.in_ok-expect-2.ensures.0))
