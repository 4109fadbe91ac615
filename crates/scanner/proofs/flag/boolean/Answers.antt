-- `scanner::flag::boolean` meets its contract. Assumes nothing.
use mathlib.Core.Path.{◌≡◌, sym, ◌∙◌}
use mathlib.Core.Bool.{true}
use native.Mathlib.Omega.{arith}
use lib.Dec.{eqb, lit<}
use Rattle.format.specs.Bytes.{byte}
use Rattle.bytes_at.specs.ByteAt.{byte_at}
use Rattle.bytes_at.proofs.BytesAt.{pair-there}
use Rattle.scanner.proofs.Flags as flags
use Rattle.scanner.proofs.Numbers.{exits, answered}
use Rattle.scanner.proofs.flag.boolean.Goals as goal

pub returns-in_err-expect : goal.returns-in_err-expect
returns-in_err-expect c =
    answered (exits c.from_residual.ensures.1 c.in_err-expect.ensures.1 (flags.bool_open _ _ c.in_err-expect.ensures.0))

pub overflow_add-result : goal.overflow_add-result
overflow_add-result c = omega (arith, pair-there _ _ _ _ (sym c.bytes_are.ensures ∙ c.if-bytes_are.true) (lit< tt))

pub returns-then-bytes_are : goal.returns-then-bytes_are
returns-then-bytes_are c =
    let colon : eqb (byte_at c.args.source.now c.args.at) (byte ":") ≡ true = c.in_ok-expect.ensures.0 in
    answered (flags.bool_zero _ _ colon (sym c.bytes_are.ensures ∙ c.if-bytes_are.true))

pub overflow_add-result-then-bytes_are-2 : goal.overflow_add-result-then-bytes_are-2
overflow_add-result-then-bytes_are-2 c = omega (arith, pair-there _ _ _ _ (sym c.bytes_are-2.ensures ∙ c.if-bytes_are-2.true) (lit< tt))

pub returns-then-bytes_are-2 : goal.returns-then-bytes_are-2
returns-then-bytes_are-2 c =
    let colon : eqb (byte_at c.args.source.now c.args.at) (byte ":") ≡ true = c.in_ok-expect.ensures.0 in
    answered (flags.bool-one _ _ colon (sym c.bytes_are-2.ensures ∙ c.if-bytes_are-2.true))

pub returns : goal.returns
returns c =
    let colon : eqb (byte_at c.args.source.now c.args.at) (byte ":") ≡ true = c.in_ok-expect.ensures.0 in
    answered (flags.bool_not _ _ colon
    (sym c.bytes_are.ensures ∙ c.if-bytes_are.false) (sym c.bytes_are-2.ensures ∙ c.if-bytes_are-2.false))
