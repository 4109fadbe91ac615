-- `scanner::float::float` meets its contract. Assumes nothing.
use mathlib.Core.Path.{◌≡◌, sym, refl, ◌∙◌}
use mathlib.Core.Bool.{true}
use Prim.Native.Nat.{◌+◌}
use native.Mathlib.Omega.{arith}
use lib.Dec.{eqb}
use Rattle.format.specs.Bytes.{byte}
use Rattle.bytes_at.specs.ByteAt.{byte_at}
use Rattle.scanner.specs.Parts.{PlainEnd}
use Rattle.scanner.proofs.Floats as floats
use Rattle.scanner.proofs.Numbers.{exits, answered}
use Rattle.scanner.proofs.float.float.Goals as goal
use Rattle.scanner.proofs.float.float.Goals.{in-Ok, in-Err+in-Some+else-not-is_float}

pub returns-in_err-expect : goal.returns-in_err-expect
returns-in_err-expect c =
    answered (exits c.from_residual.ensures.1 c.in_err-expect.ensures.1 (floats.float_colon _ _ c.in_err-expect.ensures.0))

pub returns-in_default : goal.returns-in_default
returns-in_default c =
    let colon : eqb (byte_at c.args.source.now c.args.at) (byte ":") ≡ true = c.in_ok-expect.ensures.0 in
    answered (floats.float_open _ _ colon (omega (arith, c.in_ok-expect.ensures.1)) (floats.none-on _ _ _ c.in-Err.ensures c.in_default.ensures))

pub returns-then-not-is_float : goal.returns-then-not-is_float
returns-then-not-is_float c =
    let colon : eqb (byte_at c.args.source.now c.args.at) (byte ":") ≡ true = c.in_ok-expect.ensures.0 in
    let semi = floats.semicolon-on _ _ _ c.in-Err.ensures _ c.in-Some.ensures in
    answered (floats.float_not _ _ colon _ semi (sym c.is_float.ensures ∙ c.if-not-is_float.true))

pub returns : goal.returns
returns c =
    let colon : eqb (byte_at c.args.source.now c.args.at) (byte ":") ≡ true = c.in_ok-expect.ensures.0 in
    let ended : PlainEnd c.args.source.now (c.args.at + 1) c.match-decimal_end.end = elim c.match-decimal_end.branch [
      | in-Ok w ↦ rw w.end-is w.in-Ok.ensures
      | in-Err+in-Some+else-not-is_float w ↦ rw w.end-is record {
        semicolon = floats.semicolon-on _ _ _ w.in-Err.ensures _ w.in-Some.ensures;
        float = sym w.is_float.ensures ∙ w.if-not-is_float.false;
      }
    ] in
    answered (floats.float_is _ _ colon _ ended.semicolon ended.float _ refl _ refl)
