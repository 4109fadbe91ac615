-- `scanner::float::behind_fraction` meets its contract. Assumes nothing.
use mathlib.Core.Path.{sym, ◌∙◌}
use native.Mathlib.Omega.{arith}
use lib.Dec.{lit<}
use Rattle.format.specs.Bytes.{byte}
use Rattle.bytes_at.proofs.BytesAt.{byte-there}
use Rattle.scanner.proofs.Floats.{passed_none}
use Rattle.scanner.proofs.PlainFloats as plain
use Rattle.scanner.proofs.Decimals as decimals
use Rattle.scanner.proofs.float.behind_fraction.Goals as goal

pub overflow_add-at : goal.overflow_add-at
overflow_add-at c = omega (arith, byte-there _ _ (byte ".") (lit< tt) (sym c.byte_is.ensures ∙ c.if-byte_is.true))

pub returns-then-byte_is : goal.returns-then-byte_is
returns-then-byte_is c = let point = sym c.byte_is.ensures ∙ c.if-byte_is.true in
    record { rest = decimals.fraction-there _ _ point _ c.run_at.ensures; passed = plain.fraction-passed _ _ point _ c.run_at.ensures }

pub returns : goal.returns
returns c = record { rest = decimals.fraction-none _ _ (sym c.byte_is.ensures ∙ c.if-byte_is.false); passed = passed_none _ _ }
