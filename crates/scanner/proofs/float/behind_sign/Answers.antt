-- `scanner::float::behind_sign` meets its contract. Assumes nothing.
use mathlib.Core.Path.{refl, sym, ◌∙◌}
use native.Mathlib.Omega.{arith}
use lib.Dec.{lit<}
use Rattle.format.specs.Bytes.{byte}
use Rattle.bytes_at.proofs.BytesAt.{byte-there}
use Rattle.scanner.proofs.Floats.{passed_none}
use Rattle.scanner.proofs.PlainFloats as plain
use Rattle.scanner.proofs.Decimals as decimals
use Rattle.scanner.proofs.float.behind_sign.Goals as goal

pub overflow_add-result : goal.overflow_add-result
overflow_add-result c = omega (arith, byte-there _ _ (byte "+") (lit< tt) (sym c.byte_is.ensures ∙ c.if-byte_is.true))

pub returns-then-byte_is : goal.returns-then-byte_is
returns-then-byte_is c = let plus = sym c.byte_is.ensures ∙ c.if-byte_is.true in
    record { rest = decimals.sign-plus _ _ plus; passed = plain.byte-passed _ _ (byte "+") (lit< tt) refl plus }

pub overflow_add-result-then-byte_is-2 : goal.overflow_add-result-then-byte_is-2
overflow_add-result-then-byte_is-2 c = omega (arith, byte-there _ _ (byte "-") (lit< tt) (sym c.byte_is-2.ensures ∙ c.if-byte_is-2.true))

pub returns-then-byte_is-2 : goal.returns-then-byte_is-2
returns-then-byte_is-2 c = let minus = sym c.byte_is-2.ensures ∙ c.if-byte_is-2.true in
    record { rest = decimals.sign-minus _ _ minus; passed = plain.byte-passed _ _ (byte "-") (lit< tt) refl minus }

pub returns : goal.returns
returns c = record {
  rest = decimals.sign-none _ _ (sym c.byte_is.ensures ∙ c.if-byte_is.false) (sym c.byte_is-2.ensures ∙ c.if-byte_is-2.false);
  passed = passed_none _ _;
}
