-- `scanner::float::plain_end` meets its contract. Assumes nothing.
use native.Mathlib.Omega.{arith}
use mathlib.Core.Path.{sym, ◌∙◌}
use lib.Dec.{lit<}
use Rattle.format.specs.Bytes.{byte}
use Rattle.bytes_at.proofs.BytesAt.{byte-there}
use Rattle.scanner.proofs.PlainFloats as plain
use Rattle.scanner.proofs.float.plain_end.Goals as goal

pub returns-then-point-from : goal.returns-then-point-from
returns-then-point-from c = record { end = plain.none-digits _ _ _ c.run_at-whole.ensures c.if-point-from.true; float = tt }

pub returns-then-byte_is : goal.returns-then-byte_is
returns-then-byte_is c = let semi = sym c.byte_is.ensures ∙ c.if-byte_is.true in record {
  end = plain.some-whole _ _ _ c.run_at-whole.ensures c.if-point-from.false semi;
  float = plain.plain-whole _ _ _ c.run_at-whole.ensures c.if-point-from.false semi;
}

pub returns-then-not-byte_is : goal.returns-then-not-byte_is
returns-then-not-byte_is c = record {
  end = plain.none-point _ _ _ c.run_at-whole.ensures c.if-point-from.false (sym c.byte_is.ensures ∙ c.if-byte_is.false) (sym c.byte_is-2.ensures ∙ c.if-not-byte_is.true);
  float = tt;
}

pub overflow_add-point : goal.overflow_add-point
overflow_add-point c = omega (arith, byte-there _ _ (byte ".") (lit< tt) (sym c.byte_is-2.ensures ∙ c.if-not-byte_is.false))

pub returns-then-byte_is-2 : goal.returns-then-byte_is-2
returns-then-byte_is-2 c = let point = sym c.byte_is-2.ensures ∙ c.if-not-byte_is.false in
    let semi = sym c.byte_is-3.ensures ∙ c.if-byte_is-2.true in record {
      end = plain.some-part _ _ _ c.run_at-whole.ensures c.if-point-from.false point _ c.run_at-fraction.ensures semi;
      float = plain.plain-part _ _ _ c.run_at-whole.ensures c.if-point-from.false point _ c.run_at-fraction.ensures semi;
    }

pub returns : goal.returns
returns c = record {
  end = plain.none-part _ _ _ c.run_at-whole.ensures c.if-point-from.false (sym c.byte_is-2.ensures ∙ c.if-not-byte_is.false) _ c.run_at-fraction.ensures
      (sym c.byte_is-3.ensures ∙ c.if-byte_is-2.false);
  float = tt;
}
