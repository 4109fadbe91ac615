-- `scanner::float::exponent_end` meets its contract. Assumes nothing.
use Prim.Native.Nat.{◌<◌}
use mathlib.Core.Path.{sym, ◌∙◌}
use native.Mathlib.Omega.{arith}
use lib.Dec.{lit<}
use lib.ListN.{length}
use Rattle.format.specs.Bytes.{byte}
use Rattle.bytes_at.proofs.BytesAt.{byte-there}
use Rattle.scanner.proofs.Decimals as decimals
use Rattle.scanner.proofs.float.exponent_end.Goals as goal
use Rattle.scanner.proofs.float.exponent_end.Goals.{else-not-byte_is-via-then-not-byte_is+else-not-byte_is-2, else-not-byte_is-via-else-not-byte_is}

pub returns-then-byte_is : goal.returns-then-byte_is
returns-then-byte_is c = decimals.exponent-none _ _ (sym c.byte_is.ensures ∙ c.if-byte_is.true)

pub overflow_add-at : goal.overflow_add-at
overflow_add-at c = let inside : c.args.at < length c.args.source.now = elim c.else-not-byte_is.branch [
  | else-not-byte_is-via-then-not-byte_is+else-not-byte_is-2 w ↦
      byte-there _ _ (byte "E") (lit< tt) (sym w.byte_is-then-not-byte_is.ensures ∙ w.if-not-byte_is-2.false)
  | else-not-byte_is-via-else-not-byte_is w ↦ byte-there _ _ (byte "e") (lit< tt) (sym c.byte_is-2.ensures ∙ w.if-not-byte_is.false)
] in
    omega (arith, inside)

pub returns : goal.returns
returns c =
    let sign = c.behind_sign-digits.ensures in
    let stop = sym c.byte_is-else-end-digits.ensures ∙ c.if-not-byte_is-3.false in
    elim c.else-not-byte_is.branch [
      | else-not-byte_is-via-then-not-byte_is+else-not-byte_is-2 w ↦
          decimals.exponent-great _ _ _ sign.rest sign.passed _ c.run_at-end.ensures c.if-end-digits.false stop
          (sym w.byte_is-then-not-byte_is.ensures ∙ w.if-not-byte_is-2.false)
      | else-not-byte_is-via-else-not-byte_is w ↦ decimals.exponent-small _ _ _ sign.rest sign.passed _ c.run_at-end.ensures c.if-end-digits.false stop
          (sym c.byte_is-2.ensures ∙ w.if-not-byte_is.false)
    ]
