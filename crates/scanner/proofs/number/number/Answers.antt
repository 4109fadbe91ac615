-- `scanner::number::number` meets its contract. Assumes nothing.
use native.Mathlib.Omega.{arith}
use mathlib.Core.Path.{refl, sym, ◌∙◌}
use lib.Dec.{lit<}
use Rattle.bytes_at.proofs.BytesAt.{byte-there}
use Rattle.bytes_at.proofs.Signs.{plus-there, plus_none}
use Rattle.scanner.proofs.Numbers.{behind, number_behind, number-here, number-found}
use Rattle.scanner.proofs.number.number.Goals as goal
use Rattle.scanner.proofs.number.number.Goals.{then-is_ok-via-then-is_ok, then-is_ok-via-else-is_ok+then-from-at, then-is_ok-via-else-is_ok+else-from-at+then-not-byte_is}

pub returns-then-is_ok : goal.returns-then-is_ok
returns-then-is_ok c = elim c.then-is_ok.branch [
  | then-is_ok-via-then-is_ok w ↦ number-found c.loop-scan.invariant c.digits-scan.ensures (sym c.is_ok.ensures.value ∙ w.if-is_ok.true)
  | then-is_ok-via-else-is_ok+then-from-at w ↦ number_behind c.loop-scan.invariant w.if-from-at.true c.digits-scan.ensures
  | then-is_ok-via-else-is_ok+else-from-at+then-not-byte_is w ↦ number-here w.if-from-at.false
      (plus_none _ _ (sym w.byte_is.ensures ∙ w.if-not-byte_is.true)) c.digits-scan.ensures
]

pub overflow_add-from : goal.overflow_add-from
overflow_add-from c = omega (arith, byte-there _ _ _ (lit< tt) (sym c.byte_is.ensures ∙ c.if-not-byte_is.false))

pub loop-scan-preserved : goal.loop-scan-preserved
loop-scan-preserved c = behind refl (plus-there _ _ (sym c.byte_is.ensures ∙ c.if-not-byte_is.false))
