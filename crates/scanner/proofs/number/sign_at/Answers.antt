-- `scanner::number::sign_at` meets its contract. Assumes nothing.
use mathlib.Core.Path.{refl, sym, ◌∙◌}
use native.Mathlib.Omega.{arith}
use lib.Dec.{lit<}
use Rattle.format.specs.Bytes.{byte}
use Rattle.format.specs.Syntax.{unsigned, plus, minus}
use Rattle.bytes_at.proofs.BytesAt.{byte-there}
use Rattle.bytes_at.proofs.Signs.{sign-plus, sign-minus, sign-none}
use Rattle.scanner.proofs.Numbers.{front-is}
use Rattle.scanner.proofs.number.sign_at.Goals as goal

pub overflow_add-result : goal.overflow_add-result
overflow_add-result c = omega (arith, byte-there _ _ (byte "+") (lit< tt) (sym c.byte_is.ensures ∙ c.if-byte_is.true))

pub returns-then-byte_is : goal.returns-then-byte_is
returns-then-byte_is c = front-is _ _ plus _ (sign-plus _ _ (sym c.byte_is.ensures ∙ c.if-byte_is.true)) refl refl

pub overflow_add-result-then-byte_is-2 : goal.overflow_add-result-then-byte_is-2
overflow_add-result-then-byte_is-2 c = omega (arith, byte-there _ _ (byte "-") (lit< tt) (sym c.byte_is-2.ensures ∙ c.if-byte_is-2.true))

pub returns-then-byte_is-2 : goal.returns-then-byte_is-2
returns-then-byte_is-2 c = front-is _ _ minus _ (sign-minus _ _ (sym c.byte_is-2.ensures ∙ c.if-byte_is-2.true)) refl refl

pub returns : goal.returns
returns c = front-is _ _ unsigned _
    (sign-none _ _ (sym c.byte_is.ensures ∙ c.if-byte_is.false) (sym c.byte_is-2.ensures ∙ c.if-byte_is-2.false)) refl refl
