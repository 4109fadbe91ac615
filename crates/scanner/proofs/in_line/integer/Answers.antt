-- `scanner::in_line::integer` meets its contract. Assumes nothing.
use mathlib.Core.Path.{refl, sym, ◌∙◌}
use Rattle.format.specs.Syntax.{unsigned}
use Rattle.bytes_at.proofs.Signs.{sign-none}
use Rattle.scanner.proofs.Numbers.{exits, int_open, int-front, front-is, answered}
use Rattle.scanner.proofs.Scalars as scalars
use Rattle.scanner.proofs.in_line.integer.Goals as goal

pub returns-in_err-expect : goal.returns-in_err-expect
returns-in_err-expect c =
    answered (scalars.scalar-int _ _ _ _ refl (exits c.from_residual.ensures.1 c.in_err-expect.ensures.1 (int_open _ _ c.in_err-expect.ensures.0)))

pub returns-in_err-int : goal.returns-in_err-int
returns-in_err-int c =
    answered (scalars.scalar-int _ _ _ _ refl (exits c.from_residual-in_err-int.ensures.1 refl c.in_err-int.ensures.scans))

pub returns-then-byte_is : goal.returns-then-byte_is
returns-then-byte_is c = answered (scalars.scalar-int _ _ _ _ refl c.in_ok-int.ensures.scans)

pub returns : goal.returns
returns c =
    let signless = sign-none _ _ (sym c.byte_is.ensures ∙ c.if-byte_is.false) (sym c.byte_is-else-byte_is.ensures ∙ c.if-byte_is-2.false) in
    answered (scalars.scalar-int _ _ _ _ refl (int-front _ _ c.in_ok-expect.ensures.0 _ (front-is _ _ unsigned _ signless refl refl) _ c.magnitude.ensures))
