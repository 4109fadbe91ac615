-- `tokens::token` meets its contract. Assumes nothing.
use native.Mathlib.Omega.{arith}
use mathlib.Core.Path.{refl}
use Rattle.std.proofs.Common.{rules, get_or}
use Rattle.scanner.proofs.Numbers.{answered}
use Rattle.tokens.proofs.Scanned as scanned
use Rattle.tokens.proofs.token.Goals as goal

pub returns-then-source-at : goal.returns-then-source-at
returns-then-source-at c = answered (scanned.token-none _ _ c.if-source-at.true)

pub returns-in-125 : goal.returns-in-125
returns-in-125 c = answered (scanned.token-closing _ _ _ (omega (arith, c.if-source-at.false)) refl c.in-125.is)

pub returns-in-97 : goal.returns-in-97
returns-in-97 c = answered (scanned.token-array _ _ _ (omega (arith, c.if-source-at.false)) refl _ c.in-97.is c.array.ensures.scans)

pub returns-in-79 : goal.returns-in-79
returns-in-79 c = answered (scanned.token-object _ _ _ (omega (arith, c.if-source-at.false)) refl _ c.in-79.is c.object.ensures.scans)

pub returns-in-114 : goal.returns-in-114
returns-in-114 c = answered (scanned.token-reference _ _ _ (omega (arith, c.if-source-at.false)) refl _ c.in-114.is c.named.ensures.scans)

pub returns-in_default : goal.returns-in_default
returns-in_default c =
    answered (scanned.token-scalar c.args.source.now c.args.at (get_or c.args.source.now c.args.at 0) (omega (arith, c.if-source-at.false)) refl _
    (search rules) (search rules) (search rules) (search rules)
    c.scalar.ensures.scans)
