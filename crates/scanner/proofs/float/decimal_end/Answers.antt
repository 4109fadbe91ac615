-- `scanner::float::decimal_end` meets its contract. Assumes nothing.
use Rattle.scanner.proofs.Floats as floats
use Rattle.scanner.proofs.PlainFloats as plain
use Rattle.scanner.proofs.Decimals as decimals
use Rattle.scanner.proofs.float.decimal_end.Goals as goal

pub returns-then-whole-digits : goal.returns-then-whole-digits
returns-then-whole-digits c = floats.passed_none _ _

pub returns-in_default : goal.returns-in_default
returns-in_default c =
    let behind = floats.passed-on _ _ _ (plain.passed-run _ _ _ _ c.run_at-whole.ensures) _ c.behind_fraction-fraction.ensures.passed in
    floats.passed-on _ _ _ c.behind_sign-digits.ensures.passed _ behind

pub returns : goal.returns
returns c =
    let sign = c.behind_sign-digits.ensures in
    let point = c.behind_fraction-fraction.ensures in
    decimals.decimal-end _ _ _ _ _ sign.rest sign.passed _ c.run_at-whole.ensures c.if-whole-digits.false point.rest point.passed c.in-Some.ensures
