-- `scanner::in_line::plain` meets its contract. Assumes nothing.
use mathlib.Core.Path.{refl}
use Rattle.std.proofs.lemmas.Option.{MatchOption-at_some}
use Rattle.scanner.proofs.Floats as floats
use Rattle.scanner.proofs.Scalars as scalars
use Rattle.scanner.proofs.in_line.plain.Goals as goal

pub returns : goal.returns
returns c = let p = MatchOption-at_some _ _ _ c.in-Some.is c.plain_end.ensures.float in
    let colon = c.in_ok-expect.ensures.0 in
    record { found = (scalars.scalar-float _ _ _ _ refl (floats.float_is _ _ colon _ p.semicolon p.float _ refl _ refl)).found }
