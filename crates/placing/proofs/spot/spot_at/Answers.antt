-- `placing::spot::spot_at` meets its contract. Assumes nothing.
use mathlib.Core.Path.{refl}
use Rattle.placing.proofs.Gaps as gaps
use Rattle.placing.proofs.spot.spot_at.Goals as goal

pub pass-reached-requires : goal.pass-reached-requires
pass-reached-requires c = let behind = c.behind_head-inside.ensures c.requires.head in
    c.requires.pairs _ behind.here behind.inside

pub returns : goal.returns
returns c = λ a.
    let behind = c.behind_head-inside.ensures a.head in
    let gap = gaps.behind-gap (c.pass-reached.ensures (a.pairs _ behind.here behind.inside)) (a.same _ behind.here behind.inside) in
    record { tag = refl; first = behind; gap = gap; none = refl; counted = refl; taken = refl }
