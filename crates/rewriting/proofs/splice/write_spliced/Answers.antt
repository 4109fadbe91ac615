-- `rewriting::splice::write_spliced` meets its contract. Assumes nothing.
use Prim.Native.Nat.{◌+◌, ◌-◌}
use Rattle.rewriting.proofs.Outputs.{appends_then, appends_part}
use Rattle.rewriting.proofs.SplicedTexts as texts
use Rattle.rewriting.proofs.splice.write_spliced.Goals as goal

-- the text first: what an edit breaks is seen there

pub returns : goal.returns
returns c = let s = c.args.source.now in
    let p = c.args.splice in
    let head = appends_then (appends_part s p.at (p.at + 2) c.append.ensures)
    (appends_then c.number.ensures (appends_part s (p.inside - 2) p.inside c.append-2.ensures)) in
    texts.all-written p c.args.table.now s c.rewrite.ensures head c.rewrite-2.ensures c.append-3.ensures c.append-4.ensures c.rewrite-3.ensures
