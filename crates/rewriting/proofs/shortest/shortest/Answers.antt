-- `rewriting::shortest::shortest` meets its contract. Assumes nothing.
use Prim.Native.Nat.{◌+◌, ◌-◌}
use native.Mathlib.Omega.{arith}
use Rattle.std.proofs.Common.{rules}
use Rattle.rewriting.proofs.Outputs.{appends_then, appends_part}
use Rattle.rewriting.proofs.Spelled as spelled
use Rattle.rewriting.proofs.shortest.shortest.Goals as goal

-- the texts first: what an edit breaks is seen there

pub returns-in_default : goal.returns-in_default
returns-in_default c =
    spelled.copies
    (spelled.copied_text c.args.source.now c.args.at c.args.text (search rules) (search rules) (search rules) (search rules) (search rules))
    c.requires.1 c.requires.0.inside (appends_part c.args.source.now (c.args.at + 2) c.args.text.next c.append-in_default.ensures)

pub returns-in-105 : goal.returns-in-105
returns-in-105 c = record { numbers = _; wrote = c.integer.ensures; split = spelled.int-text _ _ _ c.in-105.is; inside = omega arith }

pub returns-in-115 : goal.returns-in-115
returns-in-115 c = record {
  numbers = _;
  wrote = c.number.ensures;
  split = spelled.string-text _ _ _ c.in-115.is;
  inside = omega (arith, (c.requires.0.string c.in-115.is).to);
}

pub returns-in-97 : goal.returns-in-97
returns-in-97 c = record { numbers = _; wrote = c.number-in-97.ensures; split = spelled.array-text _ _ _ c.in-97.is; inside = omega arith }

pub returns-in-79 : goal.returns-in-79
returns-in-79 c = let x = c.args.text in record {
  numbers = _;
  wrote = appends_then c.number-in-79.ensures
      (appends_then (appends_part c.args.source.now (x.content - 2) (x.content + x.size + 2) c.append.ensures) c.number-in-79-2.ensures);
  split = spelled.object-parts _ _ _ c.in-79.is;
  inside = omega arith;
}

pub returns-in-114 : goal.returns-in-114
returns-in-114 c = record { numbers = _; wrote = c.number-in-114.ensures; split = spelled.reference-text _ _ _ c.in-114.is; inside = omega arith }
