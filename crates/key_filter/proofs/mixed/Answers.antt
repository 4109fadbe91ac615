-- `key_filter::mixed` meets its contract. Assumes nothing.
use native.Mathlib.Omega.{arith}
use mathlib.Core.Path.{refl}
use lib.Bits.{xor_lt}
use Rattle.key_filter.specs.Hash.{halves, mixed}
use Rattle.key_filter.proofs.mixed.Goals as goal

pub overflow_mul-result-2 : goal.overflow_mul-result-2
overflow_mul-result-2 c = omega (arith, xor_lt 64 c.args.a c.args.b c.ranges.a.fits c.ranges.b.fits)

pub returns : goal.returns
unfolding mixed halves
returns c = refl
