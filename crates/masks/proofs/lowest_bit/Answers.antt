-- `lowest_bit` counts the zeros below the lowest position.
use native.Mathlib.Omega.{arith}
use lib.Count.{trailing_le}
use Rattle.masks.proofs.Bits.{bit_bound}
use Rattle.masks.proofs.Words.{trailing_lowest}
use Rattle.masks.proofs.lowest_bit.Goals as goal

pub overflow_cast-result : goal.overflow_cast-result
overflow_cast-result c = omega (arith, trailing_le 32 c.args.x)

pub returns : goal.returns
returns c = let l = trailing_lowest 32 _ c.ranges.x.fits c.requires in (l, bit_bound 32 _ _ c.ranges.x.fits l.set)
