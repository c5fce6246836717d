-- A word of 32 bits has no further bit.
use Rattle.std.proofs.Common.{arith, ltb-true}
use Rattle.masks.specs.Tests.{iff_eq, never}
use Rattle.masks.proofs.Bits.{bit_high}
use Rattle.masks.proofs.has_position.Goals as goal

pub returns-else-v-lt32-clause-is : goal.returns-else-v-lt32-clause-is
returns-else-v-lt32-clause-is c =
    let past = c.if-v-lt32.false in
    iff_eq _ _ (λ e. let low = ltb-true _ _ e in absurd (omega arith)) (λ e. absurd (never e (bit_high 32 _ _ c.ranges.x.fits past)))
