use mathlib.Core.Path.{sym, ◌∙◌}
use Rattle.session.specs.Start.{start-free, start-one, start_none}
use Rattle.session.proofs.start.start_mask.Goals as goal

pub returns-then-chosen-eq0 : goal.returns-then-chosen-eq0
returns-then-chosen-eq0 c = start-free _ _ _ c.ranges.all.fits c.ranges.strikes.fits c.if-chosen-eq0.true

pub returns-then-clear_bit-eq0 : goal.returns-then-clear_bit-eq0
returns-then-clear_bit-eq0 c =
    start-one _ _ _ c.ranges.all.fits c.ranges.strikes.fits _ c.lowest_bit-v.ensures.0
    (sym c.clear_bit.ensures ∙ c.if-clear_bit-eq0.true)

pub returns : goal.returns
returns c =
    start_none _ _ _ c.ranges.all.fits c.ranges.strikes.fits _ c.lowest_bit-v.ensures.0
    (λ z. c.if-clear_bit-eq0.false (c.clear_bit.ensures ∙ z))
