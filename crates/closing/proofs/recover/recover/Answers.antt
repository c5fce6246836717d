use mathlib.Core.Path.{◌∙◌}
use Rattle.limits.specs.Limits.{most_fields}
use Rattle.masks.proofs.Bits.{bit_bound}
use Rattle.masks.proofs.Words.{clear_within}
use Rattle.closing.specs.Recover.{recovered_turn, recovered_end}
use Rattle.closing.proofs.recover.recover.Goals as goal

pub loop-j-init : goal.loop-j-init
loop-j-init c =
    rw (c.into_iter-j-iterator.ensures.into_iter_gives, c.positions-j-items.ensures) (c.told-copy, (λ v e. e), c.requires.1)

pub copy_towards-requires : goal.copy_towards-requires
copy_towards-requires c = bit_bound most_fields _ _ c.requires.0 (c.loop-j.invariant.1 _ c.in-Some.ensures.steps.lowest.set)

pub loop-j-preserved : goal.loop-j-preserved
loop-j-preserved c =
    let i = c.loop-j.invariant in
    let r = c.copy_towards.ensures in
    rw c.in-Some.ensures.steps.rest (r.sized ∙ i.0, (λ v e. i.1 v (clear_within _ _ v e)), recovered_turn _ _ _ _ _ i.2 r)

pub returns : goal.returns
returns c = let i = c.loop-j.invariant in recovered_end _ _ _ c.in-None.ensures.steps.0 c.told-counter i.0 i.2
