use native.Mathlib.Omega.{arith}
use Rattle.limits.specs.Limits.{most_settings}
use Rattle.masks.proofs.Bits.{bit_bound}
use Rattle.pruning.specs.SupportSet.{set-has}
use Rattle.initializing.specs.Count.{made-start, made-turn}
use Rattle.initializing.proofs.initialize_ac.count_towards.Goals as goal

pub loop-b-init : goal.loop-b-init
loop-b-init c =
    rw (c.into_iter-b-iterator.ensures.into_iter_gives, c.positions-b-items.ensures) (made-start _ _ _ _ _)

pub support_set-s-requires : goal.support_set-s-requires
support_set-s-requires c =
    let p = c.requires in
    let b = bit_bound most_settings _ _ p.1 (c.loop-b.invariant.lefts _ c.in-Some.ensures.steps.lowest.set) in
    omega arith

pub loop-b-preserved : goal.loop-b-preserved
loop-b-preserved c =
    let p = c.requires in
    let i = c.loop-b.invariant in
    let e = c.in-Some.ensures.steps.lowest.set in
    rw c.in-Some.ensures.steps.rest
    (made-turn _ _ _ _ _ _ _ _ i e (bit_bound most_settings _ _ p.1 (i.lefts _ e)) _
    (λ i a l. set-has _ _ _ _ c.support_set-s.ensures i a (omega arith)) _ c.raise.ensures)

pub returns : goal.returns
returns c = rw c.in-None.ensures.steps.0 at c.loop-b.invariant
