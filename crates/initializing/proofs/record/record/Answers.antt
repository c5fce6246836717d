use mathlib.Core.Path.{sym, ap, ◌∙◌}
use native.Mathlib.Omega.{arith}
use Rattle.limits.specs.Limits.{most_fields}
use Rattle.masks.specs.Tests.{never}
use Rattle.masks.specs.Bits.{bit}
use Rattle.masks.proofs.Bits.{bit_bound}
use Rattle.initializing.specs.Record.{arcs_start, arcs_turn}
use Rattle.initializing.proofs.record.record.Goals as goal

pub loop-i-init : goal.loop-i-init
loop-i-init c =
    rw (c.into_iter-i-iterator.ensures.into_iter_gives, c.positions-i-items.ensures) (arcs_start _ _ _ _ _)

pub bounds-d-i : goal.bounds-d-i
bounds-d-i c =
    let p = c.requires in
    omega (arith, bit_bound most_fields _ _ p.1 (c.loop-i.invariant.lefts _ c.in-Some.ensures.steps.lowest.set))

pub record_arc-requires : goal.record_arc-requires
record_arc-requires c =
    let p = c.requires in
    let b = c.loop-i.invariant.lefts _ c.in-Some.ensures.steps.lowest.set in
    (p.0, bit_bound most_fields _ _ p.1 b, (λ e. never b (ap (bit _) (sym e) ∙ p.2)), p.3, p.4)

pub loop-i-preserved : goal.loop-i-preserved
loop-i-preserved c =
    let p = c.requires in
    let i = c.loop-i.invariant in
    let e = c.in-Some.ensures.steps.lowest.set in
    rw c.in-Some.ensures.steps.rest
    (arcs_turn _ _ _ _ _ _ _ _ _ _ (bit_bound most_fields _ _ p.1 (i.lefts _ e)) e (λ v. bit_bound most_fields _ v p.1)
    c.floods-masks.ensures i c.record_arc.ensures)

pub returns : goal.returns
returns c = rw c.in-None.ensures.steps.0 at c.loop-i.invariant
