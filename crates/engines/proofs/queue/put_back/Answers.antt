use mathlib.Core.Path.{sym}
use native.Mathlib.Omega.{arith}
use Rattle.engines.specs.PutBack.{back_none, back-others, changed-low, backing_start, backing_turn, backing_end}
use Rattle.engines.proofs.queue.put_back.Goals as goal

pub returns-then-changed-eq0 : goal.returns-then-changed-eq0
returns-then-changed-eq0 c = sym (back_none _ _ _ _ _ _ c.if-changed-eq0.true)

pub loop-f-init : goal.loop-f-init
loop-f-init c =
    rw (c.into_iter-f-iterator.ensures.into_iter_gives, c.positions-f-items.ensures) (backing_start _ _ _ _ _ c.requires)

pub bounds-net-f : goal.bounds-net-f
bounds-net-f c =
    let p = c.requires in
    let few = p.few in
    let low = changed-low _ _ _ _ _ p _ (c.loop-f.invariant.lefts _ c.in-Some.ensures.steps.lowest.set) in
    omega arith

pub offset_bounds-net-f : goal.offset_bounds-net-f
offset_bounds-net-f c =
    let p = c.requires in
    let few = p.few in
    let low = changed-low _ _ _ _ _ p _ (c.loop-f.invariant.lefts _ c.in-Some.ensures.steps.lowest.set) in
    omega arith

pub loop-f-preserved : goal.loop-f-preserved
loop-f-preserved c =
    rw (c.in-Some.ensures.steps.rest, c.clear_bit-r.ensures)
    (backing_turn _ _ _ _ _ c.requires _ _ _ c.in-Some.ensures.steps.lowest.set c.loop-f.invariant)

pub returns : goal.returns
returns c =
    rw (backing_end _ _ _ _ _ c.requires _ _ c.in-None.ensures.steps.0 c.loop-f.invariant)
    (sym (back-others _ _ _ _ _ _ c.if-changed-eq0.false (omega arith)))
