use mathlib.Core.Path.{refl}
use Rattle.limits.specs.Limits.{most_fields}
use Rattle.masks.proofs.Bits.{bit_bound}
use Rattle.pruning.specs.Drop.{dropping_start, dropping_end, dropping_skip, dropping_turn, dropping_none, move_asks}
use Rattle.pruning.proofs.drop.drop.Goals as goal

pub loop-i-init : goal.loop-i-init
loop-i-init c =
    rw (c.into_iter-i-iterator.ensures.into_iter_gives, c.positions-i-items.ensures) (dropping_start _ _ _ _ _)

pub bounds-d-i : goal.bounds-d-i
bounds-d-i c =
    bit_bound most_fields _ _ c.requires.1 (c.loop-i.invariant.lefts _ c.in-Some.ensures.steps.lowest.set)

pub bounds-none-i : goal.bounds-none-i
bounds-none-i c =
    bit_bound most_fields _ _ c.requires.1 (c.loop-i.invariant.lefts _ c.in-Some.ensures.steps.lowest.set)

pub move_out-requires : goal.move_out-requires
move_out-requires c =
    let p = c.requires in
    (move_asks _ _ _ _ _ _ _ _ _ _ _ _ c.loop-i.invariant c.in-Some.ensures.steps.lowest.set refl p.0 p.1 p.2).0

pub returns-then-d-i-eq0 : goal.returns-then-d-i-eq0
returns-then-d-i-eq0 c =
    let m = c.move_out.ensures in
    dropping_none _ _ _ _ _ _ _ _ _ _ _ _ c.loop-i.invariant c.in-Some.ensures.steps.lowest.set refl
    _ _ _ m.0 m.1 c.if-gone-ne0.true c.if-d-i-eq0.true _

pub loop-i-preserved-then-gone-ne0 : goal.loop-i-preserved-then-gone-ne0
loop-i-preserved-then-gone-ne0 c =
    let m = c.move_out.ensures in
    rw (c.in-Some.ensures.steps.rest, c.one_bit-field.ensures)
    (dropping_turn _ _ _ _ _ _ _ _ _ _ _ _ c.loop-i.invariant c.in-Some.ensures.steps.lowest.set refl
    _ _ _ m.0 m.1 c.if-gone-ne0.true c.if-d-i-eq0.false)

pub loop-i-preserved : goal.loop-i-preserved
loop-i-preserved c =
    rw c.in-Some.ensures.steps.rest
    (dropping_skip _ _ _ _ _ _ _ _ _ _ _ _ c.loop-i.invariant c.in-Some.ensures.steps.lowest.set refl c.if-gone-ne0.false)

pub returns : goal.returns
returns c = dropping_end _ _ _ _ _ _ _ _ _ _ c.in-None.ensures.steps.0 c.loop-i.invariant
