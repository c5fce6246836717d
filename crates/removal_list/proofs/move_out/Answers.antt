use native.Mathlib.Omega.{arith}
use Rattle.removal_list.specs.Moving.{moving_start, moving_room, moving_turn, moving_end}
use Rattle.removal_list.proofs.move_out.Goals as goal

pub loop-a-init : goal.loop-a-init
loop-a-init c =
    rw (c.into_iter-a-iterator.ensures.into_iter_gives, c.positions-a-items.ensures) (moving_start _ _ _ _ _ c.requires.2)

pub bounds-list-list : goal.bounds-list-list
bounds-list-list c =
    let p = c.requires in
    let r = moving_room _ _ _ _ _ _ _ _ _ _ c.loop-a.invariant c.in-Some.ensures.steps.lowest.set (omega arith) in
    omega (arith, r, c.loop-a.invariant.moved.long)

pub loop-a-preserved : goal.loop-a-preserved
loop-a-preserved c =
    let p = c.requires in
    rw (c.in-Some.ensures.steps.rest, c.clear_bit.ensures)
    (moving_turn _ _ _ _ _ _ _ _ _ _ c.loop-a.invariant c.in-Some.ensures.steps.lowest.set p.0 (omega arith))

pub returns : goal.returns
returns c = moving_end _ _ _ _ _ _ _ _ _ c.in-None.ensures.steps.0 c.loop-a.invariant
