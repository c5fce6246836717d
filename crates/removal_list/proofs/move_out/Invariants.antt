-- `move_out` takes the positions of gone from the set, the lowest first, and puts each at the tail. Assumes nothing.
use Rattle.removal_list.specs.Moving.{Moving}
use Rattle.removal_list.proofs.move_out.Given as goal

abbrev pub invariant-loop-a : goal.invariant-loop-a
invariant-loop-a l =
    Moving l.initial.d l.initial.list.places l.initial.list.tail l.i l.gone l.a-iterator.left l.d l.list.places l.list.tail
