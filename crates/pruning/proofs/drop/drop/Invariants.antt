-- `drop` visits the fields of near; those passed have lost what has no count.
use Rattle.pruning.specs.Drop.{Dropping}
use Rattle.pruning.proofs.drop.drop.Given as goal

abbrev pub invariant-loop-i : goal.invariant-loop-i
invariant-loop-i l =
    Dropping l.near l.none l.initial.d l.initial.list.places l.initial.list.tail l.i-iterator.left l.lost l.d l.list.places l.list.tail
