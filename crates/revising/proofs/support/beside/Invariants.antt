-- `beside` visits the positions of `middle`.
use Rattle.masks.specs.Bits.{Within}
use Rattle.revising.specs.Support.{Beside}
use Rattle.revising.proofs.support.beside.Given as goal

abbrev pub invariant-loop-q : goal.invariant-loop-q
invariant-loop-q l = Within l.q-iterator.left l.middle
    × Beside l.triples l.row l.middle l.upper l.q-iterator.left l.second l.third
