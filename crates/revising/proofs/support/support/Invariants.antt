-- `support` visits the positions of `lower`.
use Rattle.masks.specs.Bits.{Within}
use Rattle.revising.specs.Support.{Supported3}
use Rattle.revising.proofs.support.support.Given as goal

abbrev pub invariant-loop-p : goal.invariant-loop-p
invariant-loop-p l =
    Within l.p-iterator.left l.lower × Supported3 l.triples l.rows l.lower l.middle l.upper l.p-iterator.left l.first l.second l.third
