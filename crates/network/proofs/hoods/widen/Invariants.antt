-- `widen` adds the joined fields of one field after the other.
use Rattle.network.specs.Hoods.{Widening}
use Rattle.network.proofs.hoods.widen.Given as goal

abbrev pub invariant-loop-g : goal.invariant-loop-g
invariant-loop-g l = Widening l.links l.m l.g l.wide
