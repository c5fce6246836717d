-- `neighbourhood` widens the field itself, once for each rule of the reach.
use Rattle.network.specs.Hoods.{WithinFor}
use Rattle.network.proofs.hoods.neighbourhood.Given as goal

abbrev pub invariant-loop : goal.invariant-loop
invariant-loop l = WithinFor l.n l.links l.counter l.f l.m
