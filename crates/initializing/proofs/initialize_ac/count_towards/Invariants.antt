-- `count_towards` raises the counts of one support set after the other.
use Rattle.initializing.specs.Count.{CountsMade}
use Rattle.initializing.proofs.initialize_ac.count_towards.Given as goal

abbrev pub invariant-loop-b : goal.invariant-loop-b
invariant-loop-b l = CountsMade l.support l.j l.own l.wide l.initial.counter l.b-iterator.left l.counter
