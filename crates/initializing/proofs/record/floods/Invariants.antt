-- `floods` stores one flood after the other.
use Rattle.initializing.specs.Record.{Floods}
use Rattle.initializing.proofs.record.floods.Given as goal

abbrev pub invariant-loop-b : goal.invariant-loop-b
invariant-loop-b l = Floods l.own l.b l.masks
