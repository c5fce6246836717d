-- `lower` lowers the counts of one field after the other.
use Rattle.counter.specs.Counts.{Lowered}
use Rattle.counter.proofs.lower.Given as goal

abbrev pub invariant-loop-i : goal.invariant-loop-i
invariant-loop-i l = Lowered l.initial.counter l.j l.s l.i l.none l.counter
