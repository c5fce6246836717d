-- `raise` raises the counts of one field after the other.
use Rattle.counter.specs.Counts.{Raised}
use Rattle.counter.proofs.raise.Given as goal

abbrev pub invariant-loop-i : goal.invariant-loop-i
invariant-loop-i l = Raised l.initial.counter l.j l.s l.i l.counter
