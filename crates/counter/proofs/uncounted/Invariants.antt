-- `uncounted` takes out what is counted, of one field after the other.
use Rattle.counter.specs.Counts.{Uncounted}
use Rattle.counter.proofs.uncounted.Given as goal

abbrev pub invariant-loop-i : goal.invariant-loop-i
invariant-loop-i l = Uncounted l.counter l.j l.d l.i l.none
