-- `record` records one arc after the other.
use Rattle.network.specs.Tables.{rows_of}
use Rattle.initializing.specs.Record.{RecordedArcs}
use Rattle.initializing.proofs.record.record.Given as goal

abbrev pub invariant-loop-i : goal.invariant-loop-i
invariant-loop-i l =
    RecordedArcs (λ i. rows_of l.tables.forward.now l.tables.turned.now l.j i) l.j l.near l.d l.initial.support l.i-iterator.left l.support
