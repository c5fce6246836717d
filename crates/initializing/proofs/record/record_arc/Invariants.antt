-- `record_arc` stores one word after the other.
use Rattle.network.specs.Tables.{rows_of}
use Rattle.initializing.specs.Record.{RecordedArc}
use Rattle.initializing.proofs.record.record_arc.Given as goal

abbrev pub invariant-loop-b : goal.invariant-loop-b
invariant-loop-b l =
    RecordedArc (rows_of l.tables.forward.now l.tables.turned.now l.j l.i) l.j l.i l.masks l.di l.initial.support l.b l.support
