use Rattle.network.specs.Turned.{Turning}
use Rattle.network.proofs.turn.turn_row.Given as goal

abbrev pub invariant-loop-u : goal.invariant-loop-u
invariant-loop-u l = Turning l.row l.v l.initial.turned l.u l.turned
