use Rattle.network.specs.Turned.{Square}
use Rattle.network.proofs.turn.turn_square.Given as goal

abbrev pub invariant-loop-v : goal.invariant-loop-v
invariant-loop-v l = Square l.rows l.side l.v l.turned
