use mathlib.Core.Path.{refl}
use Rattle.network.specs.Turned.{square_start, square_next}
use Rattle.network.proofs.turn.turn_square.Goals as goal

pub loop-v-init : goal.loop-v-init
loop-v-init c = square_start _ _

pub loop-v-preserved : goal.loop-v-preserved
loop-v-preserved c = square_next _ _ _ _ _ _ refl c.loop-v.invariant c.turn_row.ensures
