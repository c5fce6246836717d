use mathlib.Core.Path.{sym, ◌∙◌}
use Rattle.network.specs.Hoods.{widening_start, widening_in, widening_out}
use Rattle.network.proofs.hoods.widen.Goals.{then-has_bit, else-has_bit}
use Rattle.network.proofs.hoods.widen.Goals as goal

pub loop-g-init : goal.loop-g-init
loop-g-init c = widening_start _ _

pub loop-g-preserved : goal.loop-g-preserved
loop-g-preserved c = elim c.if-has_bit.branch [
  | then-has_bit w ↦ rw w.wide-is (widening_in _ _ _ _ c.loop-g.invariant (sym c.has_bit.ensures ∙ w.if-has_bit.true))
  | else-has_bit w ↦ rw w.wide-is (widening_out _ _ _ _ c.loop-g.invariant (sym c.has_bit.ensures ∙ w.if-has_bit.false))
]
