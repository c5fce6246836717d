use Rattle.masks.proofs.Loops.{where-in, where-out}
use Rattle.masks.proofs.positions_where.Goals.{then-test, else-test}
use Rattle.masks.proofs.positions_where.Goals as goal

pub loop-u-preserved : goal.loop-u-preserved
loop-u-preserved g c = elim c.if-test.branch [
  | then-test w ↦ rw (w.mask-is, w.one_bit-mask.ensures) (where-in (goal.F-post g c.args.test) _ _ c.loop-u.invariant (rw w.if-test.true at c.test.ensures))
  | else-test w ↦ rw w.mask-is (where-out (goal.F-post g c.args.test) _ _ c.loop-u.invariant (rw w.if-test.false at c.test.ensures))
]
