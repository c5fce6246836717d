use mathlib.Core.Path.{refl}
use native.Mathlib.Omega.{arith}
use Rattle.closing.specs.Recover.{copied-start, copied-turn}
use Rattle.closing.proofs.recover.copy_towards.Goals as goal

pub loop-q-init : goal.loop-q-init
loop-q-init c = copied-start _ _ _

pub loop-q-preserved : goal.loop-q-preserved
loop-q-preserved c =
    let l = c.requires in
    let i = c.loop-q.invariant in
    let n = i.sized in
    copied-turn _ _ _ _ _ _ (omega arith) (omega arith) refl i
