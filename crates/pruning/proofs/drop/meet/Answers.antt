use mathlib.Core.Path.{◌≡◌, sym, ap}
use mathlib.Core.Bool.{not}
use Prim.Native.Nat.{ℕ}
use native.Mathlib.Omega.{arith}
use lib.Dec.{eqb}
use Rattle.pruning.specs.Drop.{both-none, both-next, meets}
use Rattle.pruning.proofs.drop.meet.Goals as goal

pub loop-i-init : goal.loop-i-init
loop-i-init c = sym (both-none _ _)

pub loop-i-preserved : goal.loop-i-preserved
loop-i-preserved c = rw c.loop-i.invariant (sym (both-next _ _ _))

pub returns : goal.returns
unfolding meets
returns c =
    let e : c.loop-i.i ≡ c.args.wide = omega arith in
    ap (λ (both : ℕ). not (eqb both 0)) (rw e at c.loop-i.invariant)
