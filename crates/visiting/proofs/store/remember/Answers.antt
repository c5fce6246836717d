use mathlib.Core.Path.{◌≡◌, sym, ◌∙◌}
use Prim.Native.Nat.{◌+◌, ◌<◌}
use native.Mathlib.Omega.{arith}
use lib.ListN.{length}
use Rattle.limits.specs.Limits.{most_fields}
use Rattle.masks.proofs.Restrict.{restrict-mask}
use Rattle.network.specs.Stored.{words_of-at}
use Rattle.visiting.specs.Memory.{stored-start, stored-turn}
use Rattle.visiting.proofs.store.remember.Goals as goal

pub loop-h-init : goal.loop-h-init
loop-h-init c = stored-start _ _ _

pub loop-h-preserved : goal.loop-h-preserved
loop-h-preserved c =
    let m = c.requires.3.small c.loop-h.h in
    let room : c.place-base.result + c.loop-h.h < length c.loop-h.memory = omega arith in
    rw c.flood.ensures (stored-turn _ _ _ _ _ _ c.loop-h-test.true room
    (restrict-mask _ _ _ (omega arith) ∙ sym (words_of-at _ _)) c.loop-h.invariant)

pub returns : goal.returns
returns c =
    let e : c.loop-h.h ≡ most_fields = omega arith in
    rw (sym c.place-base.ensures) (rw e at c.loop-h.invariant)
