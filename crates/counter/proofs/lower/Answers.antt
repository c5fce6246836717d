use native.Mathlib.Omega.{arith}
use Rattle.counter.specs.Counts.{lowered-next}
use Rattle.counter.proofs.lower.Goals as goal

pub loop-i-preserved : goal.loop-i-preserved
loop-i-preserved c =
    let p = c.requires in lowered-next _ _ _ _ _ _ _ _ (omega arith) c.loop-i.invariant c.lower_word.ensures
