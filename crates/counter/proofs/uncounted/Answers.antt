use native.Mathlib.Omega.{arith}
use Rattle.counter.specs.Counts.{uncounted-next}
use Rattle.counter.proofs.uncounted.Goals as goal

pub loop-i-preserved : goal.loop-i-preserved
loop-i-preserved c =
    let p = c.requires in uncounted-next _ _ _ _ _ _ (omega arith) c.counted_word.ensures c.loop-i.invariant
