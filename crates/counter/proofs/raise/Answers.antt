use native.Mathlib.Omega.{arith}
use Rattle.counter.specs.Counts.{raised_next}
use Rattle.counter.proofs.raise.Goals as goal

pub loop-i-preserved : goal.loop-i-preserved
loop-i-preserved c =
    let p = c.requires in raised_next _ _ _ _ _ _ (omega arith) c.loop-i.invariant c.raise_word.ensures
