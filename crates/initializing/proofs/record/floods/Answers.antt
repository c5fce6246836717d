use Rattle.initializing.specs.Record.{floods-next}
use Rattle.initializing.proofs.record.floods.Goals as goal

pub loop-b-preserved : goal.loop-b-preserved
loop-b-preserved c = rw c.flood.ensures (floods-next _ _ _ c.loop-b-test.true c.loop-b.invariant)
