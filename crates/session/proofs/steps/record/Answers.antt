use Rattle.session.specs.Decisions.{change_within}
use Rattle.session.proofs.steps.record.Goals as goal

pub applied-requires : goal.applied-requires
applied-requires c = rw c.change.ensures (change_within _ _ _ c.requires.field c.requires.position)
