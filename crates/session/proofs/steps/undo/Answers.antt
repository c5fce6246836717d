use Rattle.session.specs.Decisions.{change_within}
use Rattle.session.proofs.steps.undo.Goals as goal

pub reverted-requires : goal.reverted-requires
reverted-requires c = rw c.change-k.ensures (change_within _ _ _ c.requires.field c.requires.position)
