use mathlib.Core.Path.{sym, ◌∙◌}
use Rattle.session.specs.View.{in_force_of}
use Rattle.judging.proofs.stages.added_again.Goals as goal

pub returns-in-Adds : goal.returns-in-Adds
returns-in-Adds c = rw c.in-Adds.is (c.holds.ensures ∙ sym (in_force_of _ _))
