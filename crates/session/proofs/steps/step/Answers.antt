use Rattle.session.specs.Steps.{stepped}
use Rattle.session.proofs.steps.step.Goals as goal

pub returns-in-Open : goal.returns-in-Open
unfolding stepped
returns-in-Open c = rw (c.in-Open.is, c.begin.ensures, c.none.ensures)

pub returns-in-Show : goal.returns-in-Show
unfolding stepped
returns-in-Show c = rw c.in-Show.is

pub returns-in-Decide : goal.returns-in-Decide
unfolding stepped
returns-in-Decide c = rw c.in-Decide.is c.«record».ensures

pub returns-in-Back : goal.returns-in-Back
unfolding stepped
returns-in-Back c = rw c.in-Back.is c.undo.ensures

pub returns-in-CoilOn : goal.returns-in-CoilOn
unfolding stepped
returns-in-CoilOn c = rw c.in-CoilOn.is c.begin-in-CoilOn.ensures
