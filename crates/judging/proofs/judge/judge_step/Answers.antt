use Rattle.session.specs.View.{events-counted}
use Rattle.judging.proofs.Counts.{no_step}
use Rattle.judging.proofs.judge.judge_step.Goals as goal

pub returns-in-Back : goal.returns-in-Back
returns-in-Back c = rw (c.in-Back.is, events-counted c.args.session 0) c.refuse_if.ensures

pub returns-in_default : goal.returns-in_default
returns-in_default c = no_step _ _ (λ e. c.in_default.not-Decide e) c.in_default.not-Back
