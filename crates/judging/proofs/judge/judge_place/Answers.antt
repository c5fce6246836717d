use Rattle.judging.proofs.Counts.{no_place}
use Rattle.judging.proofs.judge.judge_place.Goals as goal

pub returns-in_default : goal.returns-in_default
returns-in_default c = no_place _ _ (λ e. c.in_default.not-Decide e)
