use Rattle.ledger.specs.Causes.{first_end, first-applies, first_next}
use Rattle.judging.proofs.stages.refuse_if.Goals as goal

pub returns-then-applies : goal.returns-then-applies
returns-then-applies c = first-applies _ _ _ c.if-applies.true

pub returns : goal.returns
returns c = first_next _ _ _ c.if-applies.false first_end
