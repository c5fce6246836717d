use borrow.Author.Tests.{eq-eqb, ne_eqb}
use Rattle.masks.specs.Pick.{pick}
use Rattle.groups.proofs.groups.last_group.Goals as goal

pub returns-then-group-eq0 : goal.returns-then-group-eq0
unfolding pick
returns-then-group-eq0 c = rw (eq-eqb c.args.group 0 c.if-group-eq0.true)

pub returns-else-group-eq0 : goal.returns-else-group-eq0
unfolding pick
returns-else-group-eq0 c = rw (ne_eqb c.args.group 0 c.if-group-eq0.false)
