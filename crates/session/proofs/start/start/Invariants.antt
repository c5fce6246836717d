use Rattle.limits.specs.Limits.{most_fields}
use Rattle.accepted.specs.Lists.{Filling}
use Rattle.session.specs.Start.{mask_from}
use Rattle.session.proofs.start.start.Given as goal

abbrev pub invariant-loop-f : goal.invariant-loop-f
invariant-loop-f l = Filling most_fields (mask_from l.outline.full l.d.choices l.d.strikes) l.f l.m
