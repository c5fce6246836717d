use Rattle.accepted.specs.Outline.{Outlining}
use Rattle.accepted.proofs.outline.outline_of.Given as goal

abbrev pub invariant-loop-f : goal.invariant-loop-f
invariant-loop-f l = Outlining l.numbers l.fields l.f l.full
