-- `fill` fills the tables rule after rule.
use Rattle.network.specs.Filling.{Filled}
use Rattle.network.proofs.fill.fill.Given as goal

abbrev pub invariant-loop-r : goal.invariant-loop-r
invariant-loop-r l = Filled l.sheet.numbers.now l.initial.rows l.r l.place l.joined l.rows
