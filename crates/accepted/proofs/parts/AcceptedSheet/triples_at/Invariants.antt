use mathlib.Core.Path.{◌≡◌}
use Rattle.accepted.specs.Parts.{rule_start}
use Rattle.accepted.proofs.parts.AcceptedSheet.triples_at.Given as goal

abbrev pub invariant-loop-r : goal.invariant-loop-r
invariant-loop-r l = l.place ≡ rule_start l.self.numbers.now l.r
