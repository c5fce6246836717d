use mathlib.Core.Path.{◌≡◌}
use Rattle.accepted.specs.Parts.{field_start}
use Rattle.accepted.proofs.parts.AcceptedSheet.field_start.Given as goal

abbrev pub invariant-loop : goal.invariant-loop
invariant-loop l = l.place ≡ field_start l.self.numbers.now l.counter
