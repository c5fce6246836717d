-- `some_empty` looks at one mask after the other: those passed are not 0.
use mathlib.Core.Path.{◌≡◌}
use mathlib.Core.Bool.{false}
use Rattle.masks.specs.Settings.{some_empty}
use Rattle.masks.proofs.Domains.some_empty.Given as goal

abbrev pub invariant-loop-f : goal.invariant-loop-f
invariant-loop-f l = some_empty l.f l.self.masks ≡ false
