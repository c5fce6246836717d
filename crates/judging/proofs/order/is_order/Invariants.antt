use mathlib.Core.Path.{◌≡◌}
use Prim.Native.Nat.{ℕ, ◌<◌}
use Rattle.ledger.specs.Occurrences.{occurrences}
use Rattle.judging.proofs.order.is_order.Given as goal

abbrev pub invariant-loop-f : goal.invariant-loop-f
invariant-loop-f l = (g : ℕ) → g < l.f → occurrences g l.order ≡ 1
