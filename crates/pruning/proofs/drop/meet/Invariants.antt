-- `meet` gathers the settings that are in both sets.
use mathlib.Core.Path.{◌≡◌}
use Rattle.pruning.specs.Drop.{both_below}
use Rattle.pruning.proofs.drop.meet.Given as goal

abbrev pub invariant-loop-i : goal.invariant-loop-i
invariant-loop-i l = l.both ≡ both_below l.i l.d l.none
