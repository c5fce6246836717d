-- `visit` tests the settings of a field, and removes those that fail.
use mathlib.Core.Path.{◌≡◌}
use lib.ListN.{length, get_or}
use Rattle.network.specs.Network.{problem, hoods}
use Rattle.closing.specs.Asks.{Counted}
use Rattle.visiting.specs.Store.{Store}
use Rattle.visiting.specs.Visit.{Visiting}
use Rattle.visiting.proofs.visit.visit.Given as goal

abbrev pub invariant-loop-left : goal.invariant-loop-left
invariant-loop-left l =
    Visiting (problem l.tables) (get_or (hoods l.tables) l.f 0) l.f l.initial.m l.left l.touched l.m
    × Store (problem l.tables) (hoods l.tables) l.m l.known l.memory × (length l.memory ≡ length l.initial.memory)
    × Counted (problem l.tables) l.ac4 l.m × (l.ac4.support ≡ l.initial.ac4.support)

abbrev pub decreases-loop-left : goal.decreases-loop-left
decreases-loop-left l =
    l.left
