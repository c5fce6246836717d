-- `initialize_ac` takes the arcs towards one field after the other.
use mathlib.Core.Path.{◌≡◌}
use Rattle.network.specs.Network.{rules}
use Rattle.initializing.specs.Initialize.{Initializing}
use Rattle.initializing.proofs.initialize_ac.initialize_ac.Given as goal

abbrev pub invariant-loop-j : goal.invariant-loop-j
invariant-loop-j l =
    Initializing (rules l.tables) l.initial.d l.initial.list.places l.j l.changed l.d l.list.places l.list.tail l.support l.counter.counts
    × (l.counter.spent ≡ l.initial.counter.spent)
