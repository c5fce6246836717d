-- `pass` visits the selected fields in the lent order.
use mathlib.Core.Path.{◌≡◌}
use lib.ListN.{length}
use Rattle.network.specs.Network.{problem, hoods}
use Rattle.closing.specs.Asks.{Counted}
use Rattle.visiting.specs.Store.{Store}
use Rattle.engines.specs.Pass.{Passing}
use Rattle.engines.proofs.sac.pass.Given as goal

abbrev pub invariant-loop-q : goal.invariant-loop-q
invariant-loop-q l =
    Passing (problem l.tables) l.order (hoods l.tables) l.selected l.initial.m l.q l.touched l.m
    × Store (problem l.tables) (hoods l.tables) l.m l.known l.memory × (length l.memory ≡ length l.initial.memory)
    × Counted (problem l.tables) l.ac4 l.m × (l.ac4.support ≡ l.initial.ac4.support)
