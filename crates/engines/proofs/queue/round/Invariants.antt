-- `round` visits the fields on the queue.
use mathlib.Core.Path.{◌≡◌}
use Prim.Native.Nat.{ℕ}
use lib.ListN.{length}
use Rattle.network.specs.Network.{problem, hoods}
use Rattle.closing.specs.Asks.{Counted}
use Rattle.visiting.specs.Store.{Store}
use Rattle.engines.specs.Queue.{Waiting}
use Rattle.engines.proofs.queue.round.Given as goal

abbrev pub invariant-loop-q : goal.invariant-loop-q
invariant-loop-q l =
    ((touched : ℕ)
    × Waiting (problem l.tables) l.order (hoods l.tables) l.selected l.initial.m l.waiting l.q l.queue touched l.m)
    × Store (problem l.tables) (hoods l.tables) l.m l.known l.memory × (length l.memory ≡ length l.initial.memory)
    × Counted (problem l.tables) l.ac4 l.m × (l.ac4.support ≡ l.initial.ac4.support)
