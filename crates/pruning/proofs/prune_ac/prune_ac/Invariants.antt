-- `prune_ac` takes one setting from the list a turn.
use Prim.Native.Nat.{◌-◌}
use Rattle.limits.specs.Limits.{list_places}
use Rattle.network.specs.Network.{rules}
use Rattle.pruning.specs.Prune.{Pruning, Spends}
use Rattle.pruning.proofs.prune_ac.prune_ac.Given as goal

abbrev pub invariant-loop-head : goal.invariant-loop-head
invariant-loop-head l =
    Spends l.initial.counter.spent l.counter.spent
    (λ spent. Pruning (rules l.tables) l.within l.support l.initial.d l.initial.list.places l.initial.list.tail l.initial.counter.counts
    l.start l.head l.changed spent l.d l.list.places l.list.tail l.counter.counts)

abbrev pub decreases-loop-head : goal.decreases-loop-head
decreases-loop-head l = list_places - l.head
