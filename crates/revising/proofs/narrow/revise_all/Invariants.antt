-- `revise_all` makes turns until no triple rule waits.
use Prim.Native.Nat.{◌+◌, ◌*◌, ◌^◌}
use Rattle.limits.specs.Limits.{most_triples}
use Rattle.masks.specs.Sets.{count}
use Rattle.network.specs.Network.{problem}
use Rattle.pruning.specs.Prune.{Spends}
use Rattle.revising.specs.Narrow.{Narrowing}
use Rattle.revising.proofs.narrow.revise_all.Given as goal

abbrev pub invariant-loop-waits : goal.invariant-loop-waits
invariant-loop-waits l =
    Spends l.initial.counter.spent l.counter.spent (λ spent. Narrowing (problem l.tables) l.within l.support
    l.initial.d l.initial.list.places l.initial.list.tail l.initial.counter.counts
    l.waits l.changed spent l.d l.list.places l.list.tail l.counter.counts)

abbrev pub decreases-loop-waits : goal.decreases-loop-waits
decreases-loop-waits l = count l.d * 2 ^ most_triples + l.waits
