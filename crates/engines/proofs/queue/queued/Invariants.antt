-- `queued` makes rounds until the queue is empty: then every setting of a selected field passes.
use mathlib.Core.Path.{◌≡◌}
use Prim.Native.Nat.{◌+◌, ◌*◌, ◌^◌}
use lib.ListN.{length}
use Rattle.limits.specs.Limits.{most_fields}
use Rattle.masks.specs.Sets.{count}
use Rattle.network.specs.Network.{problem, hoods}
use Rattle.closing.specs.Asks.{Counted}
use Rattle.visiting.specs.Store.{Store}
use Rattle.engines.specs.Queue.{Turning}
use Rattle.engines.proofs.queue.queued.Given as goal

abbrev pub invariant-loop-queue : goal.invariant-loop-queue
invariant-loop-queue l =
    Turning (problem l.tables) l.order (hoods l.tables) l.selected l.initial.m l.queue l.m
    × Store (problem l.tables) (hoods l.tables) l.m l.known l.memory × (length l.memory ≡ length l.initial.memory)
    × Counted (problem l.tables) l.ac4 l.m

abbrev pub decreases-loop-queue : goal.decreases-loop-queue
decreases-loop-queue l =
    count l.m * 2 ^ most_fields + l.queue
