-- `sac` passes over the selected fields until nothing changes: then every setting of a selected field passes.
use mathlib.Core.Path.{◌≡◌}
use Prim.Native.Nat.{ℕ}
use lib.ListN.{length}
use Rattle.masks.specs.Sets.{count}
use Rattle.network.specs.Network.{problem, hoods}
use Rattle.closing.specs.Asks.{Counted}
use Rattle.visiting.specs.Store.{Store}
use Rattle.engines.specs.Engine.{Kept}
use Rattle.engines.proofs.sac.sac.Given as goal

abbrev pub invariant-loop-touched : goal.invariant-loop-touched
invariant-loop-touched l =
    ((touched : ℕ) × Kept (problem l.tables) (hoods l.tables) l.selected l.initial.m touched l.m)
    × Store (problem l.tables) (hoods l.tables) l.m l.known l.memory × (length l.memory ≡ length l.initial.memory)
    × Counted (problem l.tables) l.ac4 l.m

abbrev pub decreases-loop-touched : goal.decreases-loop-touched
decreases-loop-touched l =
    count l.m
