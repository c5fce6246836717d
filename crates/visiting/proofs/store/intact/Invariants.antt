-- `intact` gathers the positions that the set lacks.
use mathlib.Core.Path.{◌≡◌}
use Prim.Native.Nat.{ℕ, ◌+◌, ◌^◌, ◌<◌}
use lib.ListN.{get_or}
use Rattle.visiting.specs.Memory.{lack_below}
use Rattle.visiting.proofs.store.intact.Given as goal

abbrev pub invariant-loop-h : goal.invariant-loop-h
invariant-loop-h l =
    (l.lack ≡ lack_below l.h l.memory l.base l.m) × ((j : ℕ) → j < l.h → get_or l.memory (l.base + j) 0 < 2 ^ 32)
