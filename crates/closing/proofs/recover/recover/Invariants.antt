-- `recover` copies the counts towards one field after the other.
use mathlib.Core.Path.{◌≡◌}
use lib.ListN.{length}
use Rattle.limits.specs.Limits.{counter_words}
use Rattle.masks.specs.Bits.{Within}
use Rattle.pruning.specs.Prune.{OnlySpent}
use Rattle.closing.proofs.recover.recover.Given as goal

abbrev pub invariant-loop-j : goal.invariant-loop-j
invariant-loop-j l =
    (length l.copy ≡ counter_words) × Within l.j-iterator.left l.spent × OnlySpent l.j-iterator.left l.counter l.copy
