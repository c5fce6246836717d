use mathlib.Core.Path.{◌≡◌}
use Prim.Native.Nat.{◌*◌, ◌≤◌}
use lib.ListN.{length}
use Rattle.sheet.specs.Retired.{Passing}
use Rattle.sheet.proofs.writing.check_with.Given as goal

abbrev pub invariant-loop-x : goal.invariant-loop-x
invariant-loop-x l =
    Passing l.state l.counts l.numbers l.x-index l.bytes × (length l.counts ≡ length l.initial.counts) × (l.bytes ≤ 4 * l.x-index)
