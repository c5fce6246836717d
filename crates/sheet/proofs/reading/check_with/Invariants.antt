use mathlib.Core.Path.{◌≡◌}
use Prim.Native.Nat.{◌-◌, ◌≤◌}
use lib.ListN.{length}
use Rattle.sheet.specs.Sources.{numbers, items_from, of_bytes}
use Rattle.sheet.specs.Progress.{Going}
use Rattle.sheet.proofs.reading.check_with.Given as goal

abbrev pub invariant-loop-place : goal.invariant-loop-place
invariant-loop-place l =
    let left = items_from l.sheet l.place in
    Going l.state l.counts left (of_bytes l.sheet) l.count (numbers left) (numbers (of_bytes l.sheet))
    × (length l.counts ≡ length l.initial.counts) × (l.place ≤ length l.sheet) × (l.count ≤ l.place)

abbrev pub decreases-loop-place : goal.decreases-loop-place
decreases-loop-place l = length l.sheet - l.place
