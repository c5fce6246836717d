use Prim.Native.Nat.{◌-◌, ◌≤◌}
use lib.ListN.{length}
use Rattle.groups.specs.Storing.{Storing}
use Rattle.sheet.specs.Sources.{numbers, items_from, of_bytes}
use Rattle.sheet.proofs.reading.put_numbers.Given as goal

abbrev pub invariant-loop-place : goal.invariant-loop-place
invariant-loop-place l =
    Storing l.output l.k (numbers (items_from l.sheet l.place)) l.initial.output 0 (numbers (of_bytes l.sheet)) × (l.place ≤ length l.sheet)

abbrev pub decreases-loop-place : goal.decreases-loop-place
decreases-loop-place l = length l.sheet - l.place
