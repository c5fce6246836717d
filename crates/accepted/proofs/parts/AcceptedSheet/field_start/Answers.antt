use mathlib.Core.Path.{◌≡◌, sym, ap}
use mathlib.Core.List.{List}
use Prim.Native.Nat.{ℕ, ◌+◌, ◌<◌}
use native.Mathlib.Omega.{arith}
use borrow.Author.Rules.{rules}
use lib.ListN.{length, get_or}
use Rattle.sheet.specs.Sources.{Accepted}
use Rattle.accepted.specs.Parts.{fields_of, field_start, field-first, field_next}
use Rattle.accepted.specs.Facts.{facts}
use Rattle.accepted.proofs.parts.AcceptedSheet.field_start.Goals as goal

-- field k, which stands at a place, ends before the list does
field-fits : (xs : List ℕ) (k place : ℕ) → Accepted xs → k < fields_of xs → place ≡ field_start xs k
    → place + 1 + get_or xs place 0 < length xs
field-fits xs k place a h e = rw e ((facts xs a).field_end k h)

pub loop-init : goal.loop-init
loop-init c = sym (field-first _)

pub offset_bounds-self-place : goal.offset_bounds-self-place
offset_bounds-self-place c =
    let l = c.loop in
    let k = field-fits _ l.counter l.place c.args.self.accepted (omega arith) l.invariant in
    search rules

pub bounds-self-place : goal.bounds-self-place
bounds-self-place c =
    let l = c.loop in
    omega (arith, field-fits _ l.counter l.place c.args.self.accepted (omega arith) l.invariant)

pub overflow_add-place-in-loop : goal.overflow_add-place-in-loop
overflow_add-place-in-loop c =
    let l = c.loop in
    let k = field-fits _ l.counter l.place c.args.self.accepted (omega arith) l.invariant in
    search rules

pub loop-preserved : goal.loop-preserved
loop-preserved c =
    let l = c.loop in
    let xs = c.args.self.numbers.now in
    omega (arith, field_next xs l.counter, l.invariant, ap (λ (i : ℕ). get_or xs i 0) l.invariant)
