-- A turn stores one number of the bytes: `Storing` says what is stored and what is to come.
use Rattle.std.specs.Prelude.{◌≡◌, List, ℕ, ◌+◌, ◌<◌, length, set}
use Rattle.std.proofs.Common.{sym, ap, ◌∙◌, arith}
use Rattle.groups.specs.Groups.{number_at, number-next, found}
use Rattle.groups.specs.Storing.{Storing, storing_one, storing_done}
use Rattle.sheet.specs.Sources.{numbers, items_from}
use Rattle.sheet.specs.Items.{from_end, from-num, from-fault}
use Rattle.sheet.specs.Progress.{numbers-num, numbers_end, numbers-fault}
use Rattle.sheet.proofs.reading.put_numbers.Goals as goal

-- a turn at place i of the bytes s, where the number x stands
one : {out : List ℕ} {k : ℕ} {out₀ all : List ℕ} {from : ℕ} (s : List ℕ) (i x next : ℕ) → i < length s → found x next ≡ number_at s i
    → Storing out k (numbers (items_from s i)) out₀ from all → Storing (set out k x) (k + 1) (numbers (items_from s next)) out₀ from all
one s i x next h e g = storing_one x (ap numbers (from-num s i x next h (sym e)) ∙ numbers-num x _) g

pub bounds-output-k : goal.bounds-output-k
bounds-output-k c =
    let l = c.loop-place in
    let v = c.in-Ok.number in
    omega (arith, (one c.args.sheet.now l.place v.value v.next (omega arith) c.in-Ok.ensures l.invariant.0).ends, l.invariant.0.size)

pub loop-place-preserved : goal.loop-place-preserved
loop-place-preserved c =
    let s = c.args.sheet.now in
    let l = c.loop-place in
    let v = c.in-Ok.number in (
      one s l.place v.value v.next (omega arith) c.in-Ok.ensures l.invariant.0,
      (number-next s l.place v.value v.next (omega arith) (sym c.in-Ok.ensures)).1,
    )

pub loop-place-smaller : goal.loop-place-smaller
loop-place-smaller c =
    let l = c.loop-place in
    let v = c.in-Ok.number in
    omega (arith, number-next c.args.sheet.now l.place v.value v.next (omega arith) (sym c.in-Ok.ensures))

pub returns-in-Err : goal.returns-in-Err
returns-in-Err c =
    let l = c.loop-place in
    let r = c.in-Err.field-0 in
    storing_done (ap numbers (from-fault c.args.sheet.now l.place r (omega arith) (sym c.in-Err.ensures)) ∙ numbers-fault r) l.invariant.0

pub returns : goal.returns
returns c =
    let l = c.loop-place in
    storing_done (ap numbers (from_end c.args.sheet.now l.place (omega arith)) ∙ numbers_end) l.invariant.0
