-- A turn judges one item of the bytes; `Going` says what is judged so far and what is to come.
use Rattle.std.specs.Prelude.{◌≡◌, [], ◌∷◌, Err}
use Rattle.std.proofs.Common.{sym, ap, ◌∙◌, arith, rules}
use Rattle.groups.specs.Groups.{number-next, number-refused}
use Rattle.sheet.specs.Sources.{answer_of, numbers, items_from}
use Rattle.sheet.specs.Items.{from_end, from-num, from-fault, from_some}
use Rattle.sheet.specs.Progress.{going_on, going_end, going-cut, going-not, going-faulty, going-surplus}
use Rattle.sheet.specs.Progress.{numbers-num, numbers_end, advance-length}
use Rattle.sheet.proofs.reading.check_with.Goals as goal

pub loop-place-preserved : goal.loop-place-preserved
loop-place-preserved c =
    let l = c.loop-place in
    let s = c.args.sheet.now in
    let w = c.in-Wants in
    let v = c.in_ok-number-in-Wants.number in
    let left = items_from s v.next in
    let found = sym c.in_ok-number-in-Wants.ensures in
    let on = number-next s l.place v.value v.next (omega arith) found in
    let from = from-num s l.place v.value v.next (omega arith) found in
    let done = c.advance.ensures in
    let leads = sym c.in_ok-state-in-Wants.ensures.0 in (
      rw done.1
          (going_on w.n w.expected v.value _ left (v.value ∷ []) (numbers left) w.is leads from (ap numbers from ∙ numbers-num v.value _)
          l.invariant.0),
      rw done.1 (advance-length _ _ _ _ ∙ l.invariant.1),
      omega arith,
      omega arith,
    )

pub loop-place-smaller : goal.loop-place-smaller
loop-place-smaller c =
    let l = c.loop-place in
    let v = c.in_ok-number-in-Wants.number in
    omega (arith, number-next c.args.sheet.now l.place v.value v.next (omega arith) (sym c.in_ok-number-in-Wants.ensures))

pub returns-in_err-number-in-Wants : goal.returns-in_err-number-in-Wants
returns-in_err-number-in-Wants c =
    let l = c.loop-place in
    let w = c.in-Wants in
    let r = c.in_err-number-in-Wants.field-0.0 in
    let e = sym c.in_err-number-in-Wants.ensures in
    let q : c.from_residual.result ≡ Err r = search rules in
    ap answer_of q
    ∙ going-faulty w.n w.expected r w.is (number-refused c.args.sheet.now l.place r e)
    (from-fault c.args.sheet.now l.place r (omega arith) e) l.invariant.0

pub returns-in_err-state-in-Wants : goal.returns-in_err-state-in-Wants
returns-in_err-state-in-Wants c =
    let l = c.loop-place in
    let w = c.in-Wants in
    let v = c.in_ok-number-in-Wants.number in
    let r = c.in_err-state-in-Wants.field-0.0 in
    let q : c.from_residual-in_err-state-in-Wants.result ≡ Err r = search rules in
    ap answer_of q
    ∙ going-not w.n w.expected v.value r _ w.is (sym c.in_err-state-in-Wants.ensures.0)
    (from-num c.args.sheet.now l.place v.value v.next (omega arith) (sym c.in_ok-number-in-Wants.ensures)) l.invariant.0

pub returns-in-Complete : goal.returns-in-Complete
returns-in-Complete c =
    let l = c.loop-place in
    going-surplus c.in-Complete.is (from_some c.args.sheet.now l.place (omega arith)) l.invariant.0

pub returns-in_err-at_end : goal.returns-in_err-at_end
returns-in_err-at_end c =
    let l = c.loop-place in
    let r = c.in_err-at_end.field-0.0 in
    let q : c.from_residual-in_err-at_end.result ≡ Err r = search rules in
    ap answer_of q
    ∙ going-cut r (from_end c.args.sheet.now l.place (omega arith)) (sym c.in_err-at_end.ensures) l.invariant.0

pub returns : goal.returns
returns c =
    let l = c.loop-place in
    let end = from_end c.args.sheet.now l.place (omega arith) in
    going_end end (ap numbers end ∙ numbers_end) (sym c.in_ok-at_end.ensures) l.invariant.0
