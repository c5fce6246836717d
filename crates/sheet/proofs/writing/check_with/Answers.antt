-- A turn judges one number of the list, the retired kind before the grammar; `Passing` says what is judged so far and what is to come.
use Rattle.std.specs.Prelude.{◌≡◌, Err}
use Rattle.std.proofs.Common.{sym, ap, ◌∙◌, arith, rules}
use Rattle.sheet.specs.Sources.{answer_of}
use Rattle.sheet.specs.Progress.{advance-length}
use Rattle.sheet.specs.Retired.{passing-on, passing-not, passing-retired, passing-surplus, passing_end, passing-cut}
use Rattle.sheet.proofs.writing.check_with.Goals as goal

pub loop-x-preserved : goal.loop-x-preserved
loop-x-preserved c =
    let l = c.loop-x in
    let w = c.in-Wants in
    let done = c.advance.ensures in
    let other = sym c.is_retired.ensures ∙ c.if-is_retired.false in
    let leads = sym c.in_ok-state-in-Wants.ensures.0 in (
      rw (done.1, c.size-bytes.ensures.0) (passing-on w.n w.expected _ w.is (omega arith) other leads l.invariant.0),
      rw done.1 (advance-length _ _ _ _ ∙ l.invariant.1),
      omega (arith, l.invariant.2, c.size-bytes.ensures.1),
    )

pub returns-then-is_retired : goal.returns-then-is_retired
returns-then-is_retired c =
    let w = c.in-Wants in
    passing-retired w.n w.expected w.is (omega arith) (sym c.is_retired.ensures ∙ c.if-is_retired.true) c.loop-x.invariant.0

pub returns-in_err-state-in-Wants : goal.returns-in_err-state-in-Wants
returns-in_err-state-in-Wants c =
    let w = c.in-Wants in
    let r = c.in_err-state-in-Wants.field-0.0 in
    let other = sym c.is_retired.ensures ∙ c.if-is_retired.false in
    let q : c.from_residual.result ≡ Err r = search rules in
    ap answer_of q ∙ passing-not w.n w.expected r w.is (omega arith) other (sym c.in_err-state-in-Wants.ensures.0) c.loop-x.invariant.0

pub returns-in-Complete : goal.returns-in-Complete
returns-in-Complete c = passing-surplus c.in-Complete.is (omega arith) c.loop-x.invariant.0

pub returns-in_err-at_end : goal.returns-in_err-at_end
returns-in_err-at_end c =
    let r = c.in_err-at_end.field-0.0 in
    let q : c.from_residual-in_err-at_end.result ≡ Err r = search rules in
    ap answer_of q ∙ passing-cut r (omega arith) (sym c.in_err-at_end.ensures) c.loop-x.invariant.0

pub returns : goal.returns
returns c = passing_end (omega arith) (sym c.in_ok-at_end.ensures) c.loop-x.invariant.0
