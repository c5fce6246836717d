use mathlib.Core.Path.{sym}
use Rattle.std.proofs.lemmas.Result.{err_from_is_err_and}
use Rattle.ledger.specs.Causes.{number-some}
use Rattle.ledger.proofs.Judging.{judged-session, judged-engine, judged-place, judged-order, judged-step}
use Rattle.judging.proofs.judge.judge.Goals as goal

pub returns-in_err-judge_session : goal.returns-in_err-judge_session
returns-in_err-judge_session c =
    let p = err_from_is_err_and c.from_residual.result c.from_residual.ensures.1 in
    rw (p.1, p.2) (judged-session _ _ _ _ _ _ (number-some _) c.in_err-judge_session.ensures)

pub returns-in_err-judge_engine : goal.returns-in_err-judge_engine
returns-in_err-judge_engine c =
    let s = c.from_residual-in_err-judge_engine in
    let p = err_from_is_err_and s.result s.ensures.1 in
    let session = sym c.in_ok-judge_session.ensures in
    rw (p.1, p.2) (judged-engine _ _ _ _ _ session _ (number-some _) c.in_err-judge_engine.ensures.number)

pub returns-in_err-judge_place : goal.returns-in_err-judge_place
returns-in_err-judge_place c =
    let s = c.from_residual-in_err-judge_place in
    let p = err_from_is_err_and s.result s.ensures.1 in
    let session = sym c.in_ok-judge_session.ensures in
    let engine = sym c.in_ok-judge_engine.ensures.number in
    rw (p.1, p.2) (judged-place _ _ _ _ _ session engine _ (number-some _) c.in_err-judge_place.ensures)

pub returns-in_err-judge_order : goal.returns-in_err-judge_order
returns-in_err-judge_order c =
    let s = c.from_residual-in_err-judge_order in
    let p = err_from_is_err_and s.result s.ensures.1 in
    let session = sym c.in_ok-judge_session.ensures in
    let engine = sym c.in_ok-judge_engine.ensures.number in
    let place = sym c.in_ok-judge_place.ensures in
    rw (p.1, p.2) (judged-order _ _ _ _ _ session engine place _ (number-some _) c.in_err-judge_order.ensures)

pub returns : goal.returns
returns c =
    let session = sym c.in_ok-judge_session.ensures in
    let engine = sym c.in_ok-judge_engine.ensures.number in
    let place = sym c.in_ok-judge_place.ensures in
    let order = sym c.in_ok-judge_order.ensures in
    judged-step _ _ _ _ _ session engine place order c.judge_step.ensures
