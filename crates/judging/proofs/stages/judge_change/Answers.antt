use mathlib.Core.Path.{refl, sym}
use Rattle.std.proofs.lemmas.Result.{err_from_is_err_and}
use Rattle.ledger.specs.Causes.{number-some}
use Rattle.judging.proofs.Counts.{refused_again, refused_unheld, refused_room}
use Rattle.judging.proofs.stages.judge_change.Goals as goal

pub returns-in_err-refuse_if : goal.returns-in_err-refuse_if
returns-in_err-refuse_if c =
    let p = err_from_is_err_and c.from_residual.result c.from_residual.ensures.1 in
    let a = rw c.change-k.ensures at c.added_again.ensures in
    rw (p.1, p.2) (refused_again _ _ _ _ a refl _ (number-some _) c.in_err-refuse_if.ensures)

pub returns-in_err-refuse_if-2 : goal.returns-in_err-refuse_if-2
returns-in_err-refuse_if-2 c =
    let s = c.from_residual-in_err-refuse_if-2 in
    let p = err_from_is_err_and s.result s.ensures.1 in
    let a = rw c.change-k.ensures at c.added_again.ensures in
    let w = rw c.change-k.ensures at c.withdrawn_unheld.ensures in
    rw (p.1, p.2) (refused_unheld _ _ _ _ a w (sym c.in_ok-refuse_if.ensures) _ (number-some _) c.in_err-refuse_if-2.ensures)

pub returns : goal.returns
returns c =
    let a = rw c.change-k.ensures at c.added_again.ensures in
    let w = rw c.change-k.ensures at c.withdrawn_unheld.ensures in
    refused_room _ _ _ _ a w (sym c.in_ok-refuse_if.ensures) _ (sym c.in_ok-refuse_if-2.ensures) c.refuse_if-3.ensures
