use mathlib.Core.Path.{refl, sym, ap, ◌∙◌}
use lib.ListN.{length}
use borrow.Author.Rules.{rules}
use Rattle.std.proofs.lemmas.Result.{err_from_is_err_and}
use Rattle.accepted.specs.declared.outline.Outline.{Outline}
use Rattle.accepted.specs.Accept.{bytes-accepted}
use Rattle.accepted.specs.Outline.{outline-few}
use Rattle.ledger.specs.Causes.{number-some}
use Rattle.ledger.specs.Ledger.{no_selection, is_order}
use Rattle.session.specs.View.{Sized}
use Rattle.session.specs.Steps.{stepped}
use Rattle.answering.specs.Answer.{spaces}
use Rattle.answering.specs.Intake.{taken-accepted}
use Rattle.answering.specs.Answering.{roomy, answers-short, answers-sheet, answers-judged, takes_step}
use Rattle.answering.specs.Answering.{is-order, selects, answers-wiped, answers-accepted}
use Rattle.answering.proofs.answer.answer.Goals as goal

-- ---- 6
pub returns-then-too_short : goal.returns-then-too_short
returns-then-too_short c =
    let sized : Sized c.args.session = search rules in
    answers-short _ _ sized _ _ _ _ (sym c.if-too_short.true ∙ c.too_short.ensures)

pub take_in-requires : goal.take_in-requires
take_in-requires c =
    let s = c.args in
    let e = sym c.too_short.ensures ∙ c.if-too_short.false in
    (roomy (length s.offers.now) (length s.rows.now) (length s.memory.now) e).sheet-room

-- ---- 1 to 5
pub returns-in_err-taken : goal.returns-in_err-taken
returns-in_err-taken c =
    let p = err_from_is_err_and c.from_residual.result c.from_residual.ensures.1 in
    let sized : Sized c.args.session = search rules in
    rw (p.1, p.2) (answers-sheet _ _ sized _ _ _ _ (sym c.if-too_short.false ∙ c.too_short.ensures) _ _ refl (number-some _)
    c.in_err-taken.ensures)

pub judge-requires : goal.judge-requires
judge-requires c =
    let t = c.in_ok-taken.ensures in
    rw t.outline (outline-few _ (bytes-accepted _ t.unrefused))

-- ---- 15 or 18, 7 and 9 to 13
pub returns-in_err-judge : goal.returns-in_err-judge
returns-in_err-judge c =
    let f = c.from_residual-in_err-judge in
    let p = err_from_is_err_and f.result f.ensures.1 in
    let sized : Sized c.args.session = search rules in
    let t = c.in_ok-taken.ensures in
    rw (p.1, p.2) (answers-judged _ _ sized _ _ _ _ (sym c.if-too_short.false ∙ c.too_short.ensures) t.unrefused _ _ refl
    (number-some _) (rw t.outline at c.in_err-judge.ensures))

-- ---- 14, or none
pub slice_bounds-build-end : goal.slice_bounds-build-end
slice_bounds-build-end c = c.in_ok-taken.ensures.ends

pub build-net-requires : goal.build-net-requires
build-net-requires c =
    let r = roomy _ _ _ (sym c.too_short.ensures ∙ c.if-too_short.false) in
    (taken-accepted _ _ _ c.in_ok-taken.ensures, r.rows-room)

pub step-next-requires : goal.step-next-requires
step-next-requires c =
    let sized : Sized c.args.session = search rules in
    let lent = spaces c.args.offers.now c.args.rows.now c.args.memory.now in
    let t = c.in_ok-taken.ensures in
    let none = sym (rw t.outline at c.in_ok-judge.ensures) in
    takes_step _ _ sized c.args.sheet.now _ _ lent (sym c.if-too_short.false ∙ c.too_short.ensures) t.unrefused none

pub settle_sheet-requires : goal.settle_sheet-requires
settle_sheet-requires c =
    let s = c.args in
    let sized : Sized s.session = search rules in
    let lent = spaces s.offers.now s.rows.now s.memory.now in
    let t = c.in_ok-taken.ensures in
    let short = sym c.if-too_short.false ∙ c.too_short.ensures in
    let r = roomy _ _ _ (sym short) in
    let none = sym (rw t.outline at c.in_ok-judge.ensures) in
    record {
      built = record {
        accepted = taken-accepted _ _ _ t;
        outline = rw t.front t.outline;
        network = c.build-net.ensures;
      };
      ends = t.ends;
      enough = record {
        ordered = ap (λ (o : Outline). is_order o.fields s.order.now) t.outline
            ∙ is-order s.call s.session sized s.sheet.now s.engine s.order.now lent short t.unrefused none;
        selects = rw c.step-next.ensures (ap (λ (o : Outline). no_selection o (stepped s.call s.session).selected) t.outline
            ∙ selects s.call s.session sized s.sheet.now s.engine s.order.now lent short t.unrefused none);
        offers-room = r.offers-room;
        rows-room = rw c.build-net.auto.rows r.rows-room;
        memory-room = rw c.take_in.auto.memory r.memory-room;
      };
    }

pub returns-in_err-settle_sheet : goal.returns-in_err-settle_sheet
returns-in_err-settle_sheet c =
    let f = c.from_residual-in_err-settle_sheet in
    let p = err_from_is_err_and f.result f.ensures.1 in
    let sized : Sized c.args.session = search rules in
    let t = c.in_ok-taken.ensures in
    let none = sym (rw t.outline at c.in_ok-judge.ensures) in
    rw (p.1, p.2) (answers-wiped _ _ sized _ _ _ _ (sym c.if-too_short.false ∙ c.too_short.ensures) t.unrefused none _ c.step-next.ensures
    _ _ (rw t.front at c.in_err-settle_sheet.ensures) refl)

pub returns : goal.returns
returns c =
    let sized : Sized c.args.session = search rules in
    let t = c.in_ok-taken.ensures in
    let none = sym (rw t.outline at c.in_ok-judge.ensures) in
    answers-accepted _ _ sized _ _ _ _ (sym c.if-too_short.false ∙ c.too_short.ensures) t.unrefused none _ c.step-next.ensures _ _
    (rw t.front at c.in_ok-settle_sheet.ensures) refl
