use mathlib.Core.Path.{sym, ◌∙◌}
use Rattle.session.specs.Decisions.{Long}
use Rattle.session.specs.Form.{ill-choices, ill-strikes, ill-events, ill_selection}
use borrow.Author.Rules.{rules}
use native.Mathlib.Omega.{arith}
use Rattle.session.proofs.form.malformed.Goals as goal

pub returns-then-not-masks_on_sheet : goal.returns-then-not-masks_on_sheet
returns-then-not-masks_on_sheet c =
    let long : Long c.args.session.decisions = record { choices = search rules; strikes = search rules } in
    ill-choices _ _ long (sym c.if-not-masks_on_sheet.true ∙ c.masks_on_sheet.ensures)

pub returns-then-not-masks_on_sheet-2 : goal.returns-then-not-masks_on_sheet-2
returns-then-not-masks_on_sheet-2 c =
    let long : Long c.args.session.decisions = record { choices = search rules; strikes = search rules } in
    let choices = (sym c.if-not-masks_on_sheet.false ∙ c.masks_on_sheet.ensures) in
    ill-strikes _ _ long choices (sym c.if-not-masks_on_sheet-2.true ∙ c.masks_on_sheet-2.ensures)

pub returns-then-not-events_reversible : goal.returns-then-not-events_reversible
returns-then-not-events_reversible c =
    let long : Long c.args.session.decisions = record { choices = search rules; strikes = search rules } in
    let choices = (sym c.if-not-masks_on_sheet.false ∙ c.masks_on_sheet.ensures) in
    let strikes = (sym c.if-not-masks_on_sheet-2.false ∙ c.masks_on_sheet-2.ensures) in
    ill-events _ _ long choices strikes (omega arith) (sym c.if-not-events_reversible.true ∙ c.events_reversible.ensures)

pub returns : goal.returns
returns c =
    let long : Long c.args.session.decisions = record { choices = search rules; strikes = search rules } in
    let choices = (sym c.if-not-masks_on_sheet.false ∙ c.masks_on_sheet.ensures) in
    let strikes = (sym c.if-not-masks_on_sheet-2.false ∙ c.masks_on_sheet-2.ensures) in
    let events = (sym c.if-not-events_reversible.false ∙ c.events_reversible.ensures) in
    ill_selection _ _ long choices strikes (omega arith) _ events c.no_selection.ensures
