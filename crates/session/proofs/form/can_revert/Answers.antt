use Rattle.session.specs.Form.{revert_addition, revert_withdrawal}
use Rattle.session.proofs.form.can_revert.Goals as goal

pub returns-then-on_sheet : goal.returns-then-on_sheet
returns-then-on_sheet c = rw c.in-Adds.is (revert_addition _ _ _ _ c.on_sheet.ensures c.if-on_sheet.true _ c.holds.ensures)

pub returns-then-on_sheet-2 : goal.returns-then-on_sheet-2
returns-then-on_sheet-2 c =
    rw c.in-Withdraws.is (revert_withdrawal _ _ _ _ c.on_sheet-in-Withdraws.ensures c.if-on_sheet-2.true _
    c.holds-then-on_sheet-2.ensures)
