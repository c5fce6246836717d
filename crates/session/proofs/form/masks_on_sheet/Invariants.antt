use Rattle.session.specs.Form.{Inside}
use Rattle.session.proofs.form.masks_on_sheet.Given as goal

abbrev pub invariant-loop-f : goal.invariant-loop-f
invariant-loop-f l = Inside l.outline.full l.masks l.f
