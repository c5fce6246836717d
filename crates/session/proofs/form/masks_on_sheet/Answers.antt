use borrow.Author.Rules.{rules}
use mathlib.Core.Path.{sym, ◌∙◌}
use borrow.Author.Tests.{eqb-false}
use Rattle.session.specs.Form.{masks-off, masks-on}
use Rattle.session.proofs.form.masks_on_sheet.Goals as goal

pub returns-then-not-within : goal.returns-then-not-within
returns-then-not-within c = masks-off _ _ _ c.loop-f-test.true
    (eqb-false _ 0 (sym c.within.ensures ∙ c.if-not-within.true))

pub returns : goal.returns
returns c = masks-on _ _ (λ g l. c.loop-f.invariant g (search rules))
