use mathlib.Core.Path.{◌≡◌}
use mathlib.Core.Logic.{⊎_elim}
use Rattle.ledger.specs.declared.Decision.TheVariants.{Choice, Strike}
use Rattle.session.specs.Form.{found-choice, found-strike}
use Rattle.session.proofs.form.on_sheet.Goals as goal

pub returns : goal.returns
returns c =
    let o = c.args.outline in
    let f = c.in-Choice.f in
    let v = c.in-Choice.v in
    let x = c.args.x in
    ⊎_elim
    (λ (e : x ≡ Choice f v). rw e (found-choice o f v _ c.in_masks.ensures))
    (λ (e : x ≡ Strike f v). rw e (found-strike o f v _ c.in_masks.ensures))
    c.in-Choice.is
