use borrow.Author.Rules.{rules}
use mathlib.Core.Path.{◌≡◌, ◌∙◌}
use Rattle.limits.specs.Limits.{most_fields}
use Rattle.accepted.specs.Lists.{filling-whole}
use Rattle.session.specs.Start.{masks_are}
use Rattle.session.proofs.start.start.Goals as goal

pub returns : goal.returns
returns c =
    let e : c.loop-f.f ≡ most_fields = search rules in
    filling-whole _ _ _ (rw e at c.loop-f.invariant) ∙ masks_are _ _
