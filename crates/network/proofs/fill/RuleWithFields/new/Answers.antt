use native.Mathlib.Omega.{arith}
use Rattle.accepted.specs.Facts.{facts}
use Rattle.network.proofs.fill.RuleWithFields.new.Goals as goal

pub field-first-requires : goal.field-first-requires
field-first-requires c =
    let g = c.args.rule.at in
    let f = facts _ g.accepted in
    omega (arith, f.apart _ g.within, f.within _ g.within, c.first.ensures)

pub field-second-requires : goal.field-second-requires
field-second-requires c =
    let g = c.args.rule.at in
    omega (arith, (facts _ g.accepted).within _ g.within, c.second.ensures)
