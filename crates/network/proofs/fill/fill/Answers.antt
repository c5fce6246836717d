use native.Mathlib.Omega.{arith}
use Rattle.network.specs.Filling.{filled_start, rule_bounds, filled_next}
use Rattle.network.proofs.fill.fill.Goals as goal

pub loop-r-init : goal.loop-r-init
loop-r-init c = filled_start _ _ _ c.args.sheet.accepted c.requires c.rules_start-place.ensures

pub join-requires : goal.join-requires
join-requires c =
    let g = c.rule-rule.result.at in
    let m = rule_bounds _ g.accepted _ g.within in
    (omega (arith, m.0, m.1, c.first.ensures), omega (arith, m.1, c.second.ensures))

pub loop-r-preserved : goal.loop-r-preserved
loop-r-preserved c =
    let r = c.rule-rule.ensures in
    filled_next _ _ _ _ _ _ c.loop-r.invariant (rw c.rules-r-end.ensures at c.loop-r-test.true) _ _ _ _ _
    (rw (r.0, r.1) at c.first.ensures) (rw (r.0, r.1) at c.second.ensures) c.join.ensures (rw (r.0, r.1) at c.end-place.ensures)
    (rw (c.new.ensures, r.0, r.1) at c.write.ensures)
