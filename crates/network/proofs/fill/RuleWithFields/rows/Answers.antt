use native.Mathlib.Omega.{arith}
use Rattle.network.specs.Drafts.{field-few}
use Rattle.network.specs.RuleRows.{rows_next}
use Rattle.network.proofs.fill.RuleWithFields.rows.Goals as goal

pub bounds-rows-v : goal.bounds-rows-v
bounds-rows-v c = omega (arith, field-few _ _ _ c.args.self.first.at, c.count-v-end.ensures, c.loop-v-test.true)

pub loop-v-preserved : goal.loop-v-preserved
loop-v-preserved c =
    rows_next _ _ _ _ _ (omega (arith, field-few _ _ _ c.args.self.first.at, c.count-v-end.ensures, c.loop-v-test.true))
    c.row.ensures c.loop-v.invariant
