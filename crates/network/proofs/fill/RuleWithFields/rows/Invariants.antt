-- `rows` makes row after row.
use Rattle.network.specs.RuleRows.{RowsTo}
use Rattle.network.proofs.fill.RuleWithFields.rows.Given as goal

abbrev pub invariant-loop-v : goal.invariant-loop-v
invariant-loop-v l = RowsTo l.self.rule.numbers.now l.self.rule.index l.v l.rows
