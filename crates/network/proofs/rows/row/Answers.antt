-- `row` takes its part of one of the two tables.
use Rattle.network.specs.Tables.{rows_of-lower, rows_of_higher}
use Rattle.network.proofs.rows.row.Goals as goal

pub returns-then-g-f : goal.returns-then-g-f
returns-then-g-f c = rows_of-lower _ _ _ _ _ c.if-g-f.true c.slot-at.ensures.0

pub returns : goal.returns
returns c = rows_of_higher _ _ _ _ _ c.if-g-f.false c.slot-at-2.ensures.0
