-- `settle_sheet` settles with room enough for the triple rules of the sheet.
use native.Mathlib.Omega.{arith}
use Rattle.engines.specs.Offering.{room-all}
use Rattle.answering.proofs.drafts.settle_sheet.Goals as goal

pub settle_with-requires-else-net-eq0 : goal.settle_with-requires-else-net-eq0
settle_with-requires-else-net-eq0 c =
    let b = c.requires.built in
    (c.requires, room-all _ _ _ _ b.network b.accepted, omega arith)
