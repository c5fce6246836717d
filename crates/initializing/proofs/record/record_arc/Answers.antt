use mathlib.Core.Path.{◌≡◌, refl, ap, ◌∙◌}
use native.Mathlib.Omega.{arith}
use lib.ListN.{length}
use Rattle.network.specs.Tables.{rows_of-length}
use Rattle.initializing.specs.Record.{arc_turn}
use Rattle.initializing.proofs.record.record_arc.Goals as goal

pub bounds-rows-b : goal.bounds-rows-b
bounds-rows-b c =
    let p = c.requires in
    let e = ap length c.row-rows.ensures ∙ rows_of-length _ _ _ _ p.0 p.1 p.2 p.3 p.4 in
    omega arith

pub loop-b-preserved : goal.loop-b-preserved
loop-b-preserved c =
    let p = c.requires in
    let i = c.loop-b.invariant in
    rw c.row-rows.ensures (arc_turn _ _ _ _ _ _ _ _ _ c.loop-b-test.true (omega arith) refl i)
