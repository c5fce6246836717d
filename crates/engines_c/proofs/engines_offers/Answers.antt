-- `engines_offers` builds the network of the sheet and runs the engine on it.
use mathlib.Core.Path.{sym}
use native.Mathlib.Omega.{arith}
use lib.Seq.{length-take-le}
use Rattle.engines.specs.Offering.{asks-on, room-all}
use Rattle.engines_c.proofs.engines_offers.Goals as goal

pub slice_bounds-build-end-2 : goal.slice_bounds-build-end-2
slice_bounds-build-end-2 c = sym (length-take-le _ _ c.requires.ends)

pub run_with-requires : goal.run_with-requires
run_with-requires c =
    let p = c.requires in
    (asks-on _ _ _ _ _ _ _ _ p c.build-net.auto.rows, c.build-net.ensures, rw c.if-net-eq0.true (omega arith), omega arith)

pub run_with-requires-else-net-eq0 : goal.run_with-requires-else-net-eq0
run_with-requires-else-net-eq0 c =
    let p = c.requires in
    (asks-on _ _ _ _ _ _ _ _ p c.build-net.auto.rows, c.build-net.ensures, room-all _ _ _ _ c.build-net.ensures p.accepted, omega arith)
