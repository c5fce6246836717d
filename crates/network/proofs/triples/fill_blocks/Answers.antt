use mathlib.Core.Path.{refl}
use native.Mathlib.Omega.{arith}
use Rattle.network.specs.Blocks.{blocks_start, blocks_next}
use Rattle.network.proofs.triples.fill_blocks.Goals as goal

pub loop-t-init : goal.loop-t-init
loop-t-init c = blocks_start _ _ c.requires.1

pub write-requires : goal.write-requires
write-requires c =
    let i = c.loop-t.invariant in
    (omega (arith, c.requires.0, c.loop-t-test.true, i.sized), i.rest)

pub loop-t-preserved : goal.loop-t-preserved
loop-t-preserved c =
    let r = c.triple.ensures in
    blocks_next _ _ _ _ _ _ refl c.loop-t.invariant (rw (c.new.ensures, r.0, r.1) at c.write.ensures)
