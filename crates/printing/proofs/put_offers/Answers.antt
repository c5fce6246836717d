use mathlib.Core.Path.{sym}
use native.Mathlib.Omega.{arith}
use Rattle.accepted.specs.Facts.{facts}
use Rattle.printing.specs.Puts.{puts_none, puts_then, puts_size, puts_as}
use Rattle.printing.specs.Lengths.{offers-none, offers-next, offers-length}
use Rattle.printing.proofs.put_offers.Goals as goal

pub loop-v-init : goal.loop-v-init
loop-v-init c = puts_as (sym (offers-none _ _ c.args.mask)) (puts_none _ _)

pub put_offer-next-requires : goal.put_offer-next-requires
put_offer-next-requires c =
    let l = c.loop-v in
    let d = c.count-v-end.ensures in
    let k = c.args.field.at.field in
    let m = offers-length _ _ k c.args.mask l.v (omega (arith, d, c.loop-v-test.true)) in
    let n = (facts _ k.accepted).count-few _ k.within in
    let t = c.loop-v-test in
    let g = l.invariant in
    (omega (arith, d, t), omega (arith, d, m, n, t, g.ends, puts_size g, c.requires))

pub loop-v-preserved : goal.loop-v-preserved
loop-v-preserved c =
    puts_as (sym (offers-next _ _ c.args.mask c.loop-v.v)) (puts_then c.loop-v.invariant c.put_offer-next.ensures)
