use mathlib.Core.Path.{ap₂}
use borrow.Author.Rules.{rules}
use lib.Bits.{bit_or}
use Rattle.network.specs.TripleBounds.{triple-fields}
use Rattle.network.specs.Linking.{links-start, links-next}
use Rattle.network.proofs.links.link.Goals as goal

pub loop-t-init : goal.loop-t-init
loop-t-init c = links-start _ _ (search rules)

pub one_bit-requires : goal.one_bit-requires
one_bit-requires c =
    let x = triple-fields _ _ _ _ _ _ c.triple-triple.result.at c.first-i.ensures c.second-j.ensures c.third-k.ensures in
    search rules

pub one_bit-requires-in-loop-t : goal.one_bit-requires-in-loop-t
one_bit-requires-in-loop-t c =
    let x = triple-fields _ _ _ _ _ _ c.triple-triple.result.at c.first-i.ensures c.second-j.ensures c.third-k.ensures in
    search rules

pub one_bit-requires-in-loop-t-2 : goal.one_bit-requires-in-loop-t-2
one_bit-requires-in-loop-t-2 c =
    let x = triple-fields _ _ _ _ _ _ c.triple-triple.result.at c.first-i.ensures c.second-j.ensures c.third-k.ensures in
    search rules

pub add_to_three-requires : goal.add_to_three-requires
add_to_three-requires c =
    let x = triple-fields _ _ _ _ _ _ c.triple-triple.result.at c.first-i.ensures c.second-j.ensures c.third-k.ensures in
    x

pub loop-t-preserved : goal.loop-t-preserved
loop-t-preserved c =
    let r = c.triple-triple.ensures in
    links-next _ _ _ _ _ _ _ _ _ (rw (r.0, r.1) at c.first-i.ensures) (rw (r.0, r.1) at c.second-j.ensures)
    (rw (r.0, r.1) at c.third-k.ensures)
    (ap₂ bit_or (ap₂ bit_or c.one_bit.ensures c.one_bit-in-loop-t.ensures) c.one_bit-in-loop-t-2.ensures)
    c.add_to_three.ensures c.loop-t.invariant
