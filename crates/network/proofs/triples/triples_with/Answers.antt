use native.Mathlib.Omega.{arith}
use Rattle.network.specs.TripleBounds.{triple-low, triple-fields}
use Rattle.network.specs.TriplesFilled.{have-start, have-next}
use Rattle.network.proofs.triples.triples_with.Goals as goal

pub loop-t-init : goal.loop-t-init
loop-t-init c = have-start _

pub one_bit-requires : goal.one_bit-requires
one_bit-requires c = omega (arith, triple-low _ _ _ c.triple-triple.result.at, c.triple-triple.ensures.1)

pub add_to_three-requires : goal.add_to_three-requires
add_to_three-requires c =
    let x = triple-fields _ _ _ _ _ _ c.triple-triple.result.at c.first.ensures c.second.ensures c.third.ensures in
    x

pub loop-t-preserved : goal.loop-t-preserved
loop-t-preserved c =
    let r = c.triple-triple.ensures in
    have-next _ _ _ _ _ _ _ _ (rw (r.0, r.1) at c.first.ensures) (rw (r.0, r.1) at c.second.ensures)
    (rw (r.0, r.1) at c.third.ensures) c.one_bit.ensures c.add_to_three.ensures c.loop-t.invariant
