use native.Mathlib.Omega.{arith}
use Rattle.accepted.specs.Facts.{facts}
use Rattle.network.proofs.triples.TripleWithFields.new.Goals as goal

pub field-first-requires : goal.field-first-requires
field-first-requires c =
    let g = c.args.triple.at in
    let f = facts _ g.accepted in
    omega (arith, f.triple-apart _ g.within, f.triple-above _ g.within, f.triple-within _ g.within, c.first.ensures)

pub field-second-requires : goal.field-second-requires
field-second-requires c =
    let g = c.args.triple.at in
    let f = facts _ g.accepted in
    omega (arith, f.triple-above _ g.within, f.triple-within _ g.within, c.second.ensures)

pub field-third-requires : goal.field-third-requires
field-third-requires c =
    let g = c.args.triple.at in
    omega (arith, (facts _ g.accepted).triple-within _ g.within, c.third.ensures)
