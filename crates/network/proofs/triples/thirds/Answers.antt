use native.Mathlib.Omega.{arith}
use borrow.Author.Rules.{rules}
use Rattle.masks.proofs.Loops.{mask-by}
use Rattle.accepted.specs.Parts.{setting_of}
use Rattle.accepted.specs.Kinds.{even_draft}
use Rattle.network.specs.Drafts.{field-few}
use Rattle.network.proofs.triples.thirds.Goals as goal

pub positions_where-requires-clause-few : goal.positions_where-requires-clause-few
positions_where-requires-clause-few c = omega (arith, field-few _ _ _ c.args.third.at, c.count-n.ensures)

pub returns : goal.returns
returns c =
    let a = c.args in
    rw c.count-n.ensures at (mask-by _ _ (λ u. even_draft a.c a.p a.q (setting_of a.third.numbers.now a.third.index u))
    c.positions_where.ensures.below (λ v l. let e = c.positions_where.ensures.each v l in search rules))
