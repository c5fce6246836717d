use borrow.Author.Rules.{rules}
use Rattle.masks.specs.Pick.{pick}
use Rattle.masks.proofs.Loops.{mask-by}
use Rattle.network.proofs.fill.row_of_mask.Goals as goal

pub returns : goal.returns
unfolding pick
returns c = mask-by _ _ _ c.positions_where.ensures.below (λ v l. let e = c.positions_where.ensures.each v l in search rules)
