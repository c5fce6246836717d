use mathlib.Core.Path.{refl}
use borrow.Author.Rules.{rules}
use Rattle.network.specs.Hoods.{hoods-start, hoods-turn}
use Rattle.network.proofs.hoods.neighbourhoods.Goals as goal

pub loop-f-init : goal.loop-f-init
loop-f-init c = hoods-start _ _ _ _ refl

pub neighbourhood-requires : goal.neighbourhood-requires
neighbourhood-requires c = (c.requires.0, c.loop-f-test.true, c.requires.1)

pub loop-f-preserved : goal.loop-f-preserved
loop-f-preserved c = hoods-turn _ _ _ _ _ _ (search rules) c.neighbourhood.ensures c.loop-f.invariant
