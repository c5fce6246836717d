-- `neighbourhoods` makes one after the other.
use Rattle.network.specs.Hoods.{HoodsTo}
use Rattle.network.proofs.hoods.neighbourhoods.Given as goal

abbrev pub invariant-loop-f : goal.invariant-loop-f
invariant-loop-f l = HoodsTo l.n l.links l.reach l.f l.hood
