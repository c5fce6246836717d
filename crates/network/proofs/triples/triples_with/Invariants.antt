-- `triples_with` adds each triple rule to the masks of its fields.
use Rattle.network.specs.TriplesFilled.{HaveTo}
use Rattle.network.proofs.triples.triples_with.Given as goal

abbrev pub invariant-loop-t : goal.invariant-loop-t
invariant-loop-t l = HaveTo l.from.numbers.now l.t l.masks
