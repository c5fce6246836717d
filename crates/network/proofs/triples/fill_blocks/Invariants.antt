-- `fill_blocks` writes one triple rule after the other.
use Rattle.network.specs.Blocks.{BlocksTo}
use Rattle.network.proofs.triples.fill_blocks.Given as goal

abbrev pub invariant-loop-t : goal.invariant-loop-t
invariant-loop-t l = BlocksTo l.from.numbers.now l.initial.triples l.t l.triples
