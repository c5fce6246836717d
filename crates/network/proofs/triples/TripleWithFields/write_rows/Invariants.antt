-- `write_rows` writes the words of one setting of the first field after the other.
use Rattle.network.specs.Drafts.{TripleRows}
use Rattle.network.proofs.triples.TripleWithFields.write_rows.Given as goal

abbrev pub invariant-loop-v : goal.invariant-loop-v
invariant-loop-v l = TripleRows l.self.triple.numbers.now l.self.triple.index l.initial.triples l.base l.v l.triples
