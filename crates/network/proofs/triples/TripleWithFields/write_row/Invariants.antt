-- `write_row` writes word after word.
use Rattle.accepted.specs.Parts.{setting_of, triple_number}
use Rattle.network.specs.Drafts.{thirds_of, Run}
use Rattle.network.proofs.triples.TripleWithFields.write_row.Given as goal

abbrev pub invariant-loop-v : goal.invariant-loop-v
invariant-loop-v l =
    let xs = l.self.triple.numbers.now in
    Run l.initial.triples l.base
    (λ v. thirds_of xs l.self.third.index (triple_number xs l.self.triple.index) l.p (setting_of xs l.self.second.index v)) l.v l.triples
