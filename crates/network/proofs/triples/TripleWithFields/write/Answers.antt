-- `write` writes the three fields and then the words.
use borrow.Author.Rules.{rules}
use Rattle.network.specs.Drafts.{counts-low, fields-small}
use Rattle.network.specs.Blocks.{block-stored}
use Rattle.network.proofs.triples.TripleWithFields.write.Goals as goal

pub overflow_cast-triples : goal.overflow_cast-triples
overflow_cast-triples c = let x = fields-small _ _ _ _ _ _ c.args.self.fields in search rules

pub overflow_cast-triples-2 : goal.overflow_cast-triples-2
overflow_cast-triples-2 c = let x = fields-small _ _ _ _ _ _ c.args.self.fields in search rules

pub overflow_cast-triples-3 : goal.overflow_cast-triples-3
overflow_cast-triples-3 c = let x = fields-small _ _ _ _ _ _ c.args.self.fields in search rules

pub returns : goal.returns
returns c =
    let g = c.args.self.fields in
    block-stored _ _ _ _ _ _ _ _ g.first g.second g.third c.requires.0 c.requires.1 (counts-low _ _ _ _ _ _ g).0
    c.write_rows.ensures
