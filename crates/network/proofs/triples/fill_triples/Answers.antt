-- `fill_triples` writes the front and then the triple rules.
use mathlib.Core.Path.{◌∙◌}
use native.Mathlib.Omega.{arith}
use borrow.Author.Rules.{rules}
use Rattle.network.specs.TripleBounds.{few-triples}
use Rattle.network.specs.TriplesFilled.{full-room, masks-room, front_filled, front-zeros, front-room, triples-of}
use Rattle.network.proofs.triples.fill_triples.Goals as goal

pub overflow_cast-triples : goal.overflow_cast-triples
overflow_cast-triples c =
    let f = c.triples-from.result in
    let k = few-triples _ _ f.accepted f.counted in
    search rules

pub store-requires : goal.store-requires
store-requires c =
    let l = full-room c.args.triples.now c.triples-from.result.count _ c.requires.2 in
    omega arith

pub store-requires-2 : goal.store-requires-2
store-requires-2 c =
    let l = masks-room c.args.triples.now _ c.triples-from.result.count _ _ _ c.requires.2 c.store.ensures in
    omega arith

pub fill_blocks-requires : goal.fill_blocks-requires
fill_blocks-requires c =
    let e = rw c.triples-from.ensures at c.triples-from.result.counted in
    let front = front_filled c.args.numbers.now c.args.triples.now _ c.triples-from.result.count _ _ _ _ c.requires.2 c.requires.1
    (rw c.triples-from.ensures at c.triples_with-masks.ensures) c.store.ensures c.store-2.ensures in
    (front-room _ _ _ _ front e c.requires.2, front-zeros _ _ _ _ front c.requires.3)

pub shape_of-triples : goal.shape_of-triples
shape_of-triples c =
    let front = front_filled c.args.numbers.now c.args.triples.now _ c.triples-from.result.count _ _ _ _ c.requires.2 c.requires.1
    (rw c.triples-from.ensures at c.triples_with-masks.ensures) c.store.ensures c.store-2.ensures in
    c.fill_blocks.ensures.sized ∙ front.sized

pub returns : goal.returns
returns c =
    let e = rw c.triples-from.ensures at c.triples-from.result.counted in
    let front = front_filled c.args.numbers.now c.args.triples.now _ c.triples-from.result.count _ _ _ _ c.requires.2 c.requires.1
    (rw c.triples-from.ensures at c.triples_with-masks.ensures) c.store.ensures c.store-2.ensures in
    triples-of _ _ _ _ front c.requires.0 e c.requires.2 _ (rw c.triples-from.ensures at c.fill_blocks.ensures)
