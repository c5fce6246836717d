use native.Mathlib.Omega.{arith}
use borrow.Author.Rules.{rules}
use Rattle.masks.proofs.Words.{clear_within}
use Rattle.revising.specs.Table.{touching_none, touching_start, touching_turn}
use Rattle.revising.proofs.table.touched.Goals as goal

pub bounds-triples-0 : goal.bounds-triples-0
bounds-triples-0 c = let l = c.requires.0.long in search rules

pub returns-then-triples-eq0 : goal.returns-then-triples-eq0
returns-then-triples-eq0 c = touching_none _ _ c.if-triples-eq0.true

pub loop-f-init : goal.loop-f-init
loop-f-init c =
    rw (c.into_iter-f-iterator.ensures.into_iter_gives, c.positions-f-items.ensures) (λ v e. e, touching_start _ _)

pub bounds-triples-f : goal.bounds-triples-f
bounds-triples-f c =
    let l = c.requires.2 _ (c.loop-f.invariant.0 _ c.in-Some.ensures.steps.lowest.set) in
    let p = c.requires in
    let m = p.0.long in
    let f = p.1 in
    omega arith

pub loop-f-preserved : goal.loop-f-preserved
loop-f-preserved c =
    let i = c.loop-f.invariant in
    let set = c.in-Some.ensures.steps.lowest.set in
    rw c.in-Some.ensures.steps.rest (
      λ v e. i.0 v (clear_within _ _ v e),
      touching_turn _ _ _ c.requires.0 _ _ _ i.1 (i.0 _ set) (c.requires.2 _ (i.0 _ set)),
    )

pub returns : goal.returns
returns c = rw c.in-None.ensures.steps.0 at c.loop-f.invariant.1
