use mathlib.Core.Path.{refl}
use borrow.Author.Rules.{rules}
use Rattle.limits.specs.Limits.{most_settings}
use Rattle.masks.proofs.Bits.{bit_bound}
use Rattle.masks.proofs.Words.{clear_within}
use Rattle.revising.specs.Support.{beside-start, beside_none, beside-some}
use Rattle.revising.proofs.support.beside.Goals as goal

pub loop-q-init : goal.loop-q-init
loop-q-init c =
    rw (c.into_iter-q-iterator.ensures.into_iter_gives, c.positions-q-items.ensures) (λ v e. e, beside-start _ _ _ _)

pub overflow_add-both : goal.overflow_add-both
overflow_add-both c =
    let l = bit_bound most_settings _ _ c.requires.0 (c.loop-q.invariant.0 _ c.in-Some.ensures.steps.lowest.set) in
    search rules

pub offset_bounds-triples-row : goal.offset_bounds-triples-row
offset_bounds-triples-row c =
    let l = bit_bound most_settings _ _ c.requires.0 (c.loop-q.invariant.0 _ c.in-Some.ensures.steps.lowest.set) in
    search rules

pub bounds-triples-row : goal.bounds-triples-row
bounds-triples-row c =
    let l = bit_bound most_settings _ _ c.requires.0 (c.loop-q.invariant.0 _ c.in-Some.ensures.steps.lowest.set) in
    search rules

pub loop-q-preserved-then-both-ne0 : goal.loop-q-preserved-then-both-ne0
loop-q-preserved-then-both-ne0 c =
    let i = c.loop-q.invariant in
    let set = c.in-Some.ensures.steps.lowest.set in
    rw (c.in-Some.ensures.steps.rest, c.one_bit-second.ensures)
    (λ v e. i.0 v (clear_within _ _ v e), beside-some _ _ _ _ _ _ _ _ _ i.1 (i.0 _ set) refl c.if-both-ne0.true)

pub loop-q-preserved : goal.loop-q-preserved
loop-q-preserved c =
    let i = c.loop-q.invariant in
    let set = c.in-Some.ensures.steps.lowest.set in
    rw c.in-Some.ensures.steps.rest
    (λ v e. i.0 v (clear_within _ _ v e), beside_none _ _ _ _ _ _ _ _ _ i.1 (i.0 _ set) refl c.if-both-ne0.false)

pub returns : goal.returns
returns c = rw c.in-None.ensures.steps.0 at c.loop-q.invariant.1
