use native.Mathlib.Omega.{arith}
use borrow.Author.Rules.{rules}
use Rattle.limits.specs.Limits.{most_settings}
use Rattle.masks.proofs.Bits.{bit_bound}
use Rattle.masks.proofs.Words.{clear_within}
use Rattle.revising.specs.Support.{supported3_start, supported3_none, supported3_some}
use Rattle.revising.proofs.support.support.Goals as goal

pub loop-p-init : goal.loop-p-init
loop-p-init c =
    rw (c.into_iter-p-iterator.ensures.into_iter_gives, c.positions-p-items.ensures) (λ v e. e, supported3_start _ _ _ _ _)

pub overflow_mul-p : goal.overflow_mul-p
overflow_mul-p c =
    let l = bit_bound most_settings _ _ c.requires.0 (c.loop-p.invariant.0 _ c.in-Some.ensures.steps.lowest.set) in
    search rules

pub overflow_add-rows : goal.overflow_add-rows
overflow_add-rows c =
    let l = bit_bound most_settings _ _ c.requires.0 (c.loop-p.invariant.0 _ c.in-Some.ensures.steps.lowest.set) in
    search rules

pub beside-two-requires : goal.beside-two-requires
beside-two-requires c =
    let l = bit_bound most_settings _ _ c.requires.0 (c.loop-p.invariant.0 _ c.in-Some.ensures.steps.lowest.set) in
    let p = c.requires in
    let long = p.2 in
    (p.1, omega arith)

pub loop-p-preserved-then-two-ne0 : goal.loop-p-preserved-then-two-ne0
loop-p-preserved-then-two-ne0 c =
    let i = c.loop-p.invariant in
    let set = c.in-Some.ensures.steps.lowest.set in
    rw (c.in-Some.ensures.steps.rest, c.one_bit-first.ensures) (
      λ v e. i.0 v (clear_within _ _ v e),
      supported3_some _ _ _ _ _ _ _ _ _ _ _ _ i.1 (i.0 _ set) c.beside-two.ensures c.if-two-ne0.true,
    )

pub loop-p-preserved : goal.loop-p-preserved
loop-p-preserved c =
    let i = c.loop-p.invariant in
    let set = c.in-Some.ensures.steps.lowest.set in
    rw c.in-Some.ensures.steps.rest (
      λ v e. i.0 v (clear_within _ _ v e),
      supported3_none _ _ _ _ _ _ _ _ _ _ _ _ i.1 (i.0 _ set) c.beside-two.ensures c.if-two-ne0.false,
    )

pub returns : goal.returns
returns c = rw c.in-None.ensures.steps.0 at c.loop-p.invariant.1
