use mathlib.Core.Path.{◌≡◌}
use native.Mathlib.Omega.{arith}
use Rattle.std.proofs.lemmas.Result.{err_from_is_err_and}
use Rattle.pruning.specs.Prune.{spends-none, spends-more, pruning_start, pruning_end}
use Rattle.pruning.specs.PruneTurn.{head_asks, drop-asks, pruned_none, pruned_next, pruned_same}
use Rattle.pruning.proofs.prune_ac.prune_ac.Goals as goal

pub loop-head-init : goal.loop-head-init
loop-head-init c = spends-none _ _ (pruning_start _ _ _ _ _ _ _ _ c.requires.1)

pub one_bit-requires : goal.one_bit-requires
one_bit-requires c =
    let p = c.requires in
    let asks = head_asks _ _ _ _ p.0 _ _ _ _ _ _ _ p.1 _ _ _ _ _ _ _ c.loop-head.invariant.2 c.loop-head-test.true in
    omega (arith, asks.2)

pub lower_fields-requires : goal.lower_fields-requires
lower_fields-requires c =
    let p = c.requires in
    let asks = head_asks _ _ _ _ p.0 _ _ _ _ _ _ _ p.1 _ _ _ _ _ _ _ c.loop-head.invariant.2 c.loop-head-test.true in
    (asks.1, asks.2, p.0.few)

pub bounds-tables-j : goal.bounds-tables-j
bounds-tables-j c =
    let p = c.requires in
    let asks = head_asks _ _ _ _ p.0 _ _ _ _ _ _ _ p.1 _ _ _ _ _ _ _ c.loop-head.invariant.2 c.loop-head-test.true in
    omega (arith, asks.2)

pub drop-requires : goal.drop-requires
drop-requires c =
    let p = c.requires in
    (drop-asks _ _ _ _ p.0 _ _ _ _ _ _ _ p.1 _ _ _ _ _ _ _ c.loop-head.invariant.2 c.loop-head-test.true).0

pub returns-in_err-changed : goal.returns-in_err-changed
returns-in_err-changed c =
    let p = c.requires in
    let i = c.loop-head.invariant in
    let e = err_from_is_err_and c.from_residual.result c.from_residual.ensures.1 in
    rw (e.1, c.one_bit.ensures)
    (spends-more _ _ _ _ _ i.1
    (pruned_none _ _ _ _ p.0 _ _ _ _ _ _ _ p.1 _ _ _ _ _ _ _ i.2 c.loop-head-test.true
    _ _ _ c.lower_fields.ensures _ _ _ _ c.in_err-changed.ensures _))

pub loop-head-preserved-then-lower_fields : goal.loop-head-preserved-then-lower_fields
loop-head-preserved-then-lower_fields c =
    let p = c.requires in
    let i = c.loop-head.invariant in
    rw c.one_bit.ensures
    (spends-more _ _ _ _ _ i.1
    (pruned_next _ _ _ _ p.0 _ _ _ _ _ _ _ p.1 _ _ _ _ _ _ _ i.2 c.loop-head-test.true
    _ _ _ c.lower_fields.ensures _ _ _ _ c.in_ok-changed.ensures))

pub loop-head-preserved : goal.loop-head-preserved
loop-head-preserved c =
    let p = c.requires in
    let i = c.loop-head.invariant in
    rw c.one_bit.ensures
    (spends-more _ _ _ _ _ i.1
    (pruned_same _ _ _ _ p.0 _ _ _ _ _ _ _ p.1 _ _ _ _ _ _ _ i.2 c.loop-head-test.true
    _ _ _ c.lower_fields.ensures c.if-lower_fields.false))

pub returns : goal.returns
returns c =
    let i = c.loop-head.invariant in
    let l = i.2.low in
    let e : c.loop-head.head ≡ c.loop-head.list.tail = omega arith in
    (i.0, i.1, pruning_end _ _ _ _ _ _ _ _ c.requires.1 _ _ _ _ _ _ _ i.2 e)
