use Rattle.std.proofs.lemmas.Result.{err_from_is_err_and}
use Rattle.pruning.specs.Prune.{spends-none, spends-more}
use Rattle.revising.specs.Narrow.{narrowing_start}
use Rattle.revising.specs.Over.{on-fields, few-fields, waits-low, all_end, all_none, lost-below, more-below, all_turn, all_less}
use Rattle.revising.proofs.narrow.revise_all.Goals as goal

pub loop-waits-init : goal.loop-waits-init
loop-waits-init c =
    let p = c.requires in
    spends-none _ _ (narrowing_start _ _ _ _ _ _ _ (on-fields c.args.tables.now p.0 p.1 _ p.2)
    (few-fields c.args.tables.now p.0 p.1 _ p.2) _ p.3 p.4)

pub turn-requires : goal.turn-requires
turn-requires c =
    let i = c.loop-waits.invariant in
    let p = c.requires in
    (p.0, p.1, waits-low c.args.tables.now p.0 p.1 _ p.2 _ _ _ _ _ _ _ _ _ _ _ _ i.2 _ c.lowest_bit-t.ensures.0.set, p.2, i.2.emptied)

pub returns-in_err-r : goal.returns-in_err-r
returns-in_err-r c =
    let i = c.loop-waits.invariant in
    let p = c.requires in
    let q = c.in_err-r.ensures in
    let e = err_from_is_err_and c.from_residual.result c.from_residual.ensures.1 in
    rw (e.1, q.1) (spends-more _ _ _ _ _ i.1 (all_none c.args.tables.now p.0 p.1 _ p.2 _ _ _ _ _ _ _ _ _ _ _ _ i.2 _ _ _ _ _ _ _ _ q.2 _))

pub touched-again-requires : goal.touched-again-requires
touched-again-requires c =
    let i = c.loop-waits.invariant in
    let p = c.requires in
    (p.1, p.0.few, lost-below c.args.tables.now p.0 p.1 _ p.2 _ _ _ _ _ _ _ _ _ _ _ _ i.2 _ _ _ _ _ _ _ _ c.in_ok-r.ensures.2)

pub touched-more-requires : goal.touched-more-requires
touched-more-requires c =
    let i = c.loop-waits.invariant in
    let p = c.requires in
    (p.1, p.0.few, more-below c.args.tables.now p.0 p.1 _ p.2 _ _ _ _ _ _ _ _ _ _ _ _ i.2 _ _ _ _ _ _ _ _ c.in_ok-r.ensures.2)

pub loop-waits-smaller : goal.loop-waits-smaller
loop-waits-smaller c =
    let i = c.loop-waits.invariant in
    let p = c.requires in
    rw c.clear_bit.ensures
    (all_less c.args.tables.now p.0 p.1 _ p.2 _ _ _ _ _ _ _ _ _ _ _ _ i.2 _ _ _ _ _ _ _ _ c.in_ok-r.ensures.2 _ _
    c.touched-again.ensures c.touched-more.ensures c.lowest_bit-t.ensures.0.set)

pub loop-waits-preserved : goal.loop-waits-preserved
loop-waits-preserved c =
    let i = c.loop-waits.invariant in
    let p = c.requires in
    let q = c.in_ok-r.ensures in
    rw (c.clear_bit.ensures, q.1)
    (spends-more _ _ _ _ _ i.1 (all_turn c.args.tables.now p.0 p.1 _ p.2 _ _ _ _ _ _ _ _ _ _ _ _ i.2 _ _ _ _ _ _ _ _ q.2 _ _
    c.touched-again.ensures c.touched-more.ensures))

pub returns : goal.returns
returns c =
    let i = c.loop-waits.invariant in
    let p = c.requires in
    (i.0, i.1, all_end c.args.tables.now p.0 p.1 _ p.2 _ _ _ _ _ _ _ _ _ _ _ _ i.2 c.loop-waits-test.false)
