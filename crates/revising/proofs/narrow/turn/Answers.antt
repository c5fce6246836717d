-- `turn` revises, drops and prunes.
use Rattle.std.proofs.lemmas.Result.{err_from_is_err_and}
use Rattle.pruning.specs.Prune.{spends-none}
use Rattle.revising.specs.Turn.{turned-wiped}
use Rattle.revising.specs.Over.{drop-asks, turn-none, prune_asks, turn-by}
use Rattle.revising.proofs.narrow.turn.Goals as goal

pub revise-near-requires : goal.revise-near-requires
revise-near-requires c =
    let p = c.requires in
    (p.1, p.0.few, p.2)

pub drop-requires : goal.drop-requires
drop-requires c =
    let p = c.requires in
    (drop-asks c.args.tables.now p.0 p.1 _ p.3 _ _ p.2 _ _ _ _ p.4 _ _ c.revise-near.ensures).0

pub returns-in_err-lost : goal.returns-in_err-lost
returns-in_err-lost c =
    let p = c.requires in
    let e = err_from_is_err_and c.from_residual.result c.from_residual.ensures.1 in
    rw e.1 (spends-none _ _ (turn-none c.args.tables.now p.0 p.1 _ p.3 _ _ p.2 _ _ _ _ p.4 _ _ c.revise-near.ensures _ _ _ _
    c.in_err-lost.ensures))

pub prune_ac-requires : goal.prune_ac-requires
prune_ac-requires c =
    let p = c.requires in
    (p.0, prune_asks c.args.tables.now p.0 p.1 _ p.3 _ _ p.2 _ _ _ _ p.4 _ _ c.revise-near.ensures _ _ _ _ c.in_ok-lost.ensures)

pub returns-in_err-changed : goal.returns-in_err-changed
returns-in_err-changed c =
    let p = c.requires in
    let q = c.in_err-changed.ensures in
    let e = err_from_is_err_and c.from_residual-in_err-changed.result c.from_residual-in_err-changed.ensures.1 in
    let d = turn-by c.args.tables.now p.0 p.1 _ p.3 _ _ p.2 _ _ _ _ p.4 _ _ c.revise-near.ensures _ _ _ _ c.in_ok-lost.ensures _
    _ _ _ _ _ _ q.2 in
    rw e.1 (q.0, q.1, turned-wiped _ _ _ d _ _)

pub returns : goal.returns
returns c =
    let p = c.requires in
    let q = c.in_ok-changed.ensures in (
      q.0,
      q.1,
      turn-by c.args.tables.now p.0 p.1 _ p.3 _ _ p.2 _ _ _ _ p.4 _ _ c.revise-near.ensures _ _ _ _ c.in_ok-lost.ensures _ _ _ _ _ _ _ q.2,
    )
