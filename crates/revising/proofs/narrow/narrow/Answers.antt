-- `narrow` empties the list, then makes turns for the triple rules that wait.
use Rattle.std.proofs.lemmas.Result.{err_from_is_err_and}
use Rattle.pruning.specs.Prune.{spends-more}
use Rattle.revising.specs.Narrow.{pruned_wiped}
use Rattle.revising.specs.Over.{first-none, touched-below, first-emptied, first_waiting, narrow-then, first_end}
use Rattle.revising.proofs.narrow.narrow.Goals as goal

pub returns-in_err-changed : goal.returns-in_err-changed
returns-in_err-changed c =
    let p = c.requires in
    let q = c.in_err-changed.ensures in
    let e = err_from_is_err_and c.from_residual.result c.from_residual.ensures.1 in
    rw e.1 (q.0, q.1, first-none c.args.tables.now p.0 p.1 _ p.3 _ _ _ _ _ p.4 _ p.2 p.5 _ _ _ _ _ _ q.2)

pub touched-pending-requires : goal.touched-pending-requires
touched-pending-requires c =
    let p = c.requires in
    let q = c.in_ok-changed.ensures in
    (p.1, p.0.few, touched-below c.args.tables.now p.0 p.1 _ p.3 _ _ _ _ _ p.4 _ p.2 p.5 _ _ _ _ _ _ q.2)

pub returns-then-pending-eq0 : goal.returns-then-pending-eq0
returns-then-pending-eq0 c =
    let p = c.requires in
    let q = c.in_ok-changed.ensures in (
      q.0,
      q.1,
      first_end c.args.tables.now p.0 p.1 _ p.3 _ _ _ _ _ p.4 _ p.2 p.5 _ _ _ _ _ _ q.2 _ c.touched-pending.ensures
          c.if-pending-eq0.true,
    )

pub revise_all-requires : goal.revise_all-requires
revise_all-requires c =
    let p = c.requires in
    let q = c.in_ok-changed.ensures in (
      p.0,
      p.1,
      p.3,
      first-emptied c.args.tables.now p.0 p.1 _ p.3 _ _ _ _ _ p.4 _ p.2 p.5 _ _ _ _ _ _ q.2,
      first_waiting
          c.args.tables.now p.0 p.1 _ p.3 _ _ _ _ _ p.4 _ p.2 p.5 _ _ _ _ _ _ q.2 _ c.touched-pending.ensures,
    )

pub returns-in_err-more : goal.returns-in_err-more
returns-in_err-more c =
    let p = c.requires in
    let q = c.in_ok-changed.ensures in
    let r = c.in_err-more.ensures in
    let e = err_from_is_err_and c.from_residual-in_err-more.result c.from_residual-in_err-more.ensures.1 in
    rw (e.1, r.1)
    (spends-more _ _ _ _ _ q.1 (pruned_wiped (narrow-then c.args.tables.now p.0 p.1 _ p.3 _ _ _ _ _ p.4 _ p.2 p.5 _ _ _ _ _ _ q.2
    _ c.touched-pending.ensures _ _ _ _ _ _ _ r.2)))

pub returns : goal.returns
returns c =
    let p = c.requires in
    let q = c.in_ok-changed.ensures in
    let r = c.in_ok-more.ensures in
    rw r.1 (spends-more _ _ _ _ _ q.1 (narrow-then c.args.tables.now p.0 p.1 _ p.3 _ _ _ _ _ p.4 _ p.2 p.5 _ _ _ _ _ _ q.2 _
    c.touched-pending.ensures _ _ _ _ _ _ _ r.2))
