-- `close` makes the support sets and counts, and closes by them and the triple rules.
use mathlib.Core.Path.{refl}
use Rattle.std.proofs.lemmas.Result.{err_from_is_err_and}
use Rattle.removal_list.specs.Moved.{moved_then}
use Rattle.consistency.specs.Problem.{all_fields}
use Rattle.network.specs.TripleTable.{problem_of}
use Rattle.closing.specs.Start.{initialize_asks, all-below, started_none, started_else, started-asks, started-wiped, started-closes}
use Rattle.closing.specs.Start.{started-counted}
use Rattle.closing.proofs.close.close.Goals as goal

pub initialize_ac-requires : goal.initialize_ac-requires
initialize_ac-requires c = let p = c.requires in (p.wired, initialize_asks _ _ _ p)

pub returns-in_err-made-clause-closes : goal.returns-in_err-made-clause-closes
returns-in_err-made-clause-closes c =
    let e = err_from_is_err_and c.from_residual.result c.from_residual.ensures.1 in
    rw e.1 (started_none _ _ _ c.requires _ _ _ _ _ _ c.in_err-made.ensures.0 _)

pub narrow-requires : goal.narrow-requires
unfolding all_fields problem_of
narrow-requires c =
    let p = c.requires in
    let i = c.in_ok-made.ensures.0 in
    rw c.first_positions-all.ensures (
      p.wired,
      p.table,
      all-below _ _ _ p,
      (λ g e. e),
      started-asks _ _ _ p _ _ _ _ _ _ i,
      started_else _ _ _ p _ _ _ _ _ _ i,
    )

pub returns-in_err-more-clause-closes : goal.returns-in_err-more-clause-closes
unfolding all_fields problem_of
returns-in_err-more-clause-closes c =
    let e = err_from_is_err_and c.from_residual-in_err-more.result c.from_residual-in_err-more.ensures.1 in
    let p = rw c.first_positions-all.ensures at c.in_err-more.ensures in
    rw e.1 (started-wiped _ _ _ c.requires _ _ _ _ _ _ c.in_ok-made.ensures.0 _ _ _ _ _ _ _ p.2 refl _)

pub returns-in_err-more-clause-lists : goal.returns-in_err-more-clause-lists
returns-in_err-more-clause-lists c =
    (_, moved_then c.in_ok-made.ensures.0.moved c.in_err-more.ensures.2.moved)

pub returns-clause-closes : goal.returns-clause-closes
unfolding all_fields problem_of
returns-clause-closes c =
    let p = rw c.first_positions-all.ensures at c.in_ok-more.ensures in
    started-closes _ _ _ c.requires _ _ _ _ _ _ c.in_ok-made.ensures.0 _ _ _ _ _ _ _ p.2

pub returns-clause-counted : goal.returns-clause-counted
unfolding all_fields problem_of
returns-clause-counted c =
    let p = rw c.first_positions-all.ensures at c.in_ok-more.ensures in
    started-counted _ _ _ c.requires _ _ _ _ _ _ c.in_ok-made.ensures.0 _ _ _ _ _ _ _ p.2 _ refl refl refl refl refl refl

pub returns-clause-lists : goal.returns-clause-lists
returns-clause-lists c =
    (_, moved_then c.in_ok-made.ensures.0.moved c.in_ok-more.ensures.2.moved)
