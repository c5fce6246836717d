-- `remove` loses the setting, and closes again.
use mathlib.Core.Path.{refl, sym, ◌∙◌}
use mathlib.Core.Bool.{true≢false}
use native.Mathlib.Omega.{arith}
use Rattle.std.proofs.lemmas.Result.{err_from_is_err_and}
use Rattle.removal_list.specs.Moved.{moved_none}
use Rattle.consistency.specs.Problem.{all_fields}
use Rattle.network.specs.TripleTable.{problem_of}
use Rattle.closing.specs.Frame.{removed-wiped}
use Rattle.closing.specs.Asks.{place_bound, removed_empty}
use Rattle.closing.specs.TestAsks.{own_below, lose-asks, lose_prune_asks, lose_else, lose-recover-asks, remove-closes, remove-lists}
use Rattle.closing.specs.TestAsks.{remove-counted}
use Rattle.closing.proofs.test.remove.Goals as goal

pub lose-left-requires : goal.lose-left-requires
lose-left-requires c =
    let p = c.requires.live_asks in
    let l = place_bound _ _ p.0 _ _ p.1 in (l.1, omega arith)

pub is_empty-requires : goal.is_empty-requires
is_empty-requires c =
    let p = c.requires.live_asks in
    (place_bound _ _ p.0 _ _ p.1).1

pub returns-then-is_empty : goal.returns-then-is_empty
returns-then-is_empty c =
    let s = c.requires.live_asks in
    let z = sym c.is_empty.ensures ∙ c.if-is_empty.true in
    let e = rw c.lose-left.ensures at z in record {
      removed = removed_empty _ _ s.0 _ _ s.1 e;
      counted = λ q. absurd (true≢false q);
      support = refl;
      lists = (0, moved_none _ _ _);
    }

pub offset_bounds-m-f : goal.offset_bounds-m-f
offset_bounds-m-f c =
    let p = c.requires.live_asks in
    let l = (place_bound _ _ p.0 _ _ p.1).1 in omega arith

pub bounds-m-f : goal.bounds-m-f
bounds-m-f c =
    let p = c.requires.live_asks in
    (place_bound _ _ p.0 _ _ p.1).1

pub offset_bounds-left-f : goal.offset_bounds-left-f
offset_bounds-left-f c =
    let p = c.requires.live_asks in
    let l = (place_bound _ _ p.0 _ _ p.1).1 in omega arith

pub bounds-left-f : goal.bounds-left-f
bounds-left-f c =
    let p = c.requires.live_asks in
    (place_bound _ _ p.0 _ _ p.1).1

pub move_out-requires : goal.move_out-requires
move_out-requires c =
    let s = c.requires.live_asks in
    rw c.lose-left.ensures (lose-asks _ _ s.0 _ c.requires.counted _ _ s.1).0

pub one_bit-own-requires : goal.one_bit-own-requires
one_bit-own-requires c =
    let p = c.requires.live_asks in
    let l = (place_bound _ _ p.0 _ _ p.1).1 in omega arith

pub narrow-requires : goal.narrow-requires
unfolding all_fields problem_of
narrow-requires c =
    let s = c.requires.live_asks in
    let q = c.requires.counted in
    let m = rw c.lose-left.ensures at c.move_out.ensures in
    let left = rw c.lose-left.ensures at (sym c.is_empty.ensures ∙ c.if-is_empty.false) in
    rw (c.first_positions-all.ensures, c.one_bit-own.ensures) (
      s.0.wired,
      s.0.table,
      own_below _ _ s.0 _ q _ _ s.1,
      (λ g e. e),
      lose_prune_asks _ _ s.0 _ q _ _ s.1 left _ _ _ m.0 m.1,
      lose_else _ _ s.0 _ q _ _ s.1 left _ _ _ m.0 m.1,
    )

pub returns-in_err-more-clause-removed : goal.returns-in_err-more-clause-removed
unfolding all_fields problem_of
returns-in_err-more-clause-removed c =
    let s = c.requires.live_asks in
    let q = c.requires.counted in
    let m = rw c.lose-left.ensures at c.move_out.ensures in
    let left = rw c.lose-left.ensures at (sym c.is_empty.ensures ∙ c.if-is_empty.false) in
    let p = rw c.first_positions-all.ensures at c.in_err-more.ensures in
    let e = err_from_is_err_and c.from_residual.result c.from_residual.ensures.1 in
    rw e.1 (removed-wiped _ (remove-closes _ _ s.0 _ q _ _ s.1 left _ _ _ m.0 m.1 _ _ _ _ _ _ _ p.2))

pub returns-in_err-more-clause-lists : goal.returns-in_err-more-clause-lists
unfolding all_fields problem_of
returns-in_err-more-clause-lists c =
    let s = c.requires.live_asks in
    let q = c.requires.counted in
    let m = rw c.lose-left.ensures at c.move_out.ensures in
    let left = rw c.lose-left.ensures at (sym c.is_empty.ensures ∙ c.if-is_empty.false) in
    let p = rw c.first_positions-all.ensures at c.in_err-more.ensures in
    remove-lists _ _ s.0 _ q _ _ s.1 left _ _ _ m.0 m.1 _ _ _ _ _ _ _ p.2

pub recover-requires : goal.recover-requires
unfolding all_fields problem_of
recover-requires c =
    let s = c.requires.live_asks in
    let q = c.requires.counted in
    let m = rw c.lose-left.ensures at c.move_out.ensures in
    let left = rw c.lose-left.ensures at (sym c.is_empty.ensures ∙ c.if-is_empty.false) in
    let p = rw c.first_positions-all.ensures at c.in_ok-more.ensures in
    (lose-recover-asks _ _ s.0 _ q _ _ s.1 left _ _ _ m.0 m.1 _ _ _ _ _ _ _ p.2 p.1).0

pub returns-clause-removed : goal.returns-clause-removed
unfolding all_fields problem_of
returns-clause-removed c =
    let s = c.requires.live_asks in
    let q = c.requires.counted in
    let m = rw c.lose-left.ensures at c.move_out.ensures in
    let left = rw c.lose-left.ensures at (sym c.is_empty.ensures ∙ c.if-is_empty.false) in
    let p = rw c.first_positions-all.ensures at c.in_ok-more.ensures in
    rw c.one_bit-own.ensures (remove-closes _ _ s.0 _ q _ _ s.1 left _ _ _ m.0 m.1 _ _ _ _ _ _ _ p.2)

pub returns-clause-counted : goal.returns-clause-counted
unfolding all_fields problem_of
returns-clause-counted c =
    let s = c.requires.live_asks in
    let q = c.requires.counted in
    let m = rw c.lose-left.ensures at c.move_out.ensures in
    let left = rw c.lose-left.ensures at (sym c.is_empty.ensures ∙ c.if-is_empty.false) in
    let p = rw c.first_positions-all.ensures at c.in_ok-more.ensures in
    remove-counted _ _ s.0 _ q _ _ s.1 left _ _ _ m.0 m.1 _ _ _ _ _ _ _ p.2 _ refl refl refl c.recover.ensures q.spent-copy refl

pub returns-clause-lists : goal.returns-clause-lists
unfolding all_fields problem_of
returns-clause-lists c =
    let s = c.requires.live_asks in
    let q = c.requires.counted in
    let m = rw c.lose-left.ensures at c.move_out.ensures in
    let left = rw c.lose-left.ensures at (sym c.is_empty.ensures ∙ c.if-is_empty.false) in
    let p = rw c.first_positions-all.ensures at c.in_ok-more.ensures in
    remove-lists _ _ s.0 _ q _ _ s.1 left _ _ _ m.0 m.1 _ _ _ _ _ _ _ p.2
