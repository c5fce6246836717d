-- `test` cuts off the other settings of the field, and closes on the copy of the counts.
use mathlib.Core.Path.{refl}
use native.Mathlib.Omega.{arith}
use Rattle.closing.specs.Asks.{place_bound}
use Rattle.closing.specs.TestAsks.{ok_not-wiped, own_below, cut-asks, cut_prune_asks, cut_else, cut-recover-asks, test-passes}
use Rattle.closing.specs.TestAsks.{test-lists, test-counted}
use Rattle.closing.proofs.test.test.Goals as goal

pub cut-cut-requires : goal.cut-cut-requires
cut-cut-requires c =
    let p = c.requires.live_asks in
    let l = place_bound _ _ p.0 _ _ p.1 in (l.1, omega arith)

pub offset_bounds-t-f : goal.offset_bounds-t-f
offset_bounds-t-f c =
    let p = c.requires.live_asks in
    let l = (place_bound _ _ p.0 _ _ p.1).1 in omega arith

pub bounds-t-f : goal.bounds-t-f
bounds-t-f c =
    let p = c.requires.live_asks in
    (place_bound _ _ p.0 _ _ p.1).1

pub offset_bounds-cut-f : goal.offset_bounds-cut-f
offset_bounds-cut-f c =
    let p = c.requires.live_asks in
    let l = (place_bound _ _ p.0 _ _ p.1).1 in omega arith

pub bounds-cut-f : goal.bounds-cut-f
bounds-cut-f c =
    let p = c.requires.live_asks in
    (place_bound _ _ p.0 _ _ p.1).1

pub move_out-requires : goal.move_out-requires
move_out-requires c =
    let s = c.requires.live_asks in
    rw c.cut-cut.ensures (cut-asks _ _ s.0 _ c.requires.counted _ _ s.1).0

pub one_bit-requires : goal.one_bit-requires
one_bit-requires c =
    let p = c.requires.live_asks in
    let l = (place_bound _ _ p.0 _ _ p.1).1 in omega arith

pub narrow-requires : goal.narrow-requires
narrow-requires c =
    let s = c.requires.live_asks in
    let q = c.requires.counted in
    let m = rw c.cut-cut.ensures at c.move_out.ensures in
    rw c.one_bit.ensures (
      s.0.wired,
      s.0.table,
      own_below _ _ s.0 _ q _ _ s.1,
      s.2,
      cut_prune_asks _ _ s.0 _ q _ _ s.1 _ _ _ m.0 m.1 _ s.2 s.3,
      cut_else _ _ s.0 _ q _ _ s.1 _ _ _ m.0 m.1 _ s.2 s.3,
    )

pub recover-requires : goal.recover-requires
recover-requires c =
    let s = c.requires.live_asks in
    let q = c.requires.counted in
    let m = rw c.cut-cut.ensures at c.move_out.ensures in
    let p = c.narrow.ensures in
    (cut-recover-asks _ _ s.0 _ q _ _ s.1 _ _ _ m.0 m.1 _ s.2 s.3 _ _ _ _ _ _ _ p.2 p.1).0

pub returns-clause-tested : goal.returns-clause-tested
returns-clause-tested c =
    let s = c.requires.live_asks in
    let q = c.requires.counted in
    let m = rw c.cut-cut.ensures at c.move_out.ensures in
    rw (c.is_ok-passes.ensures.value, ok_not-wiped c.narrow.result)
    (test-passes _ _ s.0 _ q _ _ s.1 _ _ _ m.0 m.1 _ s.2 s.3 _ _ _ _ _ _ _ c.narrow.ensures.2)

pub returns-clause-counted : goal.returns-clause-counted
returns-clause-counted c =
    let s = c.requires.live_asks in
    let q = c.requires.counted in
    let m = rw c.cut-cut.ensures at c.move_out.ensures in
    test-counted _ _ s.0 _ q _ _ s.1 _ _ _ m.0 m.1 _ s.2 s.3 _ _ _ _ _ _ _ c.narrow.ensures.2
    _ record { counter = refl; support = refl } c.recover.ensures refl refl

pub returns-clause-lists : goal.returns-clause-lists
returns-clause-lists c =
    let s = c.requires.live_asks in
    let q = c.requires.counted in
    let m = rw c.cut-cut.ensures at c.move_out.ensures in
    test-lists _ _ s.0 _ q _ _ s.1 _ _ _ m.0 m.1 _ s.2 s.3 _ _ _ _ _ _ _ c.narrow.ensures.2
