use mathlib.Core.Path.{◌≡◌, refl}
use native.Mathlib.Omega.{arith}
use Rattle.std.proofs.lemmas.Result.{err_from_is_err_and}
use Rattle.initializing.specs.InitializeTurn.{initialize_start, initialize_end, record-asks, count-asks}
use Rattle.initializing.specs.InitializeTurn.{initialize_drop-asks, initialized_none, initialized_next}
use Rattle.initializing.proofs.initialize_ac.initialize_ac.Goals as goal

pub loop-j-init : goal.loop-j-init
loop-j-init c = let p = c.requires in (initialize_start _ _ _ _ p.0 _ _ _ _ p.1, refl)

pub bounds-tables-j : goal.bounds-tables-j
bounds-tables-j c =
    let p = c.requires in
    (record-asks _ _ _ _ p.0 _ _ _ _ p.1 _ _ _ _ _ _ _ c.loop-j.invariant.0 c.loop-j-test.true).0.0

pub record-requires : goal.record-requires
record-requires c =
    let p = c.requires in
    (record-asks _ _ _ _ p.0 _ _ _ _ p.1 _ _ _ _ _ _ _ c.loop-j.invariant.0 c.loop-j-test.true).0

pub bounds-d-j : goal.bounds-d-j
bounds-d-j c =
    let p = c.requires in
    (record-asks _ _ _ _ p.0 _ _ _ _ p.1 _ _ _ _ _ _ _ c.loop-j.invariant.0 c.loop-j-test.true).0.0

pub count_towards-requires : goal.count_towards-requires
count_towards-requires c =
    let p = c.requires in
    (count-asks _ _ _ _ p.0 _ _ _ _ p.1 _ _ _ _ _ _ _ c.loop-j.invariant.0 c.loop-j-test.true).0

pub uncounted-none-requires : goal.uncounted-none-requires
uncounted-none-requires c =
    let p = c.requires in
    let a = (count-asks _ _ _ _ p.0 _ _ _ _ p.1 _ _ _ _ _ _ _ c.loop-j.invariant.0 c.loop-j-test.true).0 in
    (a.0, a.2)

pub drop-requires : goal.drop-requires
drop-requires c =
    let p = c.requires in
    (initialize_drop-asks _ _ _ _ p.0 _ _ _ _ p.1 _ _ _ _ _ _ _ c.loop-j.invariant.0 c.loop-j-test.true).0

pub returns-in_err-changed : goal.returns-in_err-changed
returns-in_err-changed c =
    let p = c.requires in
    let e = err_from_is_err_and c.from_residual.result c.from_residual.ensures.1 in
    rw e.1 (
      initialized_none _ _ _ _ p.0 _ _ _ _ p.1 _ _ _ _ _ _ _ c.loop-j.invariant.0 c.loop-j-test.true
          _ c.record.ensures _ c.count_towards.ensures _ c.uncounted-none.ensures _ _ _ _ c.in_err-changed.ensures _,
      c.loop-j.invariant.1,
    )

pub loop-j-preserved : goal.loop-j-preserved
loop-j-preserved c =
    let p = c.requires in (
      initialized_next _ _ _ _ p.0 _ _ _ _ p.1 _ _ _ _ _ _ _ c.loop-j.invariant.0 c.loop-j-test.true
          _ c.record.ensures _ c.count_towards.ensures _ c.uncounted-none.ensures _ _ _ _ c.in_ok-changed.ensures,
      c.loop-j.invariant.1,
    )

pub returns : goal.returns
returns c =
    let p = c.requires in
    let i = c.loop-j.invariant in
    let e : c.loop-j.j ≡ c.args.tables.now.network.now.fields = omega arith in
    (initialize_end _ _ _ _ p.0 _ _ _ _ p.1 _ _ _ _ _ _ _ i.0 e, i.1)
