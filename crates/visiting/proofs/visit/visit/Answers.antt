use mathlib.Core.Path.{◌≡◌, refl, sym, ap, ◌∙◌}
use mathlib.Core.Bool.{true, true≢false}
use native.Mathlib.Omega.{arith}
use lib.Bits.{and_le_l}
use lib.ListN.{get_or}
use Rattle.std.proofs.lemmas.Result.{err_from_is_err_and}
use Rattle.masks.proofs.Words.{clear-lt}
use Rattle.closing.specs.Asks.{asks-shrunk}
use Rattle.visiting.specs.declared.store.CheckResult.{CheckResult}
use Rattle.visiting.specs.declared.store.CheckResult.TheVariants.{Recalled, Passed, Failed}
use Rattle.visiting.specs.Store.{passing, store-shrunk}
use Rattle.visiting.specs.Visit.{visiting_start, visiting_has, visiting_pass, visiting_none, visiting_fail, visiting_end}
use Rattle.visiting.proofs.visit.visit.Goals as goal

-- every variant but the failure passes
other : (r : CheckResult) → (r ≡ Failed → ⊥) → passing r ≡ true
other Recalled n = refl
other Passed n = refl
other Failed n = absurd (n refl)

pub loop-left-init : goal.loop-left-init
loop-left-init c =
    let a = c.requires.live_asks in (visiting_start _ _ _ _ a.0.live, a.1, refl, c.requires.counted, refl)

pub check-found-requires : goal.check-found-requires
check-found-requires c =
    let i = c.loop-left.invariant in record {
      live_asks = (asks-shrunk _ _ c.requires.live_asks.0 i.0.shrunk i.0.live, i.1);
      hood_asks = (c.requires.f_lt_fields.1, visiting_has _ _ _ _ _ _ _ _ i.0 c.lowest_bit-v.ensures.0.set);
      counted = i.3;
    }

pub remove-requires : goal.remove-requires
remove-requires c =
    let i = c.loop-left.invariant.0 in record {
      live_asks = (
        asks-shrunk _ _ c.requires.live_asks.0 i.shrunk i.live,
        visiting_has _ _ _ _ _ _ _ _ i c.lowest_bit-v.ensures.0.set,
      );
      counted = c.check-found.ensures.counted;
    }

pub returns-in_err-touched : goal.returns-in_err-touched
returns-in_err-touched c =
    let fails = sym c.check-found.ensures.checked.passed ∙ ap passing c.in-Failed.is in
    let r = err_from_is_err_and c.from_residual.result c.from_residual.ensures.1 in
    rw r.1 (record {
      visited = visiting_none _ _ _ _ _ _ _ _ c.loop-left.invariant.0 fails _ _ c.in_err-touched.ensures.removed _;
      store = λ e. absurd (true≢false e);
      counted = λ e. absurd (true≢false e);
      support = c.in_err-touched.ensures.support ∙ c.check-found.ensures.kept.support ∙ c.loop-left.invariant.4;
    })

pub loop-left-smaller-in-Failed : goal.loop-left-smaller-in-Failed
loop-left-smaller-in-Failed c =
    let l = clear-lt _ _ c.lowest_bit-v.ensures.0.set in
    let e = c.clear_bit-left.ensures in
    let k = and_le_l c.clear_bit-left.result (get_or c.remove.new.m c.args.f 0) in
    omega (arith, l, e, k)

pub loop-left-preserved-in-Failed : goal.loop-left-preserved-in-Failed
loop-left-preserved-in-Failed c =
    let fails = sym c.check-found.ensures.checked.passed ∙ ap passing c.in-Failed.is in
    let gone = c.in_ok-touched.ensures in
    let lost = gone.removed in (
      rw c.clear_bit-left.ensures (visiting_fail _ _ _ _ _ _ _ _ c.loop-left.invariant.0 fails _ _ lost),
      store-shrunk _ lost.sized (lost.shrunk refl).inside c.check-found.ensures.checked.store,
      c.check-found.auto.memory ∙ c.loop-left.invariant.2,
      gone.counted refl,
      gone.support ∙ c.check-found.ensures.kept.support ∙ c.loop-left.invariant.4,
    )

pub loop-left-smaller : goal.loop-left-smaller
loop-left-smaller c = rw c.clear_bit-left.ensures (clear-lt _ _ c.lowest_bit-v.ensures.0.set)

pub loop-left-preserved : goal.loop-left-preserved
loop-left-preserved c =
    let found = c.check-found.ensures in
    let passes = sym found.checked.passed ∙ other c.check-found.result c.in_default.not-Failed in (
      rw c.clear_bit-left.ensures (visiting_pass _ _ _ _ _ _ _ _ c.loop-left.invariant.0 passes),
      found.checked.store,
      c.check-found.auto.memory ∙ c.loop-left.invariant.2,
      found.counted,
      found.kept.support ∙ c.loop-left.invariant.4,
    )

pub returns : goal.returns
returns c =
    let i = c.loop-left.invariant in
    record {
      visited = visiting_end _ _ _ _ _ _ _ c.loop-left-test.false i.0;
      store = λ _. i.1;
      counted = λ _. i.3;
      support = i.4;
    }
