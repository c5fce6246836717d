use mathlib.Core.Path.{refl, ◌∙◌}
use native.Mathlib.Omega.{arith}
use Rattle.std.proofs.lemmas.Result.{err_from_is_err_and}
use Rattle.pruning.specs.Shrunk.{shrunk_fewer}
use Rattle.visiting.specs.Store.{store-start}
use Rattle.engines.specs.Engine.{kept-start, kept_then, kept-wiped, begun-engine, engine-none, engine-done}
use Rattle.engines.specs.EngineAsks.{begun-asks, kept-asks}
use Rattle.engines.proofs.sac.sac.Goals as goal

pub begin-requires : goal.begin-requires
begin-requires c = record { start_asks = c.requires.run_asks.0; blank = c.requires.blank }

pub returns-in_err-begin : goal.returns-in_err-begin
returns-in_err-begin c =
    let r = err_from_is_err_and c.from_residual.result c.from_residual.ensures.1 in
    rw r.1 (begun-engine _ _ _ _ _ c.in_err-begin.ensures.begun)

pub loop-touched-init : goal.loop-touched-init
loop-touched-init c =
    let e = c.in_ok-begin.ensures in
    ((0, kept-start _ _ _ _ (e.begun.live refl)), store-start _ _ _ _ c.requires.memory_words_in_bounds, refl, e.counted refl)

pub pass-requires : goal.pass-requires
pass-requires c =
    let i = c.loop-touched.invariant in
    let p = c.requires.run_asks in record {
      live_asks = (kept-asks _ (begun-asks _ _ _ p.0 c.in_ok-begin.ensures.begun) i.0.1, i.1);
      lent = p.1;
      counted = i.3;
    }

pub returns-in_err-touched : goal.returns-in_err-touched
returns-in_err-touched c =
    let r = err_from_is_err_and c.from_residual-in_err-touched.result c.from_residual-in_err-touched.ensures.1 in
    rw r.1 (engine-none _ _ _ _ _ c.in_ok-begin.ensures.begun
    (kept-wiped _ _ _ c.loop-touched.invariant.0.1 (c.in_err-touched.ensures.passed.none refl)))

pub returns-then-same : goal.returns-then-same
returns-then-same c =
    let p = c.in_ok-touched.ensures.passed in
    engine-done _ _ _ _ _ c.in_ok-begin.ensures.begun (kept_then _ _ _ c.loop-touched.invariant.0.1 (p.kept refl))
    (p.done refl (omega arith))

pub loop-touched-smaller : goal.loop-touched-smaller
loop-touched-smaller c =
    shrunk_fewer (c.in_ok-touched.ensures.passed.kept refl).shrunk (λ z. omega arith)

pub loop-touched-preserved : goal.loop-touched-preserved
loop-touched-preserved c =
    let i = c.loop-touched.invariant in
    let e = c.in_ok-touched.ensures in (
      (_, kept_then _ _ _ i.0.1 (e.passed.kept refl)),
      e.store refl,
      c.pass.auto.memory ∙ i.2,
      e.counted refl,
    )
