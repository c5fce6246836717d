use mathlib.Core.Path.{refl, ap, ◌∙◌}
use Prim.Native.Nat.{ℕ}
use Rattle.std.proofs.lemmas.Result.{err_from_is_err_and}
use Rattle.masks.specs.Bits.{bit}
use Rattle.masks.proofs.Bits.{bit_of-zero}
use Rattle.closing.specs.Fields.{fields-small}
use Rattle.visiting.specs.Store.{store-start}
use Rattle.engines.specs.Engine.{kept-wiped, begun-engine, engine-none, engine-done}
use Rattle.engines.specs.EngineAsks.{begun-asks, kept-asks}
use Rattle.engines.specs.Queue.{turning_start, turning_turn, turning_less}
use Rattle.engines.proofs.queue.queued.Goals as goal

pub begin-requires : goal.begin-requires
begin-requires c = record { start_asks = c.requires.run_asks.0; blank = c.requires.blank }

pub returns-in_err-begin : goal.returns-in_err-begin
returns-in_err-begin c =
    let r = err_from_is_err_and c.from_residual.result c.from_residual.ensures.1 in
    rw r.1 (begun-engine _ _ _ _ _ c.in_err-begin.ensures.begun)

pub loop-queue-init : goal.loop-queue-init
loop-queue-init c =
    let e = c.in_ok-begin.ensures in
    (turning_start _ _ _ _ _ (e.begun.live refl), store-start _ _ _ _ c.requires.memory_words_in_bounds, refl, e.counted refl)

pub round-requires : goal.round-requires
round-requires c =
    let i = c.loop-queue.invariant in
    let p = c.requires.run_asks in record {
      live_asks = (kept-asks _ (begun-asks _ _ _ p.0 c.in_ok-begin.ensures.begun) i.0.kept.1, i.1);
      lent = (p.1, i.0.small);
      counted = i.3;
    }

pub returns-in_err-queue : goal.returns-in_err-queue
returns-in_err-queue c =
    let r = err_from_is_err_and c.from_residual-in_err-queue.result c.from_residual-in_err-queue.ensures.1 in
    rw r.1 (engine-none _ _ _ _ _ c.in_ok-begin.ensures.begun
    (kept-wiped _ _ _ c.loop-queue.invariant.0.kept.1 (c.in_err-queue.ensures.rounded.none refl)))

pub loop-queue-smaller : goal.loop-queue-smaller
loop-queue-smaller c =
    let p = c.requires.run_asks in
    turning_less _ _ _ _ _ _ _ _ _ c.loop-queue.invariant.0 c.in_ok-queue.ensures.rounded
    (fields-small c.args.tables.now _ p.0.wired.few p.1.selected-fields) c.loop-queue-test.true

pub loop-queue-preserved : goal.loop-queue-preserved
loop-queue-preserved c =
    let i = c.loop-queue.invariant in
    let e = c.in_ok-queue.ensures in
    (turning_turn _ _ _ _ _ _ _ _ _ i.0 e.rounded, e.store refl, c.round.auto.memory ∙ i.2, e.counted refl)

pub returns : goal.returns
returns c =
    let i = c.loop-queue.invariant.0 in
    engine-done _ _ _ _ _ c.in_ok-begin.ensures.begun i.kept.1
    (λ f l. i.off f l (ap (λ (x : ℕ). bit x f) c.loop-queue-test.false ∙ bit_of-zero f))
