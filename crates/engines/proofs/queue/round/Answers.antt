use mathlib.Core.Path.{refl, sym, ◌∙◌}
use mathlib.Core.Bool.{true≢false}
use Rattle.std.proofs.lemmas.Result.{err_from_is_err_and}
use Rattle.masks.proofs.Words.{clear_within}
use Rattle.network.specs.TripleTable.{problem_of}
use Rattle.engines.specs.EngineAsks.{order-low, visit-asks, visit-selected, kept-asks}
use Rattle.engines.specs.PutBack.{back-asks}
use Rattle.engines.specs.Queue.{waiting_start, waiting_skip, waiting_none, waiting_turn, waiting_end}
use Rattle.engines.proofs.queue.round.Goals as goal
use Rattle.engines.proofs.queue.round.Goals.{then-has_bit+in_ok-changed, else-has_bit}

pub loop-q-init : goal.loop-q-init
loop-q-init c =
    let p = c.requires in
    ((0, waiting_start _ _ _ _ _ _ p.live_asks.0.live p.lent.1), p.live_asks.1, refl, p.counted, refl)

pub field_at-f-requires : goal.field_at-f-requires
field_at-f-requires c =
    let p = c.requires in
    order-low _ _ _ p.lent.0 p.live_asks.0.wired.few _ c.loop-q-test.true

pub visit-requires : goal.visit-requires
visit-requires c =
    let p = c.requires in
    let i = c.loop-q.invariant in record {
      live_asks = (kept-asks _ p.live_asks.0 i.0.1.kept, i.1);
      f_lt_fields = rw c.field_at-f.ensures.0 (visit-asks _ _ _ p.lent.0 p.live_asks.0.wired.few _ c.loop-q-test.true);
      counted = i.3;
    }

pub returns-in_err-changed : goal.returns-in_err-changed
unfolding problem_of
returns-in_err-changed c =
    let p = c.requires in
    let w = c.loop-q.invariant.0.1 in
    let e = c.field_at-f.ensures.0 in
    let on = w.small _ (rw e at (sym c.has_bit.ensures ∙ c.if-has_bit.true)) in
    let in-mask = visit-selected _ _ _ p.lent.0 p.live_asks.0.wired.few _ c.loop-q-test.true on in
    let visited = rw e at c.in_err-changed.ensures.visited in
    let r = err_from_is_err_and c.from_residual.result c.from_residual.ensures.1 in
    rw r.1 (record {
      rounded = waiting_none _ _ _ _ _ _ _ _ _ _ w in-mask _ _ _ visited refl _;
      store = λ z. absurd (true≢false z);
      counted = λ z. absurd (true≢false z);
      support = c.in_err-changed.ensures.support ∙ c.loop-q.invariant.4;
    })

pub put_back-queue-requires : goal.put_back-queue-requires
unfolding problem_of
put_back-queue-requires c =
    let p = c.requires in
    rw c.clear_bit.ensures
    (back-asks _ _ p.live_asks.0.wired.few p.lent.0.near _ _ _ p.lent.0.selected-fields
    (λ v e. c.loop-q.invariant.0.1.small v (clear_within _ _ v e)) (c.in_ok-changed.ensures.visited.marks refl))

pub loop-q-preserved : goal.loop-q-preserved
unfolding problem_of
loop-q-preserved c =
    let p = c.requires in
    let i = c.loop-q.invariant in
    let e = c.field_at-f.ensures.0 in
    elim c.if-has_bit.branch [
      | then-has_bit+in_ok-changed w ↦
          let on = i.0.1.small _ (rw e at (sym c.has_bit.ensures ∙ w.if-has_bit.true)) in
          let in-mask = visit-selected _ _ _ p.lent.0 p.live_asks.0.wired.few _ c.loop-q-test.true on in
          let done = w.in_ok-changed.ensures in
          let visited = rw e at done.visited in
          let back = rw (w.clear_bit.ensures, e) at w.put_back-queue.ensures in
          rw (w.m-is, w.known-is, w.memory-is, w.ac4-is, w.queue-is) (
            (
              _,
              waiting_turn _ _ _ _ _ _ _ _ _ _ i.0.1 in-mask _ _ _ visited refl p.live_asks.0.wired.few
                  p.lent.0.selected-fields p.lent.0.near _ _ back,
            ),
            done.store refl,
            w.visit.auto.memory ∙ i.2,
            done.counted refl,
            done.support ∙ i.4,
          )
      | else-has_bit w ↦
          let off = rw (c.has_bit.ensures, e) at w.if-has_bit.false in
          rw (w.m-is, w.known-is, w.memory-is, w.ac4-is, w.queue-is) ((_, waiting_skip _ _ _ _ _ _ _ _ _ _ i.0.1 off), i.1, i.2, i.3, i.4)
    ]

pub returns : goal.returns
unfolding problem_of
returns c =
    let p = c.requires.lent.0 in
    let i = c.loop-q.invariant in record {
      rounded = waiting_end _ _ _ _ _ _ _ _ _ _ p.selected-fields p.visits c.loop-q-test.false i.0.1;
      store = λ _. i.1;
      counted = λ _. i.3;
      support = i.4;
    }
