use mathlib.Core.Path.{refl, sym, ◌∙◌}
use mathlib.Core.Bool.{true≢false}
use Rattle.std.proofs.lemmas.Result.{err_from_is_err_and}
use Rattle.network.specs.TripleTable.{problem_of}
use Rattle.engines.specs.EngineAsks.{order-low, visit-asks, visit-selected, kept-asks}
use Rattle.engines.specs.Pass.{passing-start, passing_skip, passing-none, passing-turn, passing_end}
use Rattle.engines.proofs.sac.pass.Goals as goal
use Rattle.engines.proofs.sac.pass.Goals.{then-has_bit+in_ok-touched, else-has_bit}

pub loop-q-init : goal.loop-q-init
loop-q-init c =
    let p = c.requires in
    (passing-start _ _ _ _ _ p.live_asks.0.live, p.live_asks.1, refl, p.counted, refl)

pub field_at-f-requires : goal.field_at-f-requires
field_at-f-requires c =
    let p = c.requires in
    order-low _ _ _ p.lent p.live_asks.0.wired.few _ c.loop-q-test.true

pub visit-requires : goal.visit-requires
visit-requires c =
    let p = c.requires in
    let i = c.loop-q.invariant in record {
      live_asks = (kept-asks _ p.live_asks.0 i.0.kept, i.1);
      f_lt_fields = rw c.field_at-f.ensures.0 (visit-asks _ _ _ p.lent p.live_asks.0.wired.few _ c.loop-q-test.true);
      counted = i.3;
    }

pub returns-in_err-touched : goal.returns-in_err-touched
unfolding problem_of
returns-in_err-touched c =
    let p = c.requires in
    let e = c.field_at-f.ensures.0 in
    let on = rw e at (sym c.has_bit.ensures ∙ c.if-has_bit.true) in
    let in-mask = visit-selected _ _ _ p.lent p.live_asks.0.wired.few _ c.loop-q-test.true on in
    let visited = rw e at c.in_err-touched.ensures.visited in
    let r = err_from_is_err_and c.from_residual.result c.from_residual.ensures.1 in
    rw r.1 (record {
      passed = passing-none _ _ _ _ _ _ _ _ c.loop-q.invariant.0 in-mask _ _ _ visited refl _;
      store = λ z. absurd (true≢false z);
      counted = λ z. absurd (true≢false z);
      support = c.in_err-touched.ensures.support ∙ c.loop-q.invariant.4;
    })

pub loop-q-preserved : goal.loop-q-preserved
unfolding problem_of
loop-q-preserved c =
    let p = c.requires in
    let i = c.loop-q.invariant in
    let e = c.field_at-f.ensures.0 in
    elim c.if-has_bit.branch [
      | then-has_bit+in_ok-touched w ↦
          let on = rw e at (sym c.has_bit.ensures ∙ w.if-has_bit.true) in
          let in-mask = visit-selected _ _ _ p.lent p.live_asks.0.wired.few _ c.loop-q-test.true on in
          let done = w.in_ok-touched.ensures in
          let visited = rw e at done.visited in
          rw (w.m-is, w.known-is, w.memory-is, w.ac4-is, w.touched-is) (
            passing-turn _ _ _ _ _ _ _ _ i.0 in-mask _ _ _ visited refl,
            done.store refl,
            w.visit.auto.memory ∙ i.2,
            done.counted refl,
            done.support ∙ i.4,
          )
      | else-has_bit w ↦
          let off = rw (c.has_bit.ensures, e) at w.if-has_bit.false in
          rw (w.m-is, w.known-is, w.memory-is, w.ac4-is, w.touched-is) (passing_skip _ _ _ _ _ _ _ _ i.0 off, i.1, i.2, i.3, i.4)
    ]

pub returns : goal.returns
unfolding problem_of
returns c =
    let i = c.loop-q.invariant in record {
      passed = passing_end _ _ _ _ _ _ _ _ c.requires.lent.visits c.loop-q-test.false i.0;
      store = λ _. i.1;
      counted = λ _. i.3;
      support = i.4;
    }
