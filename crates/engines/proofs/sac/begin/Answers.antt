-- `begin` looks for an empty field, and closes.
use mathlib.Core.Path.{sym, ◌∙◌}
use mathlib.Core.Bool.{true≢false}
use Rattle.std.proofs.lemmas.Result.{err_from_is_err_and}
use Rattle.network.specs.TripleTable.{problem_of}
use Rattle.engines.specs.Engine.{begun-empty, begun_closed}
use Rattle.engines.specs.EngineAsks.{start-asks}
use Rattle.engines.proofs.sac.begin.Goals as goal

pub returns-then-some_empty : goal.returns-then-some_empty
unfolding problem_of
returns-then-some_empty c = record {
  begun = begun-empty _ _ (sym c.some_empty.ensures ∙ c.if-some_empty.true);
  counted = λ e. absurd (true≢false e);
}

pub close-requires : goal.close-requires
close-requires c =
    start-asks _ _ _ c.requires.start_asks c.requires.blank (sym c.some_empty.ensures ∙ c.if-some_empty.false)

pub returns-in_err-close : goal.returns-in_err-close
returns-in_err-close c =
    let r = err_from_is_err_and c.from_residual.result c.from_residual.ensures.1 in
    rw r.1 (record {
      begun = begun_closed _ _ c.requires.start_asks.on _ _ _ c.in_err-close.ensures.closes;
      counted = λ e. absurd (true≢false e);
    })

pub returns : goal.returns
returns c =
    let r = c.in_ok-close.ensures in
    record { begun = begun_closed _ _ c.requires.start_asks.on _ _ _ r.closes; counted = r.counted }
