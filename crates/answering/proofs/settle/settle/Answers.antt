use mathlib.Core.Path.{refl}
use Rattle.std.proofs.lemmas.Result.{err_from_is_err_and}
use Rattle.session.specs.View.{view}
use Rattle.answering.specs.Settle.{fields-few, settle-asks, settled_wiped, settled_offers}
use Rattle.answering.proofs.settle.settle.Goals as goal

pub run-requires : goal.run-requires
run-requires c = record {
  run_asks = settle-asks _ _ _ _ _ _ _ _ c.requires _
      (record { network = refl; forward = c.forward.ensures; turned = c.turned.ensures; drafts = refl }) _ _ c.start-m.ensures;
  memory_words_in_bounds = c.requires.enough.memory-room;
}

pub returns-in_err-run : goal.returns-in_err-run
unfolding view
returns-in_err-run c =
    let r = err_from_is_err_and c.from_residual.result c.from_residual.ensures.1 in
    rw r.1 (λ xs p. settled_wiped xs _ _ _ _ p
    (record { network = c.args.net; forward = c.forward.result; turned = c.turned.result; triples = c.args.triples })
    (record { network = refl; forward = c.forward.ensures; turned = c.turned.ensures; drafts = refl })
    (view c.args.session) _ _ _ _ c.start-m.ensures c.in_err-run.ensures refl)

pub put-requires : goal.put-requires
put-requires c =
    (fields-few _ _ _ _ _ _ _ _ c.requires, c.requires.enough.offers-room)

pub returns : goal.returns
unfolding view
returns c =
    λ xs p. settled_offers xs _ _ _ _ p
    (record { network = c.args.net; forward = c.forward.result; turned = c.turned.result; triples = c.args.triples })
    (record { network = refl; forward = c.forward.ensures; turned = c.turned.ensures; drafts = refl })
    (view c.args.session) _ _ _ _ c.start-m.ensures c.in_ok-run.ensures refl _ c.put.ensures
