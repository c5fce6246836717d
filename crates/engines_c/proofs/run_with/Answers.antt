-- `run_with` makes the table of the triple rules, and runs the engine.
use mathlib.Core.Path.{sym, ap}
use lib.Seq.{length-take-le}
use Rattle.std.specs.Prelude.{take}
use Rattle.accepted.specs.declared.outline.Outline.{Outline}
use Rattle.engines.specs.Offering.{zeros-room}
use Rattle.engines.specs.Answers.{run-asks, answers}
use Rattle.network.specs.declared.tables.Tables.{Tables}
use Rattle.network.specs.Network.{NetworkOf}
use Rattle.engines_c.proofs.Wiped.{err-wiped}
use Rattle.engines_c.proofs.run_with.Goals as goal

pub slice_bounds-outline_of-end-2 : goal.slice_bounds-outline_of-end-2
slice_bounds-outline_of-end-2 g c = sym (length-take-le _ _ c.requires.0.ends)

pub slice_bounds-fill_triples-end-2 : goal.slice_bounds-fill_triples-end-2
slice_bounds-fill_triples-end-2 g c = sym (length-take-le _ _ c.requires.0.ends)

pub fill_triples-requires : goal.fill_triples-requires
fill_triples-requires g c =
    let p = c.requires in
    zeros-room _ _ _ _ p.1 p.0.accepted _ (ap (λ (o : Outline). o.full) c.outline_of-outline.ensures) _ p.2

pub run-requires : goal.run-requires
run-requires g c =
    let p = c.requires in
    let a = p.0 in
    let net : NetworkOf (take c.args.count c.args.memory.now) c.args.net.now c.forward.result.now c.turned.result.now =
    rw (c.forward.ensures, c.turned.ensures) p.1 in
    record {
      run_asks = run-asks _ _ net c.fill_triples.ensures _ _ _ a.visits a.selected-fields a.masks a.on;
      memory_words_in_bounds = a.room;
    }

pub returns : goal.returns
returns g c =
    let net : NetworkOf (take c.args.count c.args.memory.now) c.args.net.now c.forward.result.now c.turned.result.now =
    rw (c.forward.ensures, c.turned.ensures) c.requires.1 in
    let t : Tables = record {
      network = c.args.net;
      forward = c.forward.result;
      turned = c.turned.result;
      triples = record { ref_ptr = c.forward.result.ref_ptr; now = c.fill_triples.new.triples };
    } in
    rw (c.is_err.ensures.value, err-wiped c.run.result) (answers _ t net c.fill_triples.ensures _ _ _ _ c.run.ensures)
