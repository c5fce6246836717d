-- `settle_with` makes the table, and settles.
use mathlib.Core.Path.{sym, ap}
use lib.Seq.{length-take-le}
use Rattle.accepted.specs.declared.outline.Outline.{Outline}
use Rattle.engines.specs.Offering.{zeros-room}
use Rattle.answering.proofs.drafts.settle_with.Goals as goal

pub slice_bounds-fill_triples-end-2 : goal.slice_bounds-fill_triples-end-2
slice_bounds-fill_triples-end-2 g c = sym (length-take-le _ _ c.requires.0.ends)

pub fill_triples-requires : goal.fill_triples-requires
fill_triples-requires g c =
    let p = c.requires in
    let b = p.0.built in
    zeros-room _ _ _ _ b.network b.accepted _ (ap (λ (o : Outline). o.full) b.outline) _ p.1

pub settle-requires : goal.settle-requires
settle-requires g c =
    let p = c.requires.0 in
    record { sheet = _; prepared = record { built = p.built; drafts = c.fill_triples.ensures }; enough = p.enough }

pub returns : goal.returns
returns g c =
    let p = c.requires.0 in
    c.settle.ensures _ (record { built = p.built; drafts = c.fill_triples.ensures })
