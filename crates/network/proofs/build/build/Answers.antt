-- `build` fills the tables, links the fields and makes the neighbourhoods.
use mathlib.Core.Path.{refl}
use Rattle.network.specs.Network.{fields-few, links-low, network_of}
use Rattle.network.proofs.build.build.Goals as goal

pub neighbourhoods-hood-requires : goal.neighbourhoods-hood-requires
neighbourhoods-hood-requires c =
    let accepted = c.requires.0 in
    let from = c.triples-from.ensures in (
      fields-few _ accepted _ _ _ c.fill-joined.ensures _ c.fields-n.ensures,
      links-low _ accepted _ _ _ c.fill-joined.ensures _ _ (rw from at c.triples-from.result.counted)
          (rw from at c.link-links.ensures) _ c.fields-n.ensures,
    )

pub returns : goal.returns
returns c =
    let from = c.triples-from.ensures in
    network_of _ c.requires.0 _ _ _ c.fill-joined.ensures _ _ (rw from at c.triples-from.result.counted)
    (rw from at c.link-links.ensures) _ c.fields-n.ensures c.reach-reach.ensures refl refl c.neighbourhoods-hood.ensures
