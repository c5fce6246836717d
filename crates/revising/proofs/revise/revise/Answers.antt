-- `revise` finds what the three fields of a triple rule lose.
use Rattle.revising.specs.Table.{free-small}
use Rattle.revising.specs.Revise.{first-at, second_at, third_at, rows_at, revision_of}
use Rattle.revising.proofs.revise.revise.Goals as goal

pub field-i-requires : goal.field-i-requires
field-i-requires c = let p = c.requires in first-at _ _ p.0 _ p.2 p.1

pub field-j-requires : goal.field-j-requires
field-j-requires c = let p = c.requires in second_at _ _ p.0 _ p.2 p.1

pub field-k-requires : goal.field-k-requires
field-k-requires c = let p = c.requires in third_at _ _ p.0 _ p.2 p.1

pub support-kept-requires : goal.support-kept-requires
support-kept-requires c =
    let p = c.requires in (
      rw c.free-lower.ensures (free-small _ _ _ _ _ p.0 c.field-i.ensures.1),
      rw c.free-middle.ensures (free-small _ _ _ _ _ p.0 c.field-j.ensures.1),
      rows_at _ _ p.0 _ p.2 p.1,
    )

pub returns : goal.returns
returns c =
    let p = c.requires in
    revision_of _ _ p.0 _ p.2 p.1 _ _ c.args.none.now _ _ _ _ _ _ _ _ _ _ _ _ c.told-none
    c.field-i.ensures.0 c.field-j.ensures.0 c.field-k.ensures.0
    c.free-lower.ensures c.free-middle.ensures c.free-upper.ensures c.support-kept.ensures
    c.one_bit.ensures c.one_bit-2.ensures c.one_bit-3.ensures
