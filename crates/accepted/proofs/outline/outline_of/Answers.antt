use native.Mathlib.Omega.{arith}
use borrow.Author.Rules.{rules}
use Rattle.accepted.specs.Outline.{outlining_first, outlining_field, outlining_next, outlining_last}
use Rattle.accepted.proofs.outline.outline_of.Goals as goal

pub loop-f-init : goal.loop-f-init
loop-f-init c = outlining_first _ _ c.requires c.fields-fields.ensures

pub first_positions-requires : goal.first_positions-requires
first_positions-requires c =
    let d = rw (c.field.ensures.0, c.field.ensures.1) at c.count.ensures in
    let m = (outlining_field _ _ _ _ c.loop-f.invariant c.loop-f-test.true).3 in
    omega arith

pub offset_bounds-full-f : goal.offset_bounds-full-f
offset_bounds-full-f c = let m = (outlining_field _ _ _ _ c.loop-f.invariant c.loop-f-test.true).1 in search rules

pub bounds-full-f : goal.bounds-full-f
bounds-full-f c = (outlining_field _ _ _ _ c.loop-f.invariant c.loop-f-test.true).1

pub loop-f-preserved : goal.loop-f-preserved
loop-f-preserved c =
    outlining_next _ _ _ _ c.loop-f.invariant c.loop-f-test.true _ _
    (rw (c.field.ensures.0, c.field.ensures.1) at c.count.ensures) c.first_positions.ensures

pub returns : goal.returns
returns c = outlining_last _ _ _ _ c.loop-f.invariant c.loop-f-test.false
