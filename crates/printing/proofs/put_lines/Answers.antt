use mathlib.Core.Path.{sym}
use Prim.Native.Nat.{◌<◌}
use native.Mathlib.Omega.{arith}
use borrow.Author.Rules.{rules}
use Rattle.limits.specs.Limits.{most_fields}
use Rattle.accepted.specs.Facts.{facts}
use Rattle.printing.specs.Puts.{puts_none, puts_then, puts_size, puts_as}
use Rattle.printing.specs.Lengths.{lines_none, lines_next, lines-length}
use Rattle.printing.proofs.put_lines.Goals as goal

pub loop-f-init : goal.loop-f-init
loop-f-init c = puts_as (sym (lines_none _ _)) (puts_none _ _)

pub bounds-offers-f : goal.bounds-offers-f
bounds-offers-f c = omega (arith, (facts _ c.args.sheet.accepted).fields-few, c.fields-f-end.ensures, c.loop-f-test.true)

pub offset_bounds-offers-f : goal.offset_bounds-offers-f
offset_bounds-offers-f c =
    let k : c.loop-f.f < most_fields = omega (
      arith,
      (facts _ c.args.sheet.accepted).fields-few,
      c.fields-f-end.ensures,
      c.loop-f-test.true,
    ) in
    search rules

pub put_line-next-requires : goal.put_line-next-requires
put_line-next-requires c =
    let l = c.loop-f in
    let n = c.fields-f-end.ensures in
    let t = c.loop-f-test in
    let few = (facts _ c.args.sheet.accepted).fields-few in
    let m = lines-length _ c.args.offers.now c.args.sheet.accepted l.f (omega (arith, n, t)) in
    let g = l.invariant in
    omega (arith, m, n, t, few, g.ends, puts_size g, c.requires)

pub loop-f-preserved : goal.loop-f-preserved
loop-f-preserved c =
    let r = c.field.ensures in
    puts_as (sym (lines_next _ c.args.offers.now c.loop-f.f))
    (puts_then c.loop-f.invariant (rw (r.0, r.1) at c.put_line-next.ensures))
