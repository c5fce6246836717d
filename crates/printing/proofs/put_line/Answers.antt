use mathlib.Core.Path.{sym}
use native.Mathlib.Omega.{arith}
use Rattle.accepted.specs.Facts.{facts}
use Rattle.printing.specs.Puts.{puts_then, puts_size, puts_as}
use Rattle.printing.specs.Lengths.{line-is, position-length, all_offers-length}
use Rattle.printing.proofs.put_line.Goals as goal

pub overflow_cast-field : goal.overflow_cast-field
overflow_cast-field c =
    let g = c.args.field.at.field in
    omega (arith, (facts _ g.accepted).fields-few, g.within)

pub put_decimal-position-requires : goal.put_decimal-position-requires
put_decimal-position-requires c = omega (arith, position-length _ _ c.args.field.at.field, c.requires)

pub put_byte-colon-requires : goal.put_byte-colon-requires
put_byte-colon-requires c =
    let p = c.put_decimal-position.ensures in
    omega (arith, position-length _ _ c.args.field.at.field, c.requires, p.ends, puts_size p)

pub put_offers-settings-requires : goal.put_offers-settings-requires
put_offers-settings-requires c =
    let p = c.put_decimal-position.ensures in
    let q = c.put_byte-colon.ensures in
    omega (arith, position-length _ _ c.args.field.at.field, c.requires, p.ends, puts_size p, q.ends, puts_size q)

pub put_byte-requires : goal.put_byte-requires
put_byte-requires c =
    let p = c.put_decimal-position.ensures in
    let q = c.put_byte-colon.ensures in
    let r = c.put_offers-settings.ensures in
    let l = position-length _ _ c.args.field.at.field in
    let m = all_offers-length _ _ c.args.field.at.field c.args.mask in
    omega (arith, l, m, c.requires, p.ends, puts_size p, q.ends, puts_size q, r.ends, puts_size r)

pub returns : goal.returns
returns c =
    let front = puts_then c.put_decimal-position.ensures c.put_byte-colon.ensures in
    puts_as (sym (line-is _ _ _)) (puts_then (puts_then front c.put_offers-settings.ensures) c.put_byte.ensures)
