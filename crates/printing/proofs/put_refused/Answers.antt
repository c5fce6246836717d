use mathlib.Core.Path.{sym}
use native.Mathlib.Omega.{arith}
use Rattle.printing.specs.Puts.{puts_then, puts_size, puts_as}
use Rattle.printing.specs.Decimal.{decimal-word}
use Rattle.printing.specs.Lengths.{refused-is}
use Rattle.printing.proofs.put_refused.Goals as goal

pub put_decimal-numeral-requires : goal.put_decimal-numeral-requires
put_decimal-numeral-requires c =
    let r = c.put_bytes-word.ensures in
    omega (arith, c.requires, r.ends, puts_size r, decimal-word c.args.number c.ranges.number.fits)

pub put_byte-requires : goal.put_byte-requires
put_byte-requires c =
    let q = c.put_bytes-word.ensures in
    let r = c.put_decimal-numeral.ensures in
    omega (arith, c.requires, q.ends, puts_size q, r.ends, puts_size r, decimal-word c.args.number c.ranges.number.fits)

pub returns : goal.returns
returns c =
    let q = c.put_bytes-word.ensures in
    let r = c.put_decimal-numeral.ensures in
    puts_as (sym (refused-is _)) (puts_then (puts_then q r) c.put_byte.ensures)
