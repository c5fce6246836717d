use mathlib.Core.Path.{sym}
use Rattle.printing.specs.Puts.{puts_front, puts_as}
use Rattle.printing.specs.Lengths.{text-accepted, text-refused, text-length}
use Rattle.printing.proofs.text.Goals as goal

pub put_lines-requires : goal.put_lines-requires
put_lines-requires c = c.requires.1

pub returns-then-number-eq0 : goal.returns-then-number-eq0
returns-then-number-eq0 c =
    let xs = c.args.numbers.now in
    let o = c.args.offers.now in
    let e = text-accepted xs c.args.number o c.if-number-eq0.true in
    let g = puts_front (puts_as (sym e) c.put_lines.ensures) in
    (g.0, g.1, rw g.0 (text-length xs c.args.number o c.requires.0 c.ranges.number.fits))

pub returns : goal.returns
returns c =
    let xs = c.args.numbers.now in
    let o = c.args.offers.now in
    let e = text-refused xs c.args.number o c.if-number-eq0.false in
    let g = puts_front (puts_as (sym e) c.put_refused.ensures) in
    (g.0, g.1, rw g.0 (text-length xs c.args.number o c.requires.0 c.ranges.number.fits))
