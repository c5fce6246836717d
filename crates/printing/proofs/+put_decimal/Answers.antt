-- A numeral of more digits than one is that of the tens, and then the digit of the ones.
use Rattle.std.specs.Prelude.{◌≡◌, [], ◌∷◌, ℕ, ◌+◌, ◌/◌, ◌%◌, ◌≤◌, length}
use Rattle.std.proofs.Common.{sym, ap, ◌∙◌, arith, length-append}
use Rattle.printing.specs.Text.{decimal}
use Rattle.printing.specs.Puts.{puts_then, puts_size, puts_as}
use Rattle.printing.specs.Decimal.{decimal-one, decimal-more, decimal-some}
use Rattle.printing.proofs.+put_decimal.Goals as goal

-- the numeral is one digit longer than that of the tens
longer : (x : ℕ) → 10 ≤ x → length (decimal x) ≡ length (decimal (x / 10)) + 1
longer x h = ap length (decimal-more x h) ∙ length-append (decimal (x / 10)) ((48 + x % 10) ∷ [])

pub put_byte-requires : goal.put_byte-requires
put_byte-requires t c = omega (arith, decimal-some c.args.x)

pub returns-then-x-lt10 : goal.returns-then-x-lt10
returns-then-x-lt10 t c = puts_as (sym (decimal-one c.args.x c.if-x-lt10.true)) c.put_byte.ensures

pub put_decimal-next-requires : goal.put_decimal-next-requires
put_decimal-next-requires t c = (omega arith, omega (arith, longer c.args.x c.if-x-lt10.false))

pub put_byte-requires-2 : goal.put_byte-requires-2
put_byte-requires-2 t c =
    let r = c.put_decimal-next.ensures in
    omega (arith, longer c.args.x c.if-x-lt10.false, r.ends, puts_size r)

pub returns : goal.returns
returns t c =
    puts_as (sym (decimal-more c.args.x c.if-x-lt10.false)) (puts_then c.put_decimal-next.ensures c.put_byte-2.ensures)
