use mathlib.Core.Path.{sym, ap, ◌∙◌}
use Prim.Native.Nat.{ℕ}
use native.Mathlib.Omega.{arith}
use lib.ListN.{length}
use Rattle.accepted.specs.Facts.{facts}
use Rattle.printing.specs.Text.{decimal}
use Rattle.printing.specs.Puts.{puts_none, puts_then, puts_size, puts_as}
use Rattle.printing.specs.Lengths.{offer_in, offer-out, setting-word}
use Rattle.printing.proofs.put_offer.Goals as goal

pub has_bit-requires : goal.has_bit-requires
has_bit-requires c =
    let g = c.args.field.at.field in
    omega (arith, (facts _ g.accepted).count-few _ g.within, c.requires.0)

pub put_decimal-requires : goal.put_decimal-requires
put_decimal-requires c =
    let w = setting-word _ _ c.args.field.at.field c.args.v c.requires.0 in
    let r = c.put_byte-next.ensures in
    omega (arith, c.requires.1, w, r.ends, puts_size r, ap (λ (x : ℕ). length (decimal x)) c.setting.ensures)

pub returns-then-has_bit : goal.returns-then-has_bit
returns-then-has_bit c =
    let b = sym c.has_bit.ensures ∙ c.if-has_bit.true in
    puts_as (sym (offer_in _ _ c.args.mask c.args.v b))
    (puts_then c.put_byte-next.ensures (rw c.setting.ensures at c.put_decimal.ensures))

pub returns : goal.returns
returns c =
    let t = sym c.has_bit.ensures ∙ c.if-has_bit.false in
    puts_as (sym (offer-out _ _ c.args.mask c.args.v t)) (puts_none _ _)
