use mathlib.Core.Path.{◌≡◌, refl, sym, ◌∙◌}
use mathlib.Core.Bool.{Bool, true, false}
use Prim.Native.Nat.{ℕ, ◌/◌, ◌^◌}
use native.Mathlib.Nat.{div-eq_of_lt, div-lt_iff_lt-mul, lt_of_lt_of_le}
use native.Mathlib.Omega.{arith}
use lib.Dec.{eqb, ltb}
use lib.Pow.{pow_pos, pow_mono}
use borrow.Author.Tests.{lt-ltb, ltb-true, ltb-false, eq-eqb, ne_eqb}
use Rattle.grammar.proofs.grammar.below_power.Goals as goal

-- a quotient by a power of 2 is 0 where the number is below it
div-zero : (x d : ℕ) → eqb (x / 2 ^ d) 0 ≡ ltb x (2 ^ d)
div-zero x d = go (ltb x (2 ^ d)) refl
  where
    go : (t : Bool) → ltb x (2 ^ d) ≡ t → eqb (x / 2 ^ d) 0 ≡ ltb x (2 ^ d)
    go true e = eq-eqb _ 0 (div-eq_of_lt (ltb-true x (2 ^ d) e)) ∙ sym e
    go false e =
        let below = (div-lt_iff_lt-mul {k = 2 ^ d} {x = x} {y = 1} (pow_pos d)).0 in
        ne_eqb (x / 2 ^ d) 0 (λ q. absurd (omega (arith, ltb-false x (2 ^ d) e, below (omega (arith, q)))))
        ∙ sym e

pub returns-then-d-lt32 : goal.returns-then-d-lt32
returns-then-d-lt32 c = let a = c.args in div-zero a.x a.d

-- each 32-bit word is below a larger power
pub returns-else-d-lt32 : goal.returns-else-d-lt32
returns-else-d-lt32 c =
    let a = c.args in
    sym (lt-ltb a.x (2 ^ a.d) (lt_of_lt_of_le c.ranges.x.fits (pow_mono c.if-d-lt32.false)))
