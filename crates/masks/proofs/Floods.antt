-- The bits of a flood (specs/Floods.antt). Assumes nothing.
use Rattle.std.specs.Prelude.{◌≡◌, refl, Bool, true, false, cond, ℕ, ◌*◌, ◌/◌, ◌^◌, ◌<◌}
use Rattle.std.proofs.Common.{sym, ap, ◌∙◌, ⊎_elim, zero-mul, one-mul, arith, eqb-true}
use Rattle.std.specs.Int.Bits.{bit_and, and_zero_l}
use Rattle.std.proofs.lemmas.Nat.{and_le_r}
use Rattle.std.proofs.lemmas.Bool.{eqb-false}
use Rattle.masks.specs.Tests.{never, bool_cases}
use Rattle.masks.specs.Bits.{bit}
use Rattle.masks.proofs.Bits.{bit_of-zero}
use Rattle.masks.specs.Masks.{digit}
use Rattle.masks.proofs.Words.{bit_not, shr_one, keep_bits-only, keep_bits-one}
use Rattle.masks.specs.Floods.{flood}

-- as code spells it
pub flood-code : (x v : ℕ) → bit_and (x / 2 ^ v) 1 * 4294967295 ≡ flood x v
unfolding flood
flood-code x v = go (bit x v) refl
  where
    go : (t : Bool) → bit x v ≡ t → bit_and (x / 2 ^ v) 1 * 4294967295 ≡ cond t 4294967295 0
    go true e = ap (λ (n : ℕ). n * 4294967295) (eqb-true (bit_and (x / 2 ^ v) 1) 1 (shr_one x v ∙ e))
    go false e =
        let n = eqb-false (bit_and (x / 2 ^ v) 1) 1 (shr_one x v ∙ e) in
        let l = and_le_r (x / 2 ^ v) 1 in
        let z : bit_and (x / 2 ^ v) 1 ≡ 0 = omega arith in
        ap (λ (n : ℕ). n * 4294967295) z

ones : (u : ℕ) → u < 32 → bit 4294967295 u ≡ true
ones u h = bit_not 32 0 u (omega arith) h ∙ rw (bit_of-zero u)

-- it has every position of a word, or none
pub flood-at : (x v u : ℕ) → bit (flood x v) u ≡ true → bit x v ≡ true
unfolding flood
flood-at x v u b = ⊎_elim (λ q. q) (λ q. absurd (never b (rw q (bit_of-zero u)))) (bool_cases (bit x v))

pub flood-by : (x v u : ℕ) → u < 32 → bit x v ≡ true → bit (flood x v) u ≡ true
unfolding flood
flood-by x v u h e = rw e (ones u h)

pub flood-none : (x v : ℕ) → bit x v ≡ false → flood x v ≡ 0
unfolding flood
flood-none x v e = rw e

-- cut to one position
pub flood-one : (x v u : ℕ) → u < 32 → bit_and (flood x v) (2 ^ u) ≡ digit (bit x v) * 2 ^ u
unfolding flood
flood-one x v u h = go (bit x v)
  where
    go : (t : Bool) → bit_and (cond t 4294967295 0) (2 ^ u) ≡ digit t * 2 ^ u
    go true = sym (keep_bits-only 4294967295 u) ∙ keep_bits-one 4294967295 u (ones u h) ∙ sym (one-mul (2 ^ u))
    go false = and_zero_l (2 ^ u) ∙ sym (zero-mul (2 ^ u))
