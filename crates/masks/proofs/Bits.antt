-- Laws of the bits of a number, over any width (specs/Bits.antt). Assumes nothing.
use Rattle.std.specs.Prelude.{◌≡◌, refl, Bool, true, false, ℕ, zero, suc, ◌+◌, ◌*◌, ◌/◌, ◌%◌, ◌^◌, ◌≤◌, ◌<◌, eqb, ltb}
use Rattle.std.proofs.Common.{sym, ap, ◌∙◌, ⊎_elim, le_refl, le_antisymm, pow-suc, arith, eqb-true, ltb-true, ltb-false}
use Rattle.std.proofs.Math.Arith.{half_le, digits_div, digits_mod, lt-one}
use Rattle.std.proofs.lemmas.Bool.{eqb-false}
use Rattle.masks.specs.Tests.{never, bool_cases}
use Rattle.masks.specs.Bits.{bit, bit-zero, bit-suc, Within}

-- ---- digit by digit

pub bit_of-zero : (v : ℕ) → bit 0 v ≡ false
bit_of-zero zero = bit-zero 0
bit_of-zero (suc v) = bit-suc 0 v ∙ bit_of-zero v

-- a number given by its lowest digit c and the rest
pub bit-cons-zero : (a c : ℕ) → c < 2 → bit (a * 2 + c) 0 ≡ eqb c 1
bit-cons-zero a c h = bit-zero (a * 2 + c) ∙ ap (λ (y : ℕ). eqb y 1) (digits_mod a h)

pub bit-cons-suc : (a c v : ℕ) → c < 2 → bit (a * 2 + c) (suc v) ≡ bit a v
bit-cons-suc a c v h = bit-suc (a * 2 + c) v ∙ ap (λ (y : ℕ). bit y v) (digits_div a h)

-- ---- the bits of a are among those of b

pub within-half : (a b : ℕ) → Within a b → Within (a / 2) (b / 2)
within-half a b h v e = sym (bit-suc b v) ∙ h (suc v) (bit-suc a v ∙ e)

pub within_low : (a b : ℕ) → Within a b → a % 2 ≤ b % 2
within_low a b h = go (eqb (a % 2) 1) refl
  where
    go : (t : Bool) → eqb (a % 2) 1 ≡ t → a % 2 ≤ b % 2
    go true e = omega (arith, eqb-true (a % 2) 1 e, eqb-true (b % 2) 1 (sym (bit-zero b) ∙ h 0 (bit-zero a ∙ e)))
    go false e = let g = eqb-false (a % 2) 1 e in omega arith

-- then a is no greater
pub within-le : (a b : ℕ) → Within a b → a ≤ b
within-le a b h = go a a b (le_refl a) h
  where
    go : (n a b : ℕ) → a ≤ n → Within a b → a ≤ b
    go zero a b k h = omega arith
    go (suc n) a b k h =
        let rest = go n (a / 2) (b / 2) (half_le k) (within-half a b h) in
        let low = within_low a b h in
        omega arith

-- ---- extensionality, bounds, some bit

-- a number is given by its bits
pub bit_ext : (a b : ℕ) → ((v : ℕ) → bit a v ≡ bit b v) → a ≡ b
bit_ext a b h = le_antisymm (within-le a b (λ v e. sym (h v) ∙ e)) (within-le b a (λ v e. h v ∙ e))

-- a number below 2 ^ k has no bit from k on
pub bit_high : (k a v : ℕ) → a < 2 ^ k → k ≤ v → bit a v ≡ false
bit_high zero a v h l = ap (λ (x : ℕ). bit x v) (lt-one h) ∙ bit_of-zero v
bit_high (suc k) a zero h l = absurd (omega arith)
bit_high (suc k) a (suc v) h l = bit-suc a v ∙ bit_high k (a / 2) v (omega arith) (omega arith)

pub bit_bound : (k a v : ℕ) → a < 2 ^ k → bit a v ≡ true → v < k
bit_bound k a v h b = ⊎_elim (λ q. ltb-true v k q) (λ q. absurd (never b (bit_high k a v h (ltb-false v k q)))) (bool_cases (ltb v k))

-- so it is given by its bits below k
pub bit_ext_below : (k a b : ℕ) → a < 2 ^ k → b < 2 ^ k → ((v : ℕ) → v < k → bit a v ≡ bit b v) → a ≡ b
bit_ext_below k a b p q h = bit_ext a b (λ v. go v (ltb v k) refl)
  where
    go : (v : ℕ) (t : Bool) → ltb v k ≡ t → bit a v ≡ bit b v
    go v true e = h v (ltb-true v k e)
    go v false e = let l = ltb-false v k e in bit_high k a v p l ∙ sym (bit_high k b v q l)

-- a number with no bit from k on is below 2 ^ k
pub lt_of_bits : (k a : ℕ) → ((v : ℕ) → k ≤ v → bit a v ≡ false) → a < 2 ^ k
lt_of_bits zero a h = let z : a ≡ 0 = bit_ext a 0 (λ v. h v (omega arith) ∙ sym (bit_of-zero v)) in omega arith
lt_of_bits (suc k) a h =
    let r = lt_of_bits k (a / 2) (λ v l. sym (bit-suc a v) ∙ h (suc v) (omega arith)) in
    rw pow-suc (omega arith)

-- a number that is not 0 has a bit
pub bit-some : (a : ℕ) → (a ≡ 0 → ⊥) → (v : ℕ) × (bit a v ≡ true)
bit-some a h = go a a (le_refl a) h
  where
    step : (a : ℕ) → ((a / 2 ≡ 0 → ⊥) → (v : ℕ) × (bit (a / 2) v ≡ true)) → (a ≡ 0 → ⊥) → (t : Bool) → eqb (a % 2) 1 ≡ t
        → (v : ℕ) × (bit a v ≡ true)
    step a rest h true e = (0, bit-zero a ∙ e)
    step a rest h false e =
        let n = eqb-false (a % 2) 1 e in
        let r = rest (λ z. h (omega arith)) in
        (suc r.0, bit-suc a r.0 ∙ r.1)

    go : (n a : ℕ) → a ≤ n → (a ≡ 0 → ⊥) → (v : ℕ) × (bit a v ≡ true)
    go zero a k h = absurd (h (omega arith))
    go (suc n) a k h = step a (go n (a / 2) (half_le k)) h (eqb (a % 2) 1) refl

pub bit_nonzero : (a v : ℕ) → bit a v ≡ true → a ≡ 0 → ⊥
bit_nonzero a v e z = never e (ap (λ (x : ℕ). bit x v) z ∙ bit_of-zero v)
