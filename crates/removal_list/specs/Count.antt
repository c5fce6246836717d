-- The number of settings of a set: one less where a setting is lost, and at most 24 for each field. Assumes nothing.
use Rattle.std.specs.Prelude.{◌≡◌, refl, true, List, [], ◌∷◌, ℕ, zero, suc, ◌+◌, ◌*◌, ◌/◌, ◌%◌, ◌^◌, ◌≤◌, ◌<◌, eqb, length, get_or, set}
use Rattle.std.proofs.Common.{sym, ap, ◌∙◌, ⊎_elim, zero-le, le_refl, pow-suc, arith, eqb-true}
use Rattle.std.proofs.Math.Arith.{half_le, lt-one}
use Rattle.std.proofs.Math.Dec.{eqb-suc-suc}
use Rattle.std.proofs.lemmas.Bool.{eqb-false}
use Rattle.limits.specs.Limits.{most_settings}
use Rattle.masks.specs.Tests.{never, bool_cases}
use Rattle.masks.specs.Bits.{bit, bit-zero, bit-suc}
use Rattle.masks.proofs.Bits.{bit_of-zero, bit_ext}
use Rattle.masks.specs.Masks.{count_in, count_bits}
use Rattle.masks.specs.Words.{clear}
use Rattle.masks.proofs.Words.{bit-clear, clear-same, clear-other}
use Rattle.masks.specs.Sets.{has, count}
use Rattle.masks.specs.Settings.{lose}
use Rattle.masks.proofs.Settings.{lose-set}

-- masks of settings
abbrev pub Small : List ℕ → Type 0
Small S = (f : ℕ) → get_or S f 0 < 2 ^ most_settings

-- ---- the positions of a mask, digit by digit

-- any number of digits that is enough gives the same count
count_in-enough : (n k m : ℕ) → m ≤ n → m ≤ k → count_in n m ≡ count_in k m
unfolding count_in
count_in-enough zero zero m h l = refl
count_in-enough zero (suc k) zero h l = refl
count_in-enough zero (suc k) (suc m) h l = absurd (omega arith)
count_in-enough (suc n) zero zero h l = refl
count_in-enough (suc n) zero (suc m) h l = absurd (omega arith)
count_in-enough (suc n) (suc k) zero h l = refl
count_in-enough (suc n) (suc k) (suc m) h l = ap (λ (c : ℕ). c + suc m % 2) (count_in-enough n k (suc m / 2) (half_le h) (half_le l))

count_bits-zero : count_bits 0 ≡ 0
unfolding count_bits count_in
count_bits-zero = refl

count_bits-step : (m : ℕ) → count_bits m ≡ count_bits (m / 2) + m % 2
unfolding count_bits count_in
count_bits-step zero = refl
count_bits-step (suc m) =
    ap (λ (c : ℕ). c + suc m % 2) (count_in-enough m (suc m / 2) (suc m / 2) (half_le (le_refl (suc m))) (le_refl (suc m / 2)))

-- two masks with the same lowest digit
low_same : (x y : ℕ) → bit x 0 ≡ bit y 0 → x % 2 ≡ y % 2
low_same x y e =
    let q = sym (bit-zero x) ∙ e ∙ bit-zero y in
    ⊎_elim (λ h. eqb-true (x % 2) 1 h ∙ sym (eqb-true (y % 2) 1 (sym q ∙ h)))
    (λ h. let k = eqb-false (x % 2) 1 h in let l = eqb-false (y % 2) 1 (sym q ∙ h) in omega arith)
    (bool_cases (eqb (x % 2) 1))

-- the upper digits of a mask that lost a position
half-clear-zero : (m : ℕ) → clear m 0 / 2 ≡ m / 2
half-clear-zero m = bit_ext _ _ (λ u. sym (bit-suc (clear m 0) u) ∙ clear-other m 0 (suc u) (λ q. omega arith) ∙ bit-suc m u)

half-clear-suc : (m v : ℕ) → clear m (suc v) / 2 ≡ clear (m / 2) v
half-clear-suc m v =
    bit_ext _ _
    (λ u. sym (bit-suc (clear m (suc v)) u) ∙ bit-clear m (suc v) (suc u) ∙ rw (bit-suc m u, eqb-suc-suc) (sym (bit-clear (m / 2) v u)))

-- one position fewer
pub count_bits-clear : (v m : ℕ) → bit m v ≡ true → count_bits (clear m v) + 1 ≡ count_bits m
count_bits-clear zero m e =
    let low = eqb-false (clear m 0 % 2) 1 (sym (bit-zero (clear m 0)) ∙ clear-same m 0) in
    let one = eqb-true (m % 2) 1 (sym (bit-zero m) ∙ e) in
    omega (arith, count_bits-step (clear m 0), count_bits-step m, ap count_bits (half-clear-zero m))
count_bits-clear (suc v) m e =
    let low = low_same (clear m (suc v)) m (clear-other m (suc v) 0 (λ q. omega arith)) in
    let rest = count_bits-clear v (m / 2) (sym (bit-suc m v) ∙ e) in
    omega (arith, count_bits-step (clear m (suc v)), count_bits-step m, ap count_bits (half-clear-suc m v))

-- a mask below 2 ^ k has at most k positions
pub count_bits-most : (k m : ℕ) → m < 2 ^ k → count_bits m ≤ k
count_bits-most zero m h = omega (arith, ap count_bits (lt-one h), count_bits-zero)
count_bits-most (suc k) m h =
    let l : m < 2 ^ k * 2 = rw pow-suc at h in
    omega (arith, count_bits-step m, count_bits-most k (m / 2) (omega arith))

-- ---- the settings of a set

count_set : (S : List ℕ) (f v : ℕ) → has S f v ≡ true → count (set S f (clear (get_or S f 0) v)) + 1 ≡ count S
unfolding count has
count_set [] f v e = absurd (never e (bit_of-zero v))
count_set (m ∷ S) zero v e = omega (arith, count_bits-clear v m e)
count_set (m ∷ S) (suc f) v e = omega (arith, count_set S f v e)

-- one setting fewer
pub count-lose : (S : List ℕ) (f v : ℕ) → has S f v ≡ true → count (lose S f v) + 1 ≡ count S
count-lose S f v e = rw (lose-set S f v) (count_set S f v e)

-- at most 24 settings for each field
pub count_most : (S : List ℕ) → Small S → count S ≤ length S * most_settings
unfolding count
count_most [] s = zero-le
count_most (m ∷ S) s = omega (arith, count_bits-most most_settings m (s 0), count_most S (λ f. s (suc f)))
