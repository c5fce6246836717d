-- How many numbers below a bound pass a test. Assumes nothing.
use Rattle.std.specs.Prelude.{◌≡◌, refl, Bool, true, false, ℕ, zero, suc, ◌+◌, ◌≤◌, ◌<◌}
use Rattle.std.proofs.Common.{ap, ap₂, ⊎_elim, zero-le, le_refl, eq-or-lt_of_le, le_of_suc-le-suc, arith}
use Rattle.limits.specs.Limits.{most_settings}
use Rattle.masks.specs.Tests.{bool_cases}
use Rattle.masks.specs.Masks.{digit}

unfoldable pub count_below : ℕ → (ℕ → Bool) → ℕ
count_below zero p = 0
count_below (suc n) p = count_below n p + digit (p n)

-- of the positions of a field
abbrev pub how_many : (ℕ → Bool) → ℕ
how_many p = count_below most_settings p

pub count_below_cong : (n : ℕ) (p q : ℕ → Bool) → ((b : ℕ) → b < n → p b ≡ q b) → count_below n p ≡ count_below n q
unfolding count_below
count_below_cong zero p q h = refl
count_below_cong (suc n) p q h =
    ap₂ ◌+◌ (count_below_cong n p q (λ b l. h b (omega arith))) (ap digit (h n (le_refl (suc n))))

pub count_below-none : (n : ℕ) (p : ℕ → Bool) → ((b : ℕ) → b < n → p b ≡ false) → count_below n p ≡ 0
unfolding count_below
count_below-none zero p h = refl
count_below-none (suc n) p h = rw (count_below-none n p (λ b l. h b (omega arith)), h n (le_refl (suc n)))

pub count_below-most : (n : ℕ) (p : ℕ → Bool) → count_below n p ≤ n
unfolding count_below
count_below-most zero p = zero-le
count_below-most (suc n) p =
    let i = count_below-most n p in ⊎_elim (λ q. rw q (omega arith)) (λ q. rw q (omega arith)) (bool_cases (p n))

-- two tests that differ at b alone, where the second fails
pub count_below-one : (n : ℕ) (p q : ℕ → Bool) (b : ℕ) → b < n → ((c : ℕ) → (c ≡ b → ⊥) → p c ≡ q c) → q b ≡ false
    → count_below n p ≡ count_below n q + digit (p b)
unfolding count_below
count_below-one zero p q b l h e = absurd (omega arith)
count_below-one (suc n) p q b l h e = ⊎_elim
    (λ (z : b ≡ n). let s = count_below_cong n p q (λ c k. h c (λ x. omega arith)) in rw (s, z, rw z at e) (omega arith))
    (λ z. let i = count_below-one n p q b z h e in rw (i, h n (λ x. omega arith)) (omega arith))
    (eq-or-lt_of_le (le_of_suc-le-suc l))

-- some pass
pub count_below-by : (n : ℕ) (p : ℕ → Bool) (b : ℕ) → b < n → p b ≡ true → 0 < count_below n p
unfolding count_below
count_below-by zero p b l e = absurd (omega arith)
count_below-by (suc n) p b l e = ⊎_elim
    (λ (z : b ≡ n). rw (rw z at e) (omega arith)) (λ z. let i = count_below-by n p b z e in omega arith)
    (eq-or-lt_of_le (le_of_suc-le-suc l))

pub count_below-at : (n : ℕ) (p : ℕ → Bool) → 0 < count_below n p → (b : ℕ) × (b < n) × (p b ≡ true)
unfolding count_below
count_below-at zero p h = absurd (omega arith)
count_below-at (suc n) p h = ⊎_elim (λ q. (n, le_refl (suc n), q))
    (λ q. let r = count_below-at n p (let z = ap digit q in omega arith) in (r.0, (let l = r.1 in omega arith), r.2))
    (bool_cases (p n))
