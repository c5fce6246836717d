-- The slots of the tables: each pair of different fields has one, so there are as many as rules at most. Assumes nothing.
use Rattle.std.specs.Prelude.{◌≡◌}
use Rattle.std.proofs.Math.Path.{refl}
use Rattle.std.proofs.Common.{ap, le_refl}
use Prim.Native.Nat.{ℕ, zero, suc, ◌+◌, ◌-◌, ◌*◌, ◌/◌, ◌≤◌, ◌<◌}
use Rattle.std.proofs.Math.Nat.{mul-suc, suc-mul}
use Rattle.std.proofs.Math.Decide.{le_ind}
use native.Mathlib.Omega.{arith}
use Rattle.limits.specs.Limits.{most_fields, most_rules}

-- 0 + 1 + .. + (j - 1): the slots of the pairs whose higher field is below j
unfoldable pub triangle : ℕ → ℕ
triangle zero = 0
triangle (suc j) = triangle j + j

-- the slot of the fields i below j
unfoldable pub slot : ℕ → ℕ → ℕ
slot i j = triangle j + i

triangle_mono : (i j : ℕ) → i ≤ j → triangle i ≤ triangle j
unfolding triangle
triangle_mono i j h = le_ind (λ (k : ℕ). triangle i ≤ triangle k) (le_refl (triangle i)) (λ k l e. omega (arith, e)) j h

-- a slot is among those of its higher field
slot_next : (i j : ℕ) → i < j → slot i j < triangle (suc j)
unfolding slot triangle
slot_next i j h = omega arith

whole : triangle most_fields ≡ most_rules
unfolding triangle
whole = refl

pub slot_bound : (i j : ℕ) → i < j → j < most_fields → slot i j < most_rules
slot_bound i j h l = let m = triangle_mono (suc j) most_fields l in let n = slot_next i j h in let z = whole in omega arith

-- different pairs have different slots
pub slot_unique : (i j a b : ℕ) → i < j → a < b → slot i j ≡ slot a b → (i ≡ a) × (j ≡ b)
unfolding slot
slot_unique i j a b h k e =
    let q : j ≡ b = same in
    (omega (arith, ap triangle q), q)
  where
    apart : (i j a b : ℕ) → i < j → j < b → triangle j + i < triangle b + a
    apart i j a b h l = let m = triangle_mono (suc j) b l in let n = slot_next i j h in omega arith

    same : j ≡ b
    same =
        let p : ¬ (j < b) = λ l. let x = apart i j a b h l in omega arith in
        let q : ¬ (b < j) = λ l. let x = apart a b i j k l in omega arith in
        omega arith

-- as code computes it: the product is small, and half of it is the triangle
pub slot-code : (i j : ℕ) → i < j → j < most_fields → (j * (j - 1) ≤ 2 * most_rules) × (j * (j - 1) / 2 + i ≡ slot i j)
unfolding slot
slot-code i zero h l = absurd (omega arith)
slot-code i (suc j) h l =
    let e : suc j - 1 ≡ j = omega arith in
    let t = twice j in
    let b = slot_bound i (suc j) h l in
    let m = triangle_mono (suc j) most_fields (omega arith) in
    let z = whole in
    rw e (omega arith, omega arith)
  where
    twice : (j : ℕ) → triangle (suc j) * 2 ≡ suc j * j
    twice zero = unfold triangle in refl
    twice (suc j) =
        let ih = twice j in
        let s : triangle (suc (suc j)) ≡ triangle (suc j) + suc j = unfold triangle in refl in
        let a : suc (suc j) * suc j ≡ suc j * suc j + suc j = suc-mul (suc j) (suc j) in
        let b : suc j * suc j ≡ suc j * j + suc j = mul-suc (suc j) j in
        omega arith
