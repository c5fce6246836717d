-- The bits of masks made by tests, and of what a mask keeps, finds and counts (specs/Masks.antt). Assumes nothing.
use Rattle.std.specs.Prelude.{◌≡◌, Bool, true, false, ◌&&◌, ℕ, zero, suc, ◌+◌, ◌*◌, ◌/◌, ◌%◌, ◌≤◌, ◌<◌, eqb, ltb}
use Rattle.std.proofs.Common.{sym, ap, ◌∙◌, ⊎_elim, zero-le, le_refl, le_antisymm, zero-lt-suc, eq-zero-or-pos, lt_of_not-le, arith}
use Rattle.std.proofs.Common.{ltb-true, lt-ltb}
use Rattle.std.proofs.lemmas.Bool.{false≢true}
use Rattle.std.proofs.Math.Bool.{and-true}
use Rattle.std.proofs.Math.Arith.{half_le, le-zero}
use Rattle.std.proofs.Math.Dec.{leb-suc-suc, leb-suc-zero, leb-zero}
use Rattle.masks.specs.Tests.{never, and_l, and_r, and-by, or_l, or_r, or_at}
use Rattle.masks.specs.Bits.{bit, bit-zero, bit-suc, Within}
use Rattle.masks.proofs.Bits.{bit_of-zero, bit-cons-zero, bit-cons-suc, bit_ext, within-half, within_low, within-le}
use Rattle.masks.specs.Masks.{digit, digit_lt, mask_of, keep_in, keep_bits, some_in, some_bit, count_in, count_bits}

low_digit : (a : ℕ) (b : Bool) → bit (a * 2 + digit b) 0 ≡ b
low_digit a true = bit-cons-zero a 1 (le_refl 2)
low_digit a false = bit-cons-zero a 0 (omega arith)

-- ---- the mask of the positions below k that pass p

pub bit-mask_of : (k : ℕ) (p : ℕ → Bool) (v : ℕ) → bit (mask_of k p) v ≡ (ltb v k && p v)
unfolding mask_of
bit-mask_of zero p v = rw (bit_of-zero, leb-suc-zero)
bit-mask_of (suc k) p zero = low_digit _ (p 0) ∙ rw (leb-suc-suc, leb-zero)
bit-mask_of (suc k) p (suc v) =
    bit-cons-suc _ (digit (p 0)) v (digit_lt (p 0)) ∙ bit-mask_of k (λ v. p (suc v)) v ∙ rw (leb-suc-suc (suc v) k)

pub mask_of_in : (k : ℕ) (p : ℕ → Bool) (v : ℕ) → v < k → bit (mask_of k p) v ≡ p v
mask_of_in k p v h = bit-mask_of k p v ∙ rw (lt-ltb v k h)

pub mask_of_bound : (k : ℕ) (p : ℕ → Bool) (v : ℕ) → bit (mask_of k p) v ≡ true → v < k
mask_of_bound k p v e = ltb-true v k (and_l _ (p v) (sym (bit-mask_of k p v) ∙ e))

-- ---- the positions of m that pass p. The first number is how many digits are still to be looked at, for which m itself serves.

bit-keep_in : (n m : ℕ) (p : ℕ → Bool) (v : ℕ) → m ≤ n → bit (keep_in n m p) v ≡ (bit m v && p v)
unfolding keep_in
bit-keep_in zero m p v k = rw (le-zero k, bit_of-zero)
bit-keep_in (suc n) zero p v k = rw bit_of-zero
bit-keep_in (suc n) (suc a) p zero k = low_digit _ _ ∙ ap (λ (t : Bool). t && p 0) (sym (bit-zero (suc a)))
bit-keep_in (suc n) (suc a) p (suc v) k =
    bit-cons-suc _ (digit (eqb (suc a % 2) 1 && p 0)) v (digit_lt (eqb (suc a % 2) 1 && p 0))
    ∙ bit-keep_in n (suc a / 2) (λ v. p (suc v)) v (half_le k)
    ∙ ap (λ (t : Bool). t && p (suc v)) (sym (bit-suc (suc a) v))

pub bit-keep_bits : (m : ℕ) (p : ℕ → Bool) (v : ℕ) → bit (keep_bits m p) v ≡ (bit m v && p v)
unfolding keep_bits
bit-keep_bits m p v = bit-keep_in m m p v (le_refl m)

pub keep_bits_all : (m : ℕ) (p : ℕ → Bool) → ((v : ℕ) → p v ≡ true) → keep_bits m p ≡ m
keep_bits_all m p h = bit_ext _ m (λ v. bit-keep_bits m p v ∙ rw (h v, and-true))

-- ---- whether some position of m passes p

some_in-at : (n m : ℕ) (p : ℕ → Bool) → some_in n m p ≡ true → (v : ℕ) × (bit m v ≡ true) × (p v ≡ true)
unfolding some_in
some_in-at zero m p e = absurd (false≢true e)
some_in-at (suc n) zero p e = absurd (false≢true e)
some_in-at (suc n) (suc a) p e =
    ⊎_elim (λ q. (0, bit-zero (suc a) ∙ and_l _ (p 0) q, and_r (eqb (suc a % 2) 1) _ q))
    (λ q. let r = some_in-at n (suc a / 2) (λ v. p (suc v)) q in (suc r.0, bit-suc (suc a) r.0 ∙ r.1, r.2))
    (or_at (eqb (suc a % 2) 1 && p 0) _ e)

some_in-by : (n m : ℕ) (p : ℕ → Bool) (v : ℕ) → m ≤ n → bit m v ≡ true → p v ≡ true → some_in n m p ≡ true
unfolding some_in
some_in-by zero m p v k b e = absurd (never b (rw (le-zero k, bit_of-zero)))
some_in-by (suc n) zero p v k b e = absurd (never b (bit_of-zero v))
some_in-by (suc n) (suc a) p zero k b e = or_l _ _ (and-by _ _ (sym (bit-zero (suc a)) ∙ b) e)
some_in-by (suc n) (suc a) p (suc v) k b e =
    or_r (eqb (suc a % 2) 1 && p 0) _ (some_in-by n (suc a / 2) (λ v. p (suc v)) v (half_le k) (sym (bit-suc (suc a) v) ∙ b) e)

pub some_bit-at : (m : ℕ) (p : ℕ → Bool) → some_bit m p ≡ true → (v : ℕ) × (bit m v ≡ true) × (p v ≡ true)
unfolding some_bit
some_bit-at m p = some_in-at m m p

pub some_bit-by : (m : ℕ) (p : ℕ → Bool) (v : ℕ) → bit m v ≡ true → p v ≡ true → some_bit m p ≡ true
unfolding some_bit
some_bit-by m p v = some_in-by m m p v (le_refl m)

-- ---- the number of positions

-- fewer positions, fewer to count; and as many only where none is missing
count_in_mono : (n m a b : ℕ) → a ≤ n → b ≤ m → Within a b → count_in n a ≤ count_in m b
unfolding count_in
count_in_mono zero m a b h k w = zero-le
count_in_mono (suc n) m zero b h k w = zero-le
count_in_mono (suc n) zero (suc a) b h k w = absurd (omega (arith, within-le (suc a) b w))
count_in_mono (suc n) (suc m) (suc a) zero h k w = absurd (omega (arith, within-le (suc a) 0 w))
count_in_mono (suc n) (suc m) (suc a) (suc b) h k w =
    let r = count_in_mono n m (suc a / 2) (suc b / 2) (half_le h) (half_le k) (within-half (suc a) (suc b) w) in
    let l = within_low (suc a) (suc b) w in
    omega arith

count_in_pos : (m b : ℕ) → b ≤ m → 0 < b → 0 < count_in m b
unfolding count_in
count_in_pos zero b k h = omega arith
count_in_pos (suc m) zero k h = omega arith
count_in_pos (suc m) (suc b) k h =
    ⊎_elim (λ q. omega arith) (λ q. omega (arith, count_in_pos m (suc b / 2) (half_le k) q)) (eq-zero-or-pos (suc b / 2))

count_in-same : (n m a b : ℕ) → a ≤ n → b ≤ m → Within a b → count_in m b ≤ count_in n a → b ≤ a
unfolding count_in
count_in-same n zero a b h k w c = omega arith
count_in-same n (suc m) a zero h k w c = zero-le
count_in-same zero (suc m) a (suc b) h k w c = omega (arith, count_in_pos (suc m) (suc b) k (zero-lt-suc b))
count_in-same (suc n) (suc m) zero (suc b) h k w c = omega (arith, count_in_pos (suc m) (suc b) k (zero-lt-suc b))
count_in-same (suc n) (suc m) (suc a) (suc b) h k w c =
    let l = within_low (suc a) (suc b) w in
    let g = count_in_mono n m (suc a / 2) (suc b / 2) (half_le h) (half_le k) (within-half (suc a) (suc b) w) in
    let r = count_in-same n m (suc a / 2) (suc b / 2) (half_le h) (half_le k) (within-half (suc a) (suc b) w) (omega arith) in
    omega arith

pub count_bits_mono : (a b : ℕ) → Within a b → count_bits a ≤ count_bits b
unfolding count_bits
count_bits_mono a b w = count_in_mono a b a b (le_refl a) (le_refl b) w

pub count_bits-lt : (a b : ℕ) → Within a b → (a ≡ b → ⊥) → count_bits a < count_bits b
unfolding count_bits
count_bits-lt a b w d =
    lt_of_not-le (λ (c : count_in b b ≤ count_in a a).
    d (le_antisymm (within-le a b w) (count_in-same a b a b (le_refl a) (le_refl b) w c)))
