-- What the operations on words do to bits (specs/Words.antt). Assumes nothing.
use Rattle.std.specs.Prelude.{◌≡◌, refl, ◌≢◌, ◌⊎◌, Bool, true, false, not, ◌&&◌, ◌||◌, eqb, ltb}
use Rattle.std.proofs.Common.{sym, ◌∙◌, inl, inr, ⊎_elim, mod-lt, mod-eq_of_lt, le_of_suc-le-suc, pow-suc, zero-lt-suc, one-mul}
use Rattle.std.proofs.Common.{eq-zero-or-pos, mul-div_cancel, arith, eqb-true, eq-eqb, ne_eqb, ltb-true, ltb-false}
use Rattle.std.proofs.Math.Path.{ap}
use Rattle.std.proofs.Math.Bool.{xor, and-true, and-false}
use Prim.Native.Nat.{ℕ, zero, suc, ◌+◌, ◌-◌, ◌*◌, ◌/◌, ◌%◌, ◌^◌, ◌<◌, min, max}
use Rattle.std.proofs.Math.Nat.{zero-min, zero-max, mul-mod_left}
use Rattle.std.proofs.lemmas.Bool.{eqb-false}
use Rattle.std.proofs.Math.Dec.{eqb-zero-suc, eqb-suc-zero, eqb-suc-suc}
use Rattle.std.specs.Int.Bits.{bit_and, bit_or, bit_xor, differ, and_step, or_step, xor_step}
use Rattle.std.proofs.lemmas.Nat.{and_mask}
use Rattle.std.specs.Int.Count.{count_trailing_zeros, under}
use Rattle.std.proofs.Math.Pow.{pow-lt}
use Rattle.masks.specs.Tests.{never, bool_cases, and_l}
use Rattle.masks.specs.Bits.{bit, bit-zero, bit-suc, Within}
use Rattle.masks.proofs.Bits.{bit_of-zero, bit-cons-zero, bit-cons-suc, bit_ext, bit_high, within-le}
use Rattle.masks.specs.Masks.{keep_bits}
use Rattle.masks.proofs.Masks.{bit-keep_bits}
use Rattle.masks.specs.Words.{clear, Lowest}

-- ---- and, or, xor: an operation on digits and one on Bools that agree on single digits agree on every bit

Agree : (ℕ → ℕ → ℕ) → (Bool → Bool → Bool) → Type 0
Agree d t = (x y : ℕ) → x < 2 → y < 2 → (d x y < 2) × (eqb (d x y) 1 ≡ t (eqb x 1) (eqb y 1))

min-agrees : Agree min ◌&&◌
unfolding Agree
min-agrees zero y h k = rw (zero-min y) (omega arith, refl)
min-agrees (suc zero) zero h k = (omega arith, refl)
min-agrees (suc zero) (suc zero) h k = (omega arith, refl)
min-agrees (suc zero) (suc (suc y)) h k = absurd (omega arith)
min-agrees (suc (suc x)) y h k = absurd (omega arith)

max-agrees : Agree max ◌||◌
unfolding Agree
max-agrees zero y h k = rw (zero-max y) (omega arith, refl)
max-agrees (suc zero) zero h k = (omega arith, refl)
max-agrees (suc zero) (suc zero) h k = (omega arith, refl)
max-agrees (suc zero) (suc (suc y)) h k = absurd (omega arith)
max-agrees (suc (suc x)) y h k = absurd (omega arith)

differ-agrees : Agree differ xor
unfolding Agree xor
differ-agrees zero zero h k = (omega arith, refl)
differ-agrees zero (suc zero) h k = (omega arith, refl)
differ-agrees zero (suc (suc y)) h k = absurd (omega arith)
differ-agrees (suc zero) zero h k = (omega arith, refl)
differ-agrees (suc zero) (suc zero) h k = (omega arith, refl)
differ-agrees (suc zero) (suc (suc y)) h k = absurd (omega arith)
differ-agrees (suc (suc x)) y h k = absurd (omega arith)

module _ (op d : ℕ → ℕ → ℕ) (t : Bool → Bool → Bool)
    (step : (a b : ℕ) → op a b ≡ op (a / 2) (b / 2) * 2 + d (a % 2) (b % 2)) (agree : Agree d t) where
  bit_op : (a b v : ℕ) → bit (op a b) v ≡ t (bit a v) (bit b v)
  unfolding Agree
  bit_op a b zero =
      let g = agree (a % 2) (b % 2) (mod-lt a (zero-lt-suc 1)) (mod-lt b (zero-lt-suc 1)) in
      rw (step a b, bit-cons-zero _ (d (a % 2) (b % 2)) g.0, bit-zero a, bit-zero b) g.1
  bit_op a b (suc v) =
      let g = agree (a % 2) (b % 2) (mod-lt a (zero-lt-suc 1)) (mod-lt b (zero-lt-suc 1)) in
      rw (step a b, bit-cons-suc _ (d (a % 2) (b % 2)) v g.0, bit-suc a v, bit-suc b v) (bit_op (a / 2) (b / 2) v)

pub bit-and : (a b v : ℕ) → bit (bit_and a b) v ≡ (bit a v && bit b v)
bit-and = bit_op bit_and min ◌&&◌ and_step min-agrees

pub bit-or : (a b v : ℕ) → bit (bit_or a b) v ≡ (bit a v || bit b v)
bit-or = bit_op bit_or max ◌||◌ or_step max-agrees

pub bit-xor : (a b v : ℕ) → bit (bit_xor a b) v ≡ xor (bit a v) (bit b v)
bit-xor = bit_op bit_xor differ xor xor_step differ-agrees

-- ---- a single bit

pub bit-one : (v u : ℕ) → bit (2 ^ v) u ≡ eqb u v
bit-one zero zero = bit-zero 1
bit-one zero (suc u) = bit-suc 1 u ∙ bit_of-zero u ∙ sym (eqb-suc-zero u)
bit-one (suc v) zero = bit-zero (2 ^ suc v) ∙ rw (pow-suc, mul-mod_left) (sym (eqb-zero-suc v))
bit-one (suc v) (suc u) = bit-suc (2 ^ suc v) u ∙ rw (pow-suc, mul-div_cancel (2 ^ v) (zero-lt-suc 1), eqb-suc-suc) (bit-one v u)

-- `x & (1 << v)`: at most position v of x
pub keep_bits-only : (x v : ℕ) → keep_bits x (λ u. eqb u v) ≡ bit_and x (2 ^ v)
keep_bits-only x v =
    bit_ext _ _ (λ u. bit-keep_bits x (λ u. eqb u v) u ∙ sym (bit-and x (2 ^ v) u ∙ ap (λ (t : Bool). bit x u && t) (bit-one v u)))

-- which is `1 << v` where v is a position of x
pub keep_bits-one : (x v : ℕ) → bit x v ≡ true → keep_bits x (λ u. eqb u v) ≡ 2 ^ v
keep_bits-one x v e = bit_ext _ _ (λ u. bit-keep_bits x (λ u. eqb u v) u ∙ go u (eqb u v) refl ∙ sym (bit-one v u))
  where
    go : (u : ℕ) (t : Bool) → eqb u v ≡ t → (bit x u && t) ≡ t
    go u true q = rw (eqb-true u v q, e)
    go u false q = and-false (bit x u)

-- ---- the complement in a width, and clearing a bit

low-cases : (n : ℕ) → (n % 2 ≡ 0) ⊎ (n % 2 ≡ 1)
low-cases n = ⊎_elim (λ q. inl q) (λ q. inr (omega arith)) (eq-zero-or-pos (n % 2))

-- `!a` in a word of k bits
pub bit_not : (k a v : ℕ) → a < 2 ^ k → v < k → bit (2 ^ k - 1 - a) v ≡ not (bit a v)
bit_not zero a v h l = absurd (omega arith)
bit_not (suc k) a zero h l = bit-zero (2 ^ suc k - 1 - a) ∙ ⊎_elim (flip 0 1 refl) (flip 1 0 refl) (low-cases a) ∙ sym (ap not (bit-zero a))
  where
    low : (2 ^ suc k - 1 - a) % 2 ≡ 1 - a % 2
    low = let z : a < 2 ^ k * 2 = rw pow-suc at h in rw pow-suc (omega arith)

    flip : (x y : ℕ) → eqb (1 - x) 1 ≡ not (eqb x 1) → a % 2 ≡ x → eqb ((2 ^ suc k - 1 - a) % 2) 1 ≡ not (eqb (a % 2) 1)
    flip x y q e = rw (low, e) q
bit_not (suc k) a (suc v) h l =
    bit-suc (2 ^ suc k - 1 - a) v ∙ ap (λ (n : ℕ). bit n v) half
    ∙ bit_not k (a / 2) v (let z : a < 2 ^ k * 2 = rw pow-suc at h in omega arith) (le_of_suc-le-suc l) ∙ sym (ap not (bit-suc a v))
  where
    half : (2 ^ suc k - 1 - a) / 2 ≡ 2 ^ k - 1 - a / 2
    half = let z : a < 2 ^ k * 2 = rw pow-suc at h in rw pow-suc (omega arith)

-- `a & !b` in a word of k bits
pub bit-and-not : (k a b v : ℕ) → a < 2 ^ k → b < 2 ^ k → bit (bit_and a (2 ^ k - 1 - b)) v ≡ (bit a v && not (bit b v))
bit-and-not k a b v h l = bit-and a (2 ^ k - 1 - b) v ∙ go (ltb v k) refl
  where
    go : (t : Bool) → ltb v k ≡ t → (bit a v && bit (2 ^ k - 1 - b) v) ≡ (bit a v && not (bit b v))
    go true q = ap (λ (t : Bool). bit a v && t) (bit_not k b v l (ltb-true v k q))
    go false q = rw (bit_high k a v h (ltb-false v k q))

pub bit-clear : (x v u : ℕ) → bit (clear x v) u ≡ (bit x u && not (eqb u v))
unfolding clear
bit-clear x v u = bit-keep_bits x (λ u. not (eqb u v)) u

pub clear_within : (x v : ℕ) → Within (clear x v) x
clear_within x v u e = and_l _ (not (eqb u v)) (sym (bit-clear x v u) ∙ e)

pub clear-same : (x v : ℕ) → bit (clear x v) v ≡ false
clear-same x v = bit-clear x v v ∙ rw (eq-eqb v v refl) (and-false (bit x v))

pub clear-other : (x v u : ℕ) → (u ≡ v → ⊥) → bit (clear x v) u ≡ bit x u
clear-other x v u d = bit-clear x v u ∙ rw (ne_eqb u v d) (and-true (bit x u))

-- a position that went was v
pub clear-gone : (x v u : ℕ) → bit x u ≡ true → bit (clear x v) u ≡ false → u ≡ v
clear-gone x v u e g = ⊎_elim (λ q. eqb-true u v q) (λ q. absurd (never (clear-other x v u (eqb-false u v q) ∙ e) g)) (bool_cases (eqb u v))

pub clear-lt : (x v : ℕ) → bit x v ≡ true → clear x v < x
clear-lt x v e =
    let l = within-le (clear x v) x (clear_within x v) in
    let d : clear x v ≢ x = λ q. never e (ap (λ (y : ℕ). bit y v) (sym q) ∙ clear-same x v) in
    omega arith

-- `x & !(1 << v)` in a word of k bits
pub clear-word : (k x v : ℕ) → x < 2 ^ k → v < k → clear x v ≡ bit_and x (2 ^ k - 1 - 2 ^ v)
clear-word k x v h l =
    bit_ext _ _ (λ u. bit-clear x v u ∙ sym (bit-and-not k x (2 ^ v) u h (pow-lt l) ∙ ap (λ (t : Bool). bit x u && not t) (bit-one v u)))

-- ---- as code spells them

-- `1 << v` in a word of k bits
pub one_shl : (k v : ℕ) → v < k → 1 * 2 ^ v % 2 ^ k ≡ 2 ^ v
one_shl k v h = ap (λ (n : ℕ). n % 2 ^ k) (one-mul (2 ^ v)) ∙ mod-eq_of_lt (pow-lt h)

-- `(x >> v) & 1 == 1`
pub shr_one : (x v : ℕ) → eqb (bit_and (x / 2 ^ v) 1) 1 ≡ bit x v
unfolding bit
shr_one x v = ap (λ (n : ℕ). eqb n 1) (and_mask (x / 2 ^ v) 1)

-- ---- the lowest bit

pub lowest_unique : {x r s : ℕ} → Lowest x r → Lowest x s → r ≡ s
lowest_unique {x} {r} {s} a b =
    let p : ¬ (s < r) = λ l. never b.set (a.none s l) in
    let q : ¬ (r < s) = λ l. never a.set (b.none r l) in
    omega arith

-- `trailing_zeros` of a word of k bits finds it
pub trailing_lowest : (k x : ℕ) → x < 2 ^ k → (x ≡ 0 → ⊥) → Lowest x (count_trailing_zeros k x)
trailing_lowest zero x h f = absurd (f (omega arith))
trailing_lowest (suc k) x h f =
    ⊎_elim (λ e. rw (even e)
    (after e (trailing_lowest k (x / 2) (let z : x < 2 ^ k * 2 = rw pow-suc at h in omega arith) (λ z. f (omega arith)))))
    (λ e. rw (odd e) (record { set = low e; none = λ w l. absurd (omega arith) }))
    (low-cases x)
  where
    odd : x % 2 ≡ 1 → count_trailing_zeros (suc k) x ≡ 0
    odd e = unfold count_trailing_zeros in ap (λ (d : ℕ). under d (count_trailing_zeros k (x / 2))) e

    even : x % 2 ≡ 0 → count_trailing_zeros (suc k) x ≡ suc (count_trailing_zeros k (x / 2))
    even e = unfold count_trailing_zeros in ap (λ (d : ℕ). under d (count_trailing_zeros k (x / 2))) e

    low : {c : ℕ} → x % 2 ≡ c → bit x 0 ≡ eqb c 1
    low e = bit-zero x ∙ ap (λ (n : ℕ). eqb n 1) e

    below : {r : ℕ} → x % 2 ≡ 0 → Lowest (x / 2) r → (w : ℕ) → w < suc r → bit x w ≡ false
    below e g zero l = low e
    below e g (suc w) l = bit-suc x w ∙ g.none w (le_of_suc-le-suc l)

    after : {r : ℕ} → x % 2 ≡ 0 → Lowest (x / 2) r → Lowest x (suc r)
    after {r} e g = record { set = bit-suc x r ∙ g.set; none = below e g }
