-- The decimal numeral of a number is decimal: its digits, its value, its first digit, its length. Assumes nothing.
use Rattle.std.specs.Prelude.{◌≡◌, refl, Bool, true, false, List, [], ◌∷◌, ◌++◌, ltb, length, get_or}
use Rattle.std.specs.Prelude.{ℕ, zero, suc, ◌+◌, ◌-◌, ◌*◌, ◌/◌, ◌%◌, ◌^◌, ◌≤◌, ◌<◌}
use Rattle.std.proofs.Common.{sym, ap, ◌∙◌, pow-suc, length-append, lt-ltb, le-ltb, ltb-true, ltb-false}
use native.Mathlib.Omega.{arith}
use Rattle.masks.specs.Pick.{pick_true, pick-false}
use Rattle.printing.specs.Text.{digits, decimal}
use Rattle.printing.specs.Rooms.{most_digits}

-- ---- digit by digit

digits-one : (left x : ℕ) → x < 10 → digits (suc left) x ≡ (48 + x) ∷ []
unfolding digits
digits-one left x h = pick_true _ _ _ (lt-ltb x 10 h)

digits_more : (left x : ℕ) → 10 ≤ x → digits (suc left) x ≡ digits left (x / 10) ++ (48 + x % 10) ∷ []
unfolding digits
digits_more left x h = pick-false _ _ _ (le-ltb x 10 h)

-- a number has one digit or more
one-or-more : {P : Type 0} (x : ℕ) → (x < 10 → P) → (10 ≤ x → P) → P
one-or-more {P} x one more = go (ltb x 10) refl
  where
    go : (t : Bool) → ltb x 10 ≡ t → P
    go true e = one (ltb-true x 10 e)
    go false e = more (ltb-false x 10 e)

-- digits enough are enough
digits-enough : (a b x : ℕ) → x < a → x < b → digits a x ≡ digits b x
digits-enough zero b x h k = absurd (omega arith)
digits-enough (suc a) zero x h k = absurd (omega arith)
digits-enough (suc a) (suc b) x h k =
    one-or-more x
    (λ l. digits-one a x l ∙ sym (digits-one b x l))
    (λ l. digits_more a x l
    ∙ ap (λ (d : List ℕ). d ++ (48 + x % 10) ∷ []) (digits-enough a b (x / 10) (omega arith) (omega arith))
    ∙ sym (digits_more b x l))

pub decimal-one : (x : ℕ) → x < 10 → decimal x ≡ (48 + x) ∷ []
unfolding decimal
decimal-one x h = digits-one x x h

pub decimal-more : (x : ℕ) → 10 ≤ x → decimal x ≡ decimal (x / 10) ++ (48 + x % 10) ∷ []
unfolding decimal
decimal-more x h =
    digits_more x x h ∙ ap (λ (d : List ℕ). d ++ (48 + x % 10) ∷ []) (digits-enough x (suc (x / 10)) (x / 10) (omega arith) (omega arith))

-- a property of every number, from one digit and from the tens
by_digits : (P : ℕ → Type 0) → ((x : ℕ) → x < 10 → P x) → ((x : ℕ) → 10 ≤ x → P (x / 10) → P x) → (x : ℕ) → P x
by_digits P one more x = go (suc x) x (omega arith)
  where
    go : (left x : ℕ) → x < left → P x
    go zero x h = absurd (omega arith)
    go (suc left) x h = one-or-more x (one x) (λ l. more x l (go left (x / 10) (omega arith)))

-- ---- the digits

-- each byte is one of 0 to 9
pub data Digits : List ℕ → Type 0 where
  no_digits : Digits []
  one-digit : {b : ℕ} {l : List ℕ} → 48 ≤ b → b ≤ 57 → Digits l → Digits (b ∷ l)

digits-then : {a b : List ℕ} → Digits a → Digits b → Digits (a ++ b)
digits-then no_digits k = k
digits-then (one-digit l u h) k = one-digit l u (digits-then h k)

pub decimal-digits : (x : ℕ) → Digits (decimal x)
decimal-digits =
    by_digits (λ x. Digits (decimal x))
    (λ x h. rw (decimal-one x h) (one-digit {b = 48 + x} (omega arith) (omega arith) no_digits))
    (λ x h k. rw (decimal-more x h) (digits-then k (one-digit {b = 48 + x % 10} (omega arith) (omega arith) no_digits)))

-- ---- the value

-- the number that digits stand for, after those that stand for v
unfoldable pub value_after : ℕ → List ℕ → ℕ
value_after v [] = v
value_after v (b ∷ l) = value_after (v * 10 + (b - 48)) l

value-last : (v : ℕ) (l : List ℕ) (b : ℕ) → value_after v (l ++ b ∷ []) ≡ value_after v l * 10 + (b - 48)
unfolding value_after
value-last v [] b = refl
value-last v (a ∷ l) b = value-last (v * 10 + (a - 48)) l b

pub decimal-value : (x : ℕ) → value_after 0 (decimal x) ≡ x
decimal-value =
    by_digits (λ x. value_after 0 (decimal x) ≡ x)
    (λ x h. rw (decimal-one x h) (one x))
    (λ x h k. rw (decimal-more x h) (value-last 0 (decimal (x / 10)) (48 + x % 10) ∙ omega (arith, k)))
  where
    one : (x : ℕ) → value_after 0 ((48 + x) ∷ []) ≡ x
    one x = unfold value_after in omega arith

-- ---- no digit too many

pub decimal-some : (x : ℕ) → 0 < length (decimal x)
decimal-some =
    by_digits (λ x. 0 < length (decimal x))
    (λ x h. rw (decimal-one x h) (omega arith))
    (λ x h k. rw (decimal-more x h) (omega (arith, length-append (decimal (x / 10)) ((48 + x % 10) ∷ []))))

first_of : (a b : List ℕ) → 0 < length a → get_or (a ++ b) 0 0 ≡ get_or a 0 0
first_of [] b h = absurd (omega arith)
first_of (x ∷ a) b h = refl

-- the first digit is not 0, but of the number 0
pub decimal-first : (x : ℕ) → 0 < x → 48 < get_or (decimal x) 0 0
decimal-first =
    by_digits (λ x. 0 < x → 48 < get_or (decimal x) 0 0)
    (λ x h p. rw (decimal-one x h) (omega arith))
    (λ x h k p. rw (decimal-more x h, first_of (decimal (x / 10)) ((48 + x % 10) ∷ []) (decimal-some (x / 10))) (k (omega arith)))

pub decimal-length : (k x : ℕ) → x < 10 ^ suc k → length (decimal x) ≤ suc k
decimal-length zero x h = rw (decimal-one x (omega arith)) (omega arith)
decimal-length (suc k) x h =
    one-or-more x
    (λ l. rw (decimal-one x l) (omega arith))
    (λ l.
    let r = decimal-length k (x / 10) (let q = rw pow-suc at h in omega arith) in
    rw (decimal-more x l) (omega (arith, length-append (decimal (x / 10)) ((48 + x % 10) ∷ []))))

-- a word of 32 bits
pub decimal-word : (x : ℕ) → x < 2 ^ 32 → length (decimal x) ≤ most_digits
decimal-word x h = decimal-length 9 x (omega arith)
