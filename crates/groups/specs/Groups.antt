-- A number in bytes: groups of seven bits, lowest first, the top bit set on every byte but the last; at most four groups and the fewest
-- possible. Assumes nothing.
use Rattle.std.specs.Prelude.{◌≡◌, ◌⊎◌, Bool, true, false, ◌&&◌, List, [], ◌∷◌, ltb, eqb, length, drop, get_or, Result, Ok, Err}
use Rattle.std.proofs.Math.Path.{refl, ap}
use Rattle.std.proofs.Common.{sym, ◌∙◌, inl, inr, ⊎_elim, arith, drop_of_length-le, length-drop, drop-cons}
use Prim.Native.Nat.{ℕ, zero, suc, ◌+◌, ◌-◌, ◌*◌, ◌/◌, ◌%◌, ◌<◌, ◌≤◌}
use Rattle.std.proofs.Math.Numerals.{add-one, sub-one}
use borrow.Author.Tests.{lt-ltb, le-ltb, ltb-true, ltb-false}
use Rattle.masks.specs.Pick.{pick, pick_true, pick-false}
use Rattle.limits.specs.declared.refusals.Refusal.{Refusal}
use Rattle.limits.specs.declared.refusals.Refusal.TheVariants.{EndsInside, IllFormed}
use Rattle.groups.specs.declared.groups.Number.{Number}

-- the number x, and the place after it
abbrev pub found : ℕ → ℕ → Result Number Refusal
found x next = Ok (record { value = x; next = next })

-- the last group b of a number: not 0 where another group stands before it
abbrev pub last_group : Bool → ℕ → ℕ → Result Number Refusal
last_group short x next = pick short (Err IllFormed) (found x next)

-- The number of which groups of the weights below w have come to v, with `left` groups allowed still, l being the bytes from place `at` on.
-- A list in the logic may hold what is no byte; that is no group. A slice of bytes has none.
unfoldable pub groups : (left w v at : ℕ) → List ℕ → Result Number Refusal
groups zero w v at l = Err IllFormed
groups (suc left) w v at [] = Err EndsInside
groups (suc left) w v at (b ∷ l) =
    pick (ltb b 128)
    (last_group (ltb 1 w && eqb b 0) (v + w * b) (at + 1))
    (pick (ltb b 256) (groups left (w * 128) (v + w * (b - 128)) (at + 1) l) (Err IllFormed))

-- The number at a place of the bytes s.
unfoldable pub number_at : List ℕ → ℕ → Result Number Refusal
number_at s at = groups 4 1 0 at (drop at s)

-- The groups of a number, `left` at most.
unfoldable pub encode_in : ℕ → ℕ → List ℕ
encode_in zero x = []
encode_in (suc left) x = pick (ltb x 128) (x ∷ []) ((x % 128 + 128) ∷ encode_in left (x / 128))

unfoldable pub encode : ℕ → List ℕ
encode x = encode_in 4 x

-- ---- what a turn of a loop over the groups uses: the byte at place i of s

module _ (s : List ℕ) (w v i : ℕ) where
  pub groups_none : groups 0 w v i (drop i s) ≡ Err IllFormed
  unfolding groups
  groups_none = refl

  pub groups_ended : (left : ℕ) → 0 < left → length s ≤ i → groups left w v i (drop i s) ≡ Err EndsInside
  unfolding groups
  groups_ended zero p h = absurd (omega arith)
  groups_ended (suc left) p h = rw (drop_of_length-le s h)

  pub groups-last : (left : ℕ) → 0 < left → i < length s → get_or s i 0 < 128
      → groups left w v i (drop i s) ≡ last_group (ltb 1 w && eqb (get_or s i 0) 0) (v + w * get_or s i 0) (i + 1)
  unfolding groups pick
  groups-last zero p h b = absurd (omega arith)
  groups-last (suc left) p h b = rw (drop-cons s i 0 h, lt-ltb (get_or s i 0) 128 b)

  pub groups-more : (left : ℕ) → 0 < left → i < length s → 128 ≤ get_or s i 0 → get_or s i 0 < 256
      → groups left w v i (drop i s) ≡ groups (left - 1) (w * 128) (v + w * (get_or s i 0 - 128)) (i + 1) (drop (i + 1) s)
  unfolding groups pick
  groups-more zero p h b c = absurd (omega arith)
  groups-more (suc left) p h b c = rw (drop-cons s i 0 h, le-ltb (get_or s i 0) 128 b, lt-ltb (get_or s i 0) 256 c, sub-one, add-one i)

-- ---- the place after a number

-- the last group's two outcomes
last-number : (t : Bool) (y m x next : ℕ) → last_group t y m ≡ found x next → (t ≡ false) × (x ≡ y) × (next ≡ m)
unfolding pick
last-number true y m x next e = let z : ◌≡◌ {A = ℕ} 0 1 = cc in absurd (omega arith)
last-number false y m x next e =
    let q : ◌≡◌ {A = Number} (record { value = y; next = m }) (record { value = x; next = next }) = cc in
    (refl, sym (ap (λ (n : Number). n.value) q), sym (ap (λ (n : Number). n.next) q))

-- a group that continues is a byte
byte_number : (t : Bool) (m : Result Number Refusal) (x next : ℕ) → pick t m (Err IllFormed) ≡ found x next
    → (t ≡ true) × (m ≡ found x next)
unfolding pick
byte_number true m x next e = (refl, e)
byte_number false m x next e = let z : ◌≡◌ {A = ℕ} 0 1 = cc in absurd (omega arith)

-- a number read in its groups: the first is the last, or one of those before
pub groups-number : (left w v at b x next : ℕ) (l : List ℕ) → groups (suc left) w v at (b ∷ l) ≡ found x next
    → ((b < 128) × ((ltb 1 w && eqb b 0) ≡ false) × (x ≡ v + w * b) × (next ≡ at + 1))
    ⊎ ((128 ≤ b) × (b < 256) × (groups left (w * 128) (v + w * (b - 128)) (at + 1) l ≡ found x next))
unfolding groups
groups-number left w v at b x next l e = go (ltb b 128) refl
  where
    go : (t : Bool) → ltb b 128 ≡ t → ((b < 128) × ((ltb 1 w && eqb b 0) ≡ false) × (x ≡ v + w * b) × (next ≡ at + 1))
        ⊎ ((128 ≤ b) × (b < 256) × (groups left (w * 128) (v + w * (b - 128)) (at + 1) l ≡ found x next))
    go true q =
        let r = last-number (ltb 1 w && eqb b 0) (v + w * b) (at + 1) x next (sym (pick_true (ltb b 128) _ _ q) ∙ e) in
        inl (ltb-true b 128 q, r.0, r.1, r.2)
    go false q =
        let r = byte_number (ltb b 256) _ x next (sym (pick-false (ltb b 128) _ _ q) ∙ e) in
        inr (ltb-false b 128 q, ltb-true b 256 r.0, r.1)

-- no number where none is left, and none at the end
pub groups_nothing : (w v at x next : ℕ) (l : List ℕ) → groups 0 w v at l ≡ found x next → ⊥
unfolding groups
groups_nothing w v at x next l e = let z : ◌≡◌ {A = ℕ} 0 1 = cc in omega arith

pub groups-empty : (left w v at x next : ℕ) → groups left w v at [] ≡ found x next → ⊥
unfolding groups
groups-empty zero w v at x next e = let z : ◌≡◌ {A = ℕ} 0 1 = cc in omega arith
groups-empty (suc left) w v at x next e = let z : ◌≡◌ {A = ℕ} 0 1 = cc in omega arith

groups-next : (left w v at x next : ℕ) (l : List ℕ) → groups left w v at l ≡ found x next → (at < next) × (next ≤ at + length l)
groups-next zero w v at x next l e = absurd (groups_nothing w v at x next l e)
groups-next (suc left) w v at x next [] e = absurd (groups-empty (suc left) w v at x next e)
groups-next (suc left) w v at x next (b ∷ l) e =
    ⊎_elim (λ r. let q = r.3 in omega arith)
    (λ r. let q = groups-next left (w * 128) (v + w * (b - 128)) (at + 1) x next l r.2 in omega arith)
    (groups-number left w v at b x next l e)

pub number-next : (s : List ℕ) (at x next : ℕ) → at < length s → number_at s at ≡ found x next → (at < next) × (next ≤ length s)
unfolding number_at
number-next s at x next h e = let r = groups-next _ 1 0 at x next (drop at s) e in omega (arith, r, length-drop at s)

-- ---- why no number is read: the bytes end inside one, or the groups are none

last_refused : (t : Bool) (y m : ℕ) (r : Refusal) → last_group t y m ≡ Err r → r ≡ IllFormed
unfolding pick
last_refused true y m r e = cc
last_refused false y m r e = let z : ◌≡◌ {A = ℕ} 0 1 = cc in absurd (omega arith)

group-refused : (t u short : Bool) (y m : ℕ) (after : Result Number Refusal) (r : Refusal)
    → (after ≡ Err r → (r ≡ EndsInside) ⊎ (r ≡ IllFormed))
    → pick t (last_group short y m) (pick u after (Err IllFormed)) ≡ Err r → (r ≡ EndsInside) ⊎ (r ≡ IllFormed)
unfolding pick
group-refused true u short y m after r h e = inr (last_refused short y m r e)
group-refused false true short y m after r h e = h e
group-refused false false short y m after r h e = inr cc

groups-refused : (left w v at : ℕ) (l : List ℕ) (r : Refusal) → groups left w v at l ≡ Err r → (r ≡ EndsInside) ⊎ (r ≡ IllFormed)
unfolding groups
groups-refused zero w v at l r e = inr cc
groups-refused (suc left) w v at [] r e = inl cc
groups-refused (suc left) w v at (b ∷ l) r e =
    group-refused (ltb b 128) (ltb b 256) (ltb 1 w && eqb b 0) (v + w * b) (at + 1) (groups left (w * 128) (v + w * (b - 128)) (at + 1) l) r
    (groups-refused left (w * 128) (v + w * (b - 128)) (at + 1) l r) e

pub number-refused : (s : List ℕ) (at : ℕ) (r : Refusal) → number_at s at ≡ Err r → (r ≡ EndsInside) ⊎ (r ≡ IllFormed)
unfolding number_at
number-refused s at r e = groups-refused 4 1 0 at (drop at s) r e

-- ---- the groups of a number, one by one

pub encode_in-last : (left y : ℕ) → 0 < left → y < 128 → encode_in left y ≡ y ∷ []
unfolding encode_in
encode_in-last zero y p h = absurd (omega arith)
encode_in-last (suc left) y p h = pick_true _ _ _ (lt-ltb y 128 h)

pub encode_in-more : (left y : ℕ) → 0 < left → 128 ≤ y → encode_in left y ≡ (y % 128 + 128) ∷ encode_in (left - 1) (y / 128)
unfolding encode_in
encode_in-more zero y p h = absurd (omega arith)
encode_in-more (suc left) y p h = rw sub-one (pick-false _ _ _ (le-ltb y 128 h))

pub encode_in-suc : (left y : ℕ) → 128 ≤ y → encode_in (suc left) y ≡ (y % 128 + 128) ∷ encode_in left (y / 128)
unfolding encode_in
encode_in-suc left y h = pick-false _ _ _ (le-ltb y 128 h)

pub encode_in-none : (y : ℕ) → encode_in 0 y ≡ []
unfolding encode_in
encode_in-none y = refl

-- their number
size-last : (left y : ℕ) → 0 < left → y < 128 → length (encode_in left y) ≡ 1
size-last left y p h = ap length (encode_in-last left y p h)

size-more : (left y : ℕ) → 0 < left → 128 ≤ y → length (encode_in left y) ≡ suc (length (encode_in (left - 1) (y / 128)))
size-more left y p h = ap length (encode_in-more left y p h)

size-one : (y : ℕ) → length (encode_in 1 y) ≡ 1
size-one y = go (ltb y 128) refl
  where
    go : (t : Bool) → ltb y 128 ≡ t → length (encode_in 1 y) ≡ 1
    go true e = size-last 1 y (omega arith) (ltb-true y 128 e)
    go false e = size-more 1 y (omega arith) (ltb-false y 128 e) ∙ ap (λ (l : List ℕ). suc (length l)) (encode_in-none (y / 128))

pub encode-some : (x : ℕ) → 0 < length (encode x)
unfolding encode
encode-some x = go (ltb x 128) refl
  where
    go : (t : Bool) → ltb x 128 ≡ t → 0 < length (encode_in 4 x)
    go true e = omega (arith, size-last 4 x (omega arith) (ltb-true x 128 e))
    go false e = omega (arith, size-more 4 x (omega arith) (ltb-false x 128 e))

module _ (x : ℕ) where
  pub size_1 : x < 128 → length (encode x) ≡ 1
  unfolding encode
  size_1 h = size-last 4 x (omega arith) h

  pub size_2 : 128 ≤ x → x < 16384 → length (encode x) ≡ 2
  unfolding encode
  size_2 h k = size-more 4 x (omega arith) h ∙ ap suc (size-last 3 (x / 128) (omega arith) (omega arith))

  pub size_3 : 16384 ≤ x → x < 2097152 → length (encode x) ≡ 3
  unfolding encode
  size_3 h k =
      size-more 4 x (omega arith) (omega arith) ∙ ap suc (size-more 3 (x / 128) (omega arith) (omega arith))
      ∙ ap (λ (n : ℕ). suc (suc n)) (size-last 2 (x / 128 / 128) (omega arith) (omega arith))

  pub size_4 : 2097152 ≤ x → length (encode x) ≡ 4
  unfolding encode
  size_4 h =
      size-more 4 x (omega arith) (omega arith) ∙ ap suc (size-more 3 (x / 128) (omega arith) (omega arith))
      ∙ ap (λ (n : ℕ). suc (suc n)) (size-more 2 (x / 128 / 128) (omega arith) (omega arith))
      ∙ ap (λ (n : ℕ). suc (suc (suc n))) (size-one (x / 128 / 128 / 128))
