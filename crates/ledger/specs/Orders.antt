-- An order of the fields: how occurrences are counted, and what follows of a list that holds every field just one time. Assumes nothing.
use Rattle.std.specs.Prelude.{◌≡◌, refl, Bool, true, false, ◌&&◌, List, [], ◌∷◌, ℕ, zero, suc, ◌+◌, ◌≤◌, ◌<◌, ltb, length, get_or, take}
use Rattle.std.proofs.Math.Path.{sym}
use Rattle.std.proofs.Common.{ap, ap₂, ◌∙◌, ⊎_elim, add-one, arith}
use Rattle.std.proofs.Math.Dec.{eqb}
use borrow.Author.Tests.{eqb-true, eq-eqb, ne_eqb, ltb-true, ltb-false, lt-ltb, le-ltb}
use Rattle.masks.specs.Tests.{not_so, bool_cases, eq_cases, and_l, and_r, and-by, all_below, all_below-at, all_below-by}
use Rattle.masks.specs.Masks.{digit}
use Rattle.ledger.specs.Occurrences.{occurrences}
use Rattle.ledger.specs.Ledger.{is_order}

digit-true : {t : Bool} → t ≡ true → digit t ≡ 1
digit-true e = ap digit e

digit-false : {t : Bool} → t ≡ false → digit t ≡ 0
digit-false e = ap digit e

-- ---- counted one after the other

pub occurs_none : (x : ℕ) (l : List ℕ) → occurrences x (take 0 l) ≡ 0
unfolding occurrences
occurs_none x l = refl

occurs_next : (x : ℕ) (l : List ℕ) (k : ℕ) → k < length l
    → occurrences x (take (k + 1) l) ≡ occurrences x (take k l) + digit (eqb (get_or l k 0) x)
unfolding occurrences
occurs_next x [] k h = absurd (omega arith)
occurs_next x (y ∷ l) zero h = let z : digit (eqb y x) + 0 ≡ 0 + digit (eqb y x) = omega arith in z
occurs_next x (y ∷ l) (suc k) h = rw add-one (rw add-one at (ap (λ (n : ℕ). digit (eqb y x) + n) (occurs_next x l k (omega arith))
    ∙ add_assoc (digit (eqb y x)) (occurrences x (take k l)) (digit (eqb (get_or l k 0) x))))
  where
    add_assoc : (a b c : ℕ) → a + (b + c) ≡ a + b + c
    add_assoc a b c = omega arith

-- one place more, which holds x or does not
pub counted : (x : ℕ) (l : List ℕ) (k times : ℕ) → k < length l → times ≡ occurrences x (take k l) → get_or l k 0 ≡ x
    → times + 1 ≡ occurrences x (take (k + 1) l)
counted x l k times h e q = let n = occurs_next x l k h in let d = digit-true (eq-eqb (get_or l k 0) x q) in omega arith

pub passed : (x : ℕ) (l : List ℕ) (k times : ℕ) → k < length l → times ≡ occurrences x (take k l) → (get_or l k 0 ≡ x → ⊥)
    → times ≡ occurrences x (take (k + 1) l)
passed x l k times h e q = let n = occurs_next x l k h in let d = digit-false (ne_eqb (get_or l k 0) x q) in omega arith

-- ---- the number of places that hold something below n, counted field by field

sum_below : ℕ → (ℕ → ℕ) → ℕ
sum_below zero g = 0
sum_below (suc n) g = sum_below n g + g n

lows : ℕ → List ℕ → ℕ
lows n [] = 0
lows n (y ∷ l) = digit (ltb y n) + lows n l

sum_plus : (n : ℕ) (g h : ℕ → ℕ) → sum_below n (λ f. g f + h f) ≡ sum_below n g + sum_below n h
unfolding sum_below
sum_plus zero g h = refl
sum_plus (suc n) g h = omega (arith, sum_plus n g h)

sum_zero : (n : ℕ) → sum_below n (λ f. 0) ≡ 0
unfolding sum_below
sum_zero zero = refl
sum_zero (suc n) = omega (arith, sum_zero n)

sum_one : (n y : ℕ) → sum_below n (λ f. digit (eqb y f)) ≡ digit (ltb y n)
unfolding sum_below
sum_one zero y = let e : digit (ltb y 0) ≡ 0 = digit-false (le-ltb y 0 (omega arith)) in sym e
sum_one (suc n) y = ⊎_elim
    (λ (q : y ≡ n).
    let a : digit (ltb y n) ≡ 0 = digit-false (le-ltb y n (omega arith)) in
    let b : digit (eqb y n) ≡ 1 = digit-true (eq-eqb y n q) in
    let c : digit (ltb y (suc n)) ≡ 1 = digit-true (lt-ltb y (suc n) (omega arith)) in
    omega (arith, sum_one n y, a, b, c))
    (λ q.
    let b : digit (eqb y n) ≡ 0 = digit-false (ne_eqb y n q) in
    let c : digit (ltb y (suc n)) ≡ digit (ltb y n) = ap digit (same q) in
    omega (arith, sum_one n y, b, c))
    (eq_cases y n)
  where
    same : (y ≡ n → ⊥) → ltb y (suc n) ≡ ltb y n
    same q = ⊎_elim
        (λ e. let h = ltb-true y n e in lt-ltb y (suc n) (omega arith) ∙ sym e)
        (λ e. let h = ltb-false y n e in le-ltb y (suc n) (omega arith) ∙ sym e)
        (bool_cases (ltb y n))

sum_occurs : (n : ℕ) (l : List ℕ) → sum_below n (λ f. occurrences f l) ≡ lows n l
unfolding occurrences lows
sum_occurs n [] = sum_zero n
sum_occurs n (y ∷ l) = sum_plus n (λ f. digit (eqb y f)) (λ f. occurrences f l) ∙ ap₂ ◌+◌ (sum_one n y) (sum_occurs n l)

sum_each : (n : ℕ) (g : ℕ → ℕ) → ((f : ℕ) → f < n → g f ≡ 1) → sum_below n g ≡ n
unfolding sum_below
sum_each zero g h = refl
sum_each (suc n) g h = let a = sum_each n g (λ f l. h f (omega arith)) in let b = h n (omega arith) in omega arith

lows-most : (n : ℕ) (l : List ℕ) → lows n l ≤ length l
unfolding lows
lows-most n [] = omega arith
lows-most n (y ∷ l) = let a = lows-most n l in ⊎_elim
    (λ q. let b : digit (ltb y n) ≡ 1 = digit-true q in omega arith)
    (λ q. let b : digit (ltb y n) ≡ 0 = digit-false q in omega arith)
    (bool_cases (ltb y n))

lows_all : (n : ℕ) (l : List ℕ) → lows n l ≡ length l → (q : ℕ) → q < length l → get_or l q 0 < n
unfolding lows
lows_all n [] e q h = absurd (omega arith)
lows_all n (y ∷ l) e q h = ⊎_elim
    (λ t. let b : digit (ltb y n) ≡ 1 = digit-true t in by q h (ltb-true y n t) (lows_all n l (omega arith)))
    (λ t. let b : digit (ltb y n) ≡ 0 = digit-false t in let m = lows-most n l in absurd (omega arith))
    (bool_cases (ltb y n))
  where
    by : (q : ℕ) → q < length (y ∷ l) → y < n → ((q : ℕ) → q < length l → get_or l q 0 < n) → get_or (y ∷ l) q 0 < n
    by zero h k ih = k
    by (suc q) h k ih = ih q (omega arith)

occurs_at : (x : ℕ) (l : List ℕ) → (occurrences x l ≡ 0 → ⊥) → (q : ℕ) × (q < length l) × (get_or l q 0 ≡ x)
unfolding occurrences
occurs_at x [] h = absurd (h refl)
occurs_at x (y ∷ l) h = ⊎_elim
    (λ t. (0, omega arith, eqb-true y x t))
    (λ t.
    let b : digit (eqb y x) ≡ 0 = digit-false t in
    let r = occurs_at x l (λ z. h (omega (arith, b, z))) in
    (suc r.0, let k = r.1 in omega arith, r.2))
    (bool_cases (eqb y x))

-- ---- an order

module _ (n : ℕ) (order : List ℕ) where
  pub order_wrong_length : (length order ≡ n → ⊥) → false ≡ is_order n order
  unfolding is_order
  order_wrong_length h = sym (ap (λ (b : Bool). b && all_below n (λ f. eqb (occurrences f order) 1)) (ne_eqb (length order) n h))

  pub order_wrong_field : (f : ℕ) → f < n → (occurrences f order ≡ 1 → ⊥) → false ≡ is_order n order
  unfolding is_order
  order_wrong_field f l h = sym (not_so _ (λ e. h (eqb-true _ 1 (all_below-at n _ (and_r (eqb (length order) n) _ e) f l))))

  pub order-right : length order ≡ n → ((f : ℕ) → f < n → occurrences f order ≡ 1) → true ≡ is_order n order
  unfolding is_order
  order-right e h = sym (and-by _ _ (eq-eqb (length order) n e) (all_below-by n _ (λ f l. eq-eqb _ 1 (h f l))))

  module _ (e : is_order n order ≡ true) where
    pub order-sized : length order ≡ n
    unfolding is_order
    order-sized = eqb-true (length order) n (and_l _ _ e)

    once : (f : ℕ) → f < n → occurrences f order ≡ 1
    unfolding is_order
    once f l = eqb-true _ 1 (all_below-at n _ (and_r (eqb (length order) n) _ e) f l)

    pub order-low : (q : ℕ) → q < n → get_or order q 0 < n
    order-low q h =
        let s = order-sized in
        lows_all n order (sym (sum_occurs n order) ∙ sum_each n (λ f. occurrences f order) once ∙ sym s) q (omega arith)

    pub order-every : (f : ℕ) → f < n → (q : ℕ) × (q < n) × (get_or order q 0 ≡ f)
    order-every f h =
        let r = occurs_at f order (λ z. let o = once f h in omega arith) in
        (r.0, let l = r.1 in let s = order-sized in omega arith, r.2)
