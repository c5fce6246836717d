-- The words of a triple rule, written row after row. Assumes nothing.
use Rattle.std.specs.Prelude.{◌≡◌, refl, ◌⊎◌, Bool, ◌&&◌, List, ℕ, ◌+◌, ◌*◌, ◌≤◌, ◌<◌, ltb, length, get_or, set}
use Rattle.std.proofs.Common.{sym, ap, ◌∙◌, inl, inr, ⊎_elim, eq-or-lt_of_le, arith, length-set, get_or-set_same, get_or-set_other, lt-ltb}
use Rattle.std.proofs.Common.{le-ltb, ltb-true, ltb-false}
use Rattle.limits.specs.Limits.{most_fields, most_settings}
use Rattle.masks.specs.Tests.{bool_cases}
use Rattle.masks.specs.Masks.{mask_of}
use Rattle.masks.proofs.Loops.{mask-false}
use Rattle.accepted.specs.Parts.{fields_of, count_of, setting_of, triple_first, triple_second, triple_third, triple_number}
use Rattle.accepted.specs.Parts.{triple_allows, FieldAt, TripleAt}
use Rattle.accepted.specs.Kinds.{even_draft}
use Rattle.accepted.specs.Facts.{Facts, facts}

-- the positions of field k that a triple rule with the number c allows beside the settings p and q
abbrev pub thirds_of : List ℕ → ℕ → ℕ → ℕ → ℕ → ℕ
thirds_of xs k c p q = mask_of (count_of xs k) (λ u. even_draft c p q (setting_of xs k u))

-- what code finds of a position is what the triple rule allows
pub draft_is : (c p q r s : ℕ) (b : Bool) → r ≡ s → b ≡ even_draft c p q r → even_draft c p q s ≡ b
draft_is c p q r s b e h = sym (rw e at h)

-- the word of positions p and q of the first two fields of triple rule t; 0 where one of them is past the settings of its field
abbrev pub draft_word : List ℕ → ℕ → ℕ → ℕ → ℕ
draft_word xs t p q = mask_of (count_of xs (triple_third xs t))
    (λ r. ltb p (count_of xs (triple_first xs t)) && (ltb q (count_of xs (triple_second xs t)) && triple_allows xs t p q r))

-- all words are 0 from `base` on
abbrev pub ZerosFrom : ℕ → List ℕ → Type 0
ZerosFrom base T = (x : ℕ) → base ≤ x → get_or T x 0 ≡ 0

-- ---- one row

-- The first i words of w stand from `base` on, and nothing else changed.
pub record Run (T0 : List ℕ) (base : ℕ) (w : ℕ → ℕ) (i : ℕ) (T : List ℕ) : Type 0 where
  pub sized : length T ≡ length T0
  pub here : (h : ℕ) → h < i → get_or T (base + h) 0 ≡ w h
  pub there : (x : ℕ) → ((x < base) ⊎ (base + i ≤ x)) → get_or T x 0 ≡ get_or T0 x 0

module _ (T0 : List ℕ) (base : ℕ) (w : ℕ → ℕ) where
  pub run-start : Run T0 base w 0 T0
  run-start = record { sized = refl; here = λ h l. absurd (omega arith); there = λ x o. refl }

  pub run-next : (i : ℕ) (T : List ℕ) (y : ℕ) → base + i < length T → y ≡ w i → Run T0 base w i T
      → Run T0 base w (i + 1) (set T (base + i) y)
  run-next i T y l e p = record {
    sized = length-set T (base + i) y ∙ p.sized;
    here = λ h k. ⊎_elim
        (λ (q : h ≡ i). rw q (get_or-set_same T (base + i) y 0 l ∙ e))
        (λ q. get_or-set_other T (base + i) (base + h) y 0 (λ z. omega arith) ∙ p.here h q)
        (eq-or-lt_of_le (let j : h ≤ i = omega arith in j));
    there = λ x o. get_or-set_other T (base + i) x y 0 (λ z. ⊎_elim (λ q. omega arith) (λ q. omega arith) o)
        ∙ p.there x (⊎_elim (λ q. inl q) (λ q. inr (omega arith)) o);
  }

-- ---- the rows of a triple rule

-- The words of the first m positions of its first field stand from `base` on, and nothing else changed.
pub record TripleRows (xs : List ℕ) (t : ℕ) (T0 : List ℕ) (base m : ℕ) (T : List ℕ) : Type 0 where
  pub sized : length T ≡ length T0
  pub low : (x : ℕ) → x < base → get_or T x 0 ≡ get_or T0 x 0
  pub done : (p q : ℕ) → p < m → q < most_settings → get_or T (base + p * most_settings + q) 0 ≡ draft_word xs t p q
  pub rest : (x : ℕ) → base + m * most_settings ≤ x → get_or T x 0 ≡ get_or T0 x 0

module _ (xs : List ℕ) (t : ℕ) where
  word-is : (p q : ℕ) → p < count_of xs (triple_first xs t) → q < count_of xs (triple_second xs t)
      → thirds_of xs (triple_third xs t) (triple_number xs t) (setting_of xs (triple_first xs t) p) (setting_of xs (triple_second xs t) q)
      ≡ draft_word xs t p q
  word-is p q h k = rw (lt-ltb p (count_of xs (triple_first xs t)) h, lt-ltb q (count_of xs (triple_second xs t)) k)

  pub word-past-first : (p q : ℕ) → count_of xs (triple_first xs t) ≤ p → 0 ≡ draft_word xs t p q
  word-past-first p q h = sym (mask-false _ _ (λ r. rw (le-ltb p (count_of xs (triple_first xs t)) h)))

  word-past-second : (p q : ℕ) → p < count_of xs (triple_first xs t) → count_of xs (triple_second xs t) ≤ q → 0 ≡ draft_word xs t p q
  word-past-second p q h k =
      sym (mask-false _ _ (λ r. rw (lt-ltb p (count_of xs (triple_first xs t)) h, le-ltb q (count_of xs (triple_second xs t)) k)))

  module _ (T0 : List ℕ) (base : ℕ) where
    pub triple-rows-start : TripleRows xs t T0 base 0 T0
    triple-rows-start =
        record { sized = refl; low = λ x l. refl; done = λ p q l. absurd (omega arith); rest = λ x l. refl }

    -- the words of one position more, with the fields and the number as the code has them
    pub triple-rows-next : (m i j k c p row : ℕ) (T T' : List ℕ) → i ≡ triple_first xs t → j ≡ triple_second xs t → k ≡ triple_third xs t
        → c ≡ triple_number xs t → p ≡ setting_of xs i m → row ≡ base + m * most_settings → m < count_of xs i
        → count_of xs j ≤ most_settings
        → ZerosFrom base T0 → TripleRows xs t T0 base m T → Run T row (λ v. thirds_of xs k c p (setting_of xs j v)) (count_of xs j) T'
        → TripleRows xs t T0 base (m + 1) T'
    triple-rows-next m i j k c p row T T' ei ej ek ec ep er h few zeros y run = record {
      sized = run.sized ∙ y.sized;
      low = λ x l. run.there x (inl (omega arith)) ∙ y.low x l;
      done = λ p' q l b. ⊎_elim
          (λ (e : p' ≡ m). rw e (new q b))
          (λ e. run.there (base + p' * most_settings + q) (inl (omega arith)) ∙ y.done p' q e b)
          (eq-or-lt_of_le (let d : p' ≤ m = omega arith in d));
      rest = λ x l. run.there x (inr (omega arith)) ∙ y.rest x (omega arith);
    }
      where
        new : (q : ℕ) → q < most_settings → get_or T' (base + m * most_settings + q) 0 ≡ draft_word xs t m q
        new q b = ⊎_elim
            (λ e. let l = ltb-true q (count_of xs j) e in
            ap (λ (x : ℕ). get_or T' (x + q) 0) (sym er) ∙ run.here q l
            ∙ rw (ek, ec, ep, ei, ej) (word-is m q (rw ei at h) (rw ej at l)))
            (λ e. let l = ltb-false q (count_of xs j) e in
            run.there (base + m * most_settings + q) (inr (omega arith)) ∙ y.rest (base + m * most_settings + q) (omega arith)
            ∙ zeros (base + m * most_settings + q) (omega arith) ∙ word-past-second m q (rw ei at h) (rw ej at l))
            (bool_cases (ltb q (count_of xs j)))

-- ---- the fields of a triple rule

pub field-few : (xs : List ℕ) (f place : ℕ) → FieldAt xs f place → count_of xs f ≤ most_settings
field-few xs f place g = (facts xs g.field.accepted).count-few f g.field.within

-- triple rule t at its place, and its fields i, j and k
pub record TripleFields (xs : List ℕ) (t place i j k : ℕ) : Type 0 where
  pub triple : TripleAt xs t place
  pub first : i ≡ triple_first xs t
  pub second : j ≡ triple_second xs t
  pub third : k ≡ triple_third xs t

module _ (xs : List ℕ) (t place i j k : ℕ) (g : TripleFields xs t place i j k) where
  fs : Facts xs
  fs = facts xs g.triple.accepted

  pub three_in : (i < fields_of xs) × (j < fields_of xs) × (k < fields_of xs)
  three_in =
      let a = g.first in
      let b = g.second in
      let d = g.third in
      let x = fs.triple-apart t g.triple.within in
      let y = fs.triple-above t g.triple.within in
      let z = fs.triple-within t g.triple.within in
      (omega arith, omega arith, omega arith)

  pub counts-low : (count_of xs i ≤ most_settings) × (count_of xs j ≤ most_settings) × (count_of xs k ≤ most_settings)
  counts-low = let x = three_in in (fs.count-few i x.0, fs.count-few j x.1, fs.count-few k x.2)

  pub fields-small : (i < most_fields) × (j < most_fields) × (k < most_fields)
  fields-small =
      let x = three_in in
      let a = x.0 in
      let b = x.1 in
      let d = x.2 in
      let n = fs.fields-few in
      (omega arith, omega arith, omega arith)
