-- Settings that leave a set and enter the removal list. Assumes nothing.
use Rattle.std.specs.Prelude.{◌≡◌, refl, ◌⊎◌, Bool, true, false, not, ◌&&◌, List, ℕ, ◌+◌, ◌*◌, ◌≤◌, ◌<◌, eqb, ltb, length, get_or, set}
use Rattle.std.proofs.Common.{sym, ap, ◌∙◌, inl, inr, ⊎_elim, arith, length-set, get_or-set_same, get_or-set_other, eqb-true, ltb-true}
use Rattle.std.proofs.Common.{ltb-false}
use Rattle.std.proofs.Math.Bool.{and-true, and-false}
use Rattle.limits.specs.Limits.{most_settings}
use Rattle.masks.specs.Tests.{never, not_so, bool_cases, eq_cases}
use Rattle.masks.specs.Bits.{bit}
use Rattle.masks.proofs.Bits.{bit_of-zero}
use Rattle.masks.specs.Words.{clear}
use Rattle.masks.proofs.Words.{bit-clear}
use Rattle.masks.specs.Sets.{has, ◌⊆◌, ⊆_refl, ⊆_trans, only, length-only, count}
use Rattle.masks.proofs.Sets.{has_ext, has-only}
use Rattle.masks.specs.Settings.{lose, length-lose}
use Rattle.masks.proofs.Settings.{lose_⊆, lose-by, lose-at}
use Rattle.removal_list.specs.Count.{count-lose}

-- the number of position b of field j
abbrev pub number_of : ℕ → ℕ → ℕ
number_of j b = j * most_settings + b

-- The set D became R, and the list L with its tail at t became K with its tail at u: each setting that D lost entered a single time, and
-- nothing else entered. Other places are as they were.
pub record Moved (D L : List ℕ) (t : ℕ) (R K : List ℕ) (u : ℕ) : Type 0 where
  pub sized : length R ≡ length D
  pub long : length K ≡ length L
  pub inside : R ⊆ D
  pub more : t ≤ u
  pub front : (p : ℕ) → p < t → get_or K p 0 ≡ get_or L p 0
  pub past : (p : ℕ) → u ≤ p → get_or K p 0 ≡ get_or L p 0
  pub enters : (j b : ℕ) → has D j b ≡ true → has R j b ≡ false → (p : ℕ) × (t ≤ p) × (p < u) × (get_or K p 0 ≡ number_of j b)
  pub nothing_else : (p : ℕ) → t ≤ p → p < u
      → (j : ℕ) × (b : ℕ) × (b < most_settings) × (get_or K p 0 ≡ number_of j b) × (has D j b ≡ true) × (has R j b ≡ false)
  pub once : (p q : ℕ) → t ≤ p → p < u → t ≤ q → q < u → get_or K p 0 ≡ get_or K q 0 → p ≡ q
  pub room : u + count R ≡ t + count D

-- two settings with one number are the same
pub number_same : (j b i a : ℕ) → b < most_settings → a < most_settings → number_of j b ≡ number_of i a → (j ≡ i) × (b ≡ a)
number_same j b i a h k e = (omega arith, omega arith)

module _ (D L : List ℕ) (t : ℕ) where
  pub moved_none : Moved D L t D L t
  moved_none = record {
    sized = refl;
    long = refl;
    inside = ⊆_refl D;
    more = omega arith;
    front = λ p l. refl;
    past = λ p l. refl;
    enters = λ j b e g. absurd (never e g);
    nothing_else = λ p l h. absurd (omega arith);
    once = λ p q l h m k e. absurd (omega arith);
    room = refl;
  }

-- ---- one after the other

lt-cases : (p u : ℕ) → (p < u) ⊎ (u ≤ p)
lt-cases p u = ⊎_elim (λ q. inl (ltb-true p u q)) (λ q. inr (ltb-false p u q)) (bool_cases (ltb p u))

-- a number of the first part is of a setting that is not in R, one of the second part of a setting that is
apart : {D L R K S M : List ℕ} {t u w : ℕ} → Moved D L t R K u → Moved R K u S M w
    → (p q : ℕ) → t ≤ p → p < u → u ≤ q → q < w → get_or M p 0 ≡ get_or M q 0 → ⊥
apart {D} {L} {R} x y p q l h m k e =
    let f = x.nothing_else p l h in
    let g = y.nothing_else q m k in
    let s = number_same _ _ _ _ f.2 g.2 (sym f.3 ∙ sym (y.front p h) ∙ e ∙ g.3) in
    never (ap (λ (j : ℕ). has R j f.1) s.0 ∙ ap (has R g.0) s.1 ∙ g.4) f.5

pub moved_then : {D L R K S M : List ℕ} {t u w : ℕ} → Moved D L t R K u → Moved R K u S M w → Moved D L t S M w
moved_then {D} {L} {R} {K} {S} {M} {t} {u} {w} x y = record {
  sized = y.sized ∙ x.sized;
  long = y.long ∙ x.long;
  inside = ⊆_trans S R D y.inside x.inside;
  more = omega (arith, x.more, y.more);
  front = λ p l. y.front p (omega (arith, x.more)) ∙ x.front p l;
  past = λ p l. y.past p l ∙ x.past p (omega (arith, y.more));
  enters = λ j b e g. ⊎_elim
      (λ q. let r = y.enters j b q g in (r.0, omega (arith, x.more, r.1), r.2, r.3))
      (λ q. let r = x.enters j b e q in (r.0, r.1, omega (arith, y.more, r.2), y.front r.0 r.2 ∙ r.3))
      (bool_cases (has R j b));
  nothing_else = λ p l h. ⊎_elim
      (λ q. let r = x.nothing_else p l q in
      (r.0, r.1, r.2, y.front p q ∙ r.3, r.4, not_so _ (λ z. never (y.inside r.0 r.1 z) r.5)))
      (λ q. let r = y.nothing_else p q h in (r.0, r.1, r.2, r.3, x.inside r.0 r.1 r.4, r.5))
      (lt-cases p u);
  once = λ p q l h m k e. ⊎_elim
      (λ c. ⊎_elim (λ d. x.once p q l c m d (sym (y.front p c) ∙ e ∙ y.front q d)) (λ d. absurd (apart x y p q l c d k e))
      (lt-cases q u))
      (λ c. ⊎_elim (λ d. absurd (apart x y q p m d c h (sym e))) (λ d. y.once p q c h d k e) (lt-cases q u))
      (lt-cases p u);
  room = y.room ∙ x.room;
}

-- ---- one setting, as code takes it from the set and puts it at the tail

lose-gone : (S : List ℕ) (f v g u : ℕ) → has S g u ≡ true → has (lose S f v) g u ≡ false → (g ≡ f) × (u ≡ v)
lose-gone S f v g u e z =
    ⊎_elim (λ p. ⊎_elim (λ q. (p, q)) (λ q. absurd (never (lose-by S f v g u e (λ _. q)) z)) (eq_cases u v))
    (λ p. absurd (never (lose-by S f v g u e (λ h _. p h)) z)) (eq_cases g f)

pub moved-one : (D L : List ℕ) (t i a : ℕ) → has D i a ≡ true → a < most_settings → t < length L
    → Moved D L t (lose D i a) (set L t (number_of i a)) (t + 1)
moved-one D L t i a e h k = record {
  sized = length-lose D i a;
  long = length-set L t (number_of i a);
  inside = lose_⊆ D i a;
  more = omega arith;
  front = λ p l. get_or-set_other L t p (number_of i a) 0 (λ q. omega arith);
  past = λ p l. get_or-set_other L t p (number_of i a) 0 (λ q. omega arith);
  enters = λ j b d g. let s = lose-gone D i a j b d g in
      (t, omega arith, omega arith, get_or-set_same L t (number_of i a) 0 k ∙ omega (arith, s.0, s.1));
  nothing_else = λ p l m. let q : p ≡ t = omega arith in
      (i, a, h, rw q (get_or-set_same L t (number_of i a) 0 k), e, not_so _ (lose-at D i a));
  once = λ p q l m o r s. omega arith;
  room = omega (arith, count-lose D i a e);
}

-- ---- the set without the positions `gone` of field i

unfoldable pub without : List ℕ → ℕ → ℕ → List ℕ
without D i gone = only (λ g a. not (eqb g i && bit gone a)) D

pub length_without : (D : List ℕ) (i gone : ℕ) → length (without D i gone) ≡ length D
unfolding without
length_without D i gone = length-only _ D

pub has-without : (D : List ℕ) (i gone g a : ℕ) → has (without D i gone) g a ≡ (has D g a && not (eqb g i && bit gone a))
unfolding without
has-without D i gone g a = has-only _ D g a

-- no position
pub without-none : (D : List ℕ) (i : ℕ) → without D i 0 ≡ D
without-none D i =
    has_ext _ D (length_without D i 0)
    (λ g a. has-without D i 0 g a ∙ rw (bit_of-zero a, and-false (eqb g i)) (and-true (has D g a)))

-- one of the positions first, then the others
pub without-lose : (D : List ℕ) (i left a : ℕ) → bit left a ≡ true → without (lose D i a) i (clear left a) ≡ without D i left
unfolding lose
without-lose D i left a e =
    has_ext _ _ (length_without (lose D i a) i (clear left a) ∙ length-lose D i a ∙ sym (length_without D i left))
    (λ g u. has-without (lose D i a) i (clear left a) g u ∙ rw (has-only _ D g u, bit-clear left a u)
    (go (has D g u) (eqb g i) (eqb u a) (bit left u) (λ q. ap (bit left) (eqb-true u a q) ∙ e)) ∙ sym (has-without D i left g u))
  where
    go : (h f s l : Bool) → (s ≡ true → l ≡ true) → (h && not (f && s) && not (f && (l && not s))) ≡ (h && not (f && l))
    go false f s l k = refl
    go true false s l k = refl
    go true true true l k = rw (k refl)
    go true true false l k = ap not (and-true l)
