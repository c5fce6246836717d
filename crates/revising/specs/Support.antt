-- What a triple rule supports of its three fields: the loops over the positions of its first field and of its second. Assumes nothing.
use Rattle.std.specs.Prelude.{◌≡◌, refl, true, false, List, ℕ, ◌+◌, ◌*◌, ◌^◌, get_or}
use Rattle.std.proofs.Common.{sym, ap, ◌∙◌, ⊎_elim, eqb-true, eq-eqb}
use Rattle.std.specs.Int.Bits.{bit_and, bit_or}
use Rattle.limits.specs.Limits.{most_settings}
use Rattle.masks.specs.Tests.{never, eq_cases, and_l, and_r, and-by, or_l, or_r, or_at}
use Rattle.masks.specs.Bits.{bit}
use Rattle.masks.proofs.Bits.{bit_of-zero, bit-some}
use Rattle.masks.specs.Words.{clear}
use Rattle.masks.proofs.Words.{bit-and, bit-or, bit-one, clear-other}

-- the mask has the position it was made of
pub or-one-same : (m v : ℕ) → bit (bit_or m (2 ^ v)) v ≡ true
or-one-same m v = bit-or m (2 ^ v) v ∙ or_r (bit m v) _ (bit-one v v ∙ eq-eqb v v refl)

pub or-old : (m n v : ℕ) → bit m v ≡ true → bit (bit_or m n) v ≡ true
or-old m n v e = bit-or m n v ∙ or_l _ _ e

pub or_new : (m n v : ℕ) → bit n v ≡ true → bit (bit_or m n) v ≡ true
or_new m n v e = bit-or m n v ∙ or_r (bit m v) _ e

-- A mask of positions some of which are still to come: another than the one that is taken.
pub not_taken : (left q v : ℕ) → bit (clear left q) v ≡ false → (v ≡ q → ⊥) → bit left v ≡ false
not_taken left q v e d = sym (clear-other left q v d) ∙ e

module _ (T : List ℕ) (row middle upper : ℕ) where
  -- ---- beside one position of the first field: the positions of `left` are still to come

  pub record Beside (left second third : ℕ) : Type 0 where
    pub second_at : (q : ℕ) → bit second q ≡ true
        → (bit middle q ≡ true) × ((r : ℕ) × (bit upper r ≡ true) × (bit (get_or T (row + q) 0) r ≡ true))
    pub third_at : (r : ℕ) → bit third r ≡ true
        → (bit upper r ≡ true) × ((q : ℕ) × (bit middle q ≡ true) × (bit (get_or T (row + q) 0) r ≡ true))
    pub by : (q r : ℕ) → bit left q ≡ false → bit middle q ≡ true → bit upper r ≡ true → bit (get_or T (row + q) 0) r ≡ true
        → (bit second q ≡ true) × (bit third r ≡ true)

  pub beside-start : Beside middle 0 0
  beside-start = record {
    second_at = λ q e. absurd (never e (bit_of-zero q));
    third_at = λ r e. absurd (never e (bit_of-zero r));
    by = λ q r e m. absurd (never m e);
  }

  module _ (left second third q both : ℕ) (x : Beside left second third) (m : bit middle q ≡ true)
      (k : both ≡ bit_and (get_or T (row + q) 0) upper) where
    both_at : (r : ℕ) → bit both r ≡ true → (bit (get_or T (row + q) 0) r ≡ true) × (bit upper r ≡ true)
    both_at r e =
        let y = sym (bit-and (get_or T (row + q) 0) upper r) ∙ ap (λ (z : ℕ). bit z r) (sym k) ∙ e in
        (and_l _ _ y, and_r (bit (get_or T (row + q) 0) r) _ y)

    both_by : (r : ℕ) → bit (get_or T (row + q) 0) r ≡ true → bit upper r ≡ true → bit both r ≡ true
    both_by r a b = ap (λ (z : ℕ). bit z r) k ∙ bit-and (get_or T (row + q) 0) upper r ∙ and-by _ _ a b

    pub beside_none : both ≡ 0 → Beside (clear left q) second third
    beside_none z = record {
      second_at = x.second_at;
      third_at = x.third_at;
      by = λ p r e a b c. ⊎_elim
          (λ (h : p ≡ q). absurd (never (both_by r (rw h at c) b) (ap (λ (y : ℕ). bit y r) z ∙ bit_of-zero r)))
          (λ h. x.by p r (not_taken left q p e h) a b c) (eq_cases p q);
    }

    pub beside-some : (both ≡ 0 → ⊥) → Beside (clear left q) (bit_or second (2 ^ q)) (bit_or third both)
    beside-some z = record {
      second_at = λ p e. ⊎_elim (x.second_at p)
          (λ h. let s = bit-some both z in let y = both_at s.0 s.1 in
          let same : p ≡ q = eqb-true p q (sym (bit-one q p) ∙ h) in
          rw same (m, (s.0, y.1, y.0)))
          (or_at (bit second p) _ (sym (bit-or second (2 ^ q) p) ∙ e));
      third_at = λ r e. ⊎_elim (x.third_at r) (λ h. let y = both_at r h in (y.1, (q, m, y.0)))
          (or_at (bit third r) _ (sym (bit-or third both r) ∙ e));
      by = λ p r e a b c. ⊎_elim
          (λ (h : p ≡ q). (rw h (or-one-same second q), or_new third both r (both_by r (rw h at c) b)))
          (λ h. let y = x.by p r (not_taken left q p e h) a b c in (or-old second (2 ^ q) p y.0, or-old third both r y.1))
          (eq_cases p q);
    }

module _ (T : List ℕ) (rows lower middle upper : ℕ) where
  -- the triple rule allows positions p, q, r
  abbrev pub Fits : ℕ → ℕ → ℕ → Type 0
  Fits p q r = bit (get_or T (rows + p * most_settings + q) 0) r ≡ true

  -- ---- all three fields: the positions of `left` of the first are still to come

  pub record Supported3 (left first second third : ℕ) : Type 0 where
    pub first-at : (p : ℕ) → bit first p ≡ true → (bit lower p ≡ true)
        × ((q r : ℕ) × (bit middle q ≡ true) × (bit upper r ≡ true) × Fits p q r)
    pub second_at : (q : ℕ) → bit second q ≡ true → (bit middle q ≡ true)
        × ((p r : ℕ) × (bit lower p ≡ true) × (bit upper r ≡ true) × Fits p q r)
    pub third_at : (r : ℕ) → bit third r ≡ true → (bit upper r ≡ true)
        × ((p q : ℕ) × (bit lower p ≡ true) × (bit middle q ≡ true) × Fits p q r)
    pub by : (p q r : ℕ) → bit left p ≡ false → bit lower p ≡ true → bit middle q ≡ true → bit upper r ≡ true → Fits p q r
        → (bit first p ≡ true) × (bit second q ≡ true) × (bit third r ≡ true)

  pub supported3_start : Supported3 lower 0 0 0
  supported3_start = record {
    first-at = λ p e. absurd (never e (bit_of-zero p));
    second_at = λ q e. absurd (never e (bit_of-zero q));
    third_at = λ r e. absurd (never e (bit_of-zero r));
    by = λ p q r e m. absurd (never m e);
  }

  module _ (left first second third p two three : ℕ) (x : Supported3 left first second third) (l : bit lower p ≡ true)
      (b : Beside T (rows + p * most_settings) middle upper 0 two three) where
    none_left : (q : ℕ) → bit 0 q ≡ false
    none_left q = bit_of-zero q

    pub supported3_none : three ≡ 0 → Supported3 (clear left p) first second third
    supported3_none z = record {
      first-at = x.first-at;
      second_at = x.second_at;
      third_at = x.third_at;
      by = λ u q r e a c d f. ⊎_elim
          (λ (h : u ≡ p). absurd (never (b.by q r (none_left q) c d (rw h at f)).1 (ap (λ (y : ℕ). bit y r) z ∙ bit_of-zero r)))
          (λ h. x.by u q r (not_taken left p u e h) a c d f) (eq_cases u p);
    }

    pub supported3_some : (three ≡ 0 → ⊥)
        → Supported3 (clear left p) (bit_or first (2 ^ p)) (bit_or second two) (bit_or third three)
    supported3_some z = record {
      first-at = λ u e. ⊎_elim (x.first-at u)
          (λ h. let s = bit-some three z in let y = b.third_at s.0 s.1 in
          let same : u ≡ p = eqb-true u p (sym (bit-one p u) ∙ h) in
          rw same (l, (y.1.0, s.0, y.1.1, y.0, y.1.2)))
          (or_at (bit first u) _ (sym (bit-or first (2 ^ p) u) ∙ e));
      second_at = λ q e. ⊎_elim (x.second_at q) (λ h. let y = b.second_at q h in (y.0, (p, y.1.0, l, y.1.1, y.1.2)))
          (or_at (bit second q) _ (sym (bit-or second two q) ∙ e));
      third_at = λ r e. ⊎_elim (x.third_at r) (λ h. let y = b.third_at r h in (y.0, (p, y.1.0, l, y.1.1, y.1.2)))
          (or_at (bit third r) _ (sym (bit-or third three r) ∙ e));
      by = λ u q r e a c d f. ⊎_elim
          (λ (h : u ≡ p). let y = b.by q r (none_left q) c d (rw h at f) in
          (rw h (or-one-same first p), or_new second two q y.0, or_new third three r y.1))
          (λ h. let y = x.by u q r (not_taken left p u e h) a c d f in
          (or-old first (2 ^ p) u y.0, or-old second two q y.1, or-old third three r y.2))
          (eq_cases u p);
    }
