-- The copy of the counts, made again: words copied towards one field after the other. Assumes nothing.
use Rattle.std.specs.Prelude.{◌≡◌, refl, ◌⊎◌, List, ℕ, ◌+◌, ◌-◌, ◌*◌, ◌/◌, ◌≤◌, ◌<◌, ltb, length, get_or, set}
use Rattle.std.proofs.Common.{sym, ap, ◌∙◌, inl, inr, ⊎_elim, eq-or-lt_of_le, arith, length-set, ext_get_or, get_or-set_same}
use Rattle.std.proofs.Common.{get_or-set_other, ltb-true, ltb-false}
use Rattle.limits.specs.Limits.{most_fields, counts_words, counter_words}
use Rattle.masks.specs.Tests.{bool_cases, eq_cases}
use Rattle.masks.specs.Bits.{bit}
use Rattle.masks.proofs.Bits.{bit_of-zero}
use Rattle.masks.specs.Words.{clear}
use Rattle.masks.proofs.Words.{clear-other}
use Rattle.counter.specs.Counts.{OnlyTowards}
use Rattle.pruning.specs.Prune.{OnlySpent}

-- the first k words of the counts towards j are those of C, and no word changed but those towards j
pub record Copied (C : List ℕ) (j : ℕ) (R : List ℕ) (k : ℕ) (Q : List ℕ) : Type 0 where
  pub sized : length Q ≡ length R
  pub here : (q : ℕ) → q < k → get_or Q (j * counts_words + q) 0 ≡ get_or C (j * counts_words + q) 0
  pub there : OnlyTowards j R Q

module _ (C : List ℕ) (j : ℕ) (R : List ℕ) where
  pub copied-start : Copied C j R 0 R
  copied-start = record { sized = refl; here = λ q l. absurd (omega arith); there = λ q o. refl }

  pub copied-turn : (k : ℕ) (Q : List ℕ) (x : ℕ) → k < counts_words → j * counts_words + k < length Q
      → x ≡ get_or C (j * counts_words + k) 0
      → Copied C j R k Q → Copied C j R (k + 1) (set Q (j * counts_words + k) x)
  copied-turn k Q x h l e p = record {
    sized = length-set Q _ x ∙ p.sized;
    here = λ q m. ⊎_elim
        (λ (z : q ≡ k). rw z (get_or-set_same Q (j * counts_words + k) x 0 l ∙ e))
        (λ z. get_or-set_other Q (j * counts_words + k) (j * counts_words + q) x 0 (λ y. absurd (omega arith)) ∙ p.here q z)
        (eq-or-lt_of_le (let y : q ≤ k = omega arith in y));
    there = λ q o. get_or-set_other Q (j * counts_words + k) q x 0 (λ y. ⊎_elim (λ z. omega arith) (λ z. omega arith) o) ∙ p.there q o;
  }

-- one field fewer differs
pub recovered_turn : (left : ℕ) (C R : List ℕ) (j : ℕ) (Q : List ℕ) → OnlySpent left C R → Copied C j R counts_words Q
    → OnlySpent (clear left j) C Q
recovered_turn left C R j Q p c = record {
  same = λ g e q l h. ⊎_elim
      (λ (z : g ≡ j). let y : j * counts_words + (q - j * counts_words) ≡ q = omega arith in
      ap (λ (x : ℕ). get_or Q x 0) (sym y) ∙ c.here (q - j * counts_words) (omega arith) ∙ ap (λ (x : ℕ). get_or C x 0) y)
      (λ z. c.there q (apart g q l h z) ∙ p.same g (sym (clear-other left j g z) ∙ e) q l h) (eq_cases g j);
}
  where
    apart : (g q : ℕ) → g * counts_words ≤ q → q < g * counts_words + counts_words → (g ≡ j → ⊥)
        → (q < j * counts_words) ⊎ (j * counts_words + counts_words ≤ q)
    apart g q l h d = ⊎_elim (λ z. let y = ltb-true g j z in inl (omega arith))
        (λ z. let y = ltb-false g j z in inr (omega arith)) (bool_cases (ltb g j))

-- none differs
pub recovered_end : (left : ℕ) (C R : List ℕ) → left ≡ 0 → length C ≡ counter_words → length R ≡ counter_words → OnlySpent left C R → R ≡ C
recovered_end left C R z lc lr p =
    ext_get_or 0 R C (lr ∙ sym lc)
    (λ q l. p.same (q / counts_words) (ap (λ (x : ℕ). bit x (q / counts_words)) z ∙ bit_of-zero (q / counts_words))
    q (omega arith) (omega arith))
