-- What the parts of the table of the triple rules say of the problem that it holds. Assumes nothing.
use Rattle.std.specs.Prelude.{◌≡◌, refl, Bool, cond, List, ℕ, ◌+◌, ◌^◌, ◌<◌, get_or}
use Rattle.std.proofs.Math.Path.{sym, ap}
use Rattle.std.proofs.Common.{◌∙◌, ⊎_elim, lt_of_le_of_lt, arith}
use Rattle.std.proofs.Math.Bool.{true, false}
use Rattle.std.specs.Int.Bits.{bit_and, bit_or}
use Rattle.limits.specs.Limits.{most_fields, most_settings}
use Rattle.masks.specs.Tests.{never, eq_cases, and_l, and_r, and-by, or_at}
use Rattle.masks.specs.Bits.{bit, Within}
use Rattle.masks.proofs.Bits.{bit_of-zero, within-le}
use Rattle.masks.specs.Words.{clear}
use Rattle.masks.proofs.Words.{bit-and, bit-or}
use Rattle.masks.specs.Sets.{has}
use Rattle.consistency.specs.Problem.{has_field, Problem}
use Rattle.consistency.specs.Triples.{Free}
use Rattle.network.specs.TripleTable.{triple_count, triple_in, triples_with, sheet-word, problem_of, TripleTable}
use Rattle.revising.specs.Support.{or-old, or_new, not_taken}

-- ---- what a field may take

unfoldable pub free_mask : List ℕ → ℕ → List ℕ → ℕ → ℕ
free_mask T W D g = cond (bit W g) (bit_and (get_or D g 0) (get_or T (1 + g) 0)) (get_or T (1 + g) 0)

pub free-inside : (T : List ℕ) (W : ℕ) (D : List ℕ) (g : ℕ) → bit W g ≡ true
    → free_mask T W D g ≡ bit_and (get_or D g 0) (get_or T (1 + g) 0)
unfolding free_mask
free-inside T W D g e = rw e

pub free-outside : (T : List ℕ) (W : ℕ) (D : List ℕ) (g : ℕ) → bit W g ≡ false → free_mask T W D g ≡ get_or T (1 + g) 0
unfolding free_mask
free-outside T W D g e = rw e

pub free-within : (T : List ℕ) (W : ℕ) (D : List ℕ) (g : ℕ) → Within (free_mask T W D g) (get_or T (1 + g) 0)
unfolding free_mask
free-within T W D g u = go (bit W g)
  where
    go : (b : Bool) → bit (cond b (bit_and (get_or D g 0) (get_or T (1 + g) 0)) (get_or T (1 + g) 0)) u ≡ true
        → bit (get_or T (1 + g) 0) u ≡ true
    go true e = and_r (bit (get_or D g 0) u) _ (sym (bit-and (get_or D g 0) (get_or T (1 + g) 0) u) ∙ e)
    go false e = e

pub free-small : (n : ℕ) (T : List ℕ) (W : ℕ) (D : List ℕ) (g : ℕ) → TripleTable n T → g < most_fields
    → free_mask T W D g < 2 ^ most_settings
free-small n T W D g x h = lt_of_le_of_lt (within-le _ _ (free-within T W D g)) (x.small g h)

module _ (n : ℕ) (joined forward turned T : List ℕ) (W : ℕ) (D : List ℕ) (g : ℕ) (h : g < most_fields) where
  abbrev P : Problem
  P = problem_of n joined forward turned T

  on-sheet : (u : ℕ) → has (problem_of n joined forward turned T).sheet g u ≡ bit (get_or T (1 + g) 0) u
  unfolding problem_of has
  on-sheet u = ap (λ (x : ℕ). bit x u) (sheet-word T g h)

  pub free-at : (u : ℕ) → bit (free_mask T W D g) u ≡ true → Free (problem_of n joined forward turned T) W D g u
  unfolding free_mask has
  free-at u e = record { listed = on-sheet u ∙ free-within T W D g u e; there = λ b. there (bit W g) b e }
    where
      there : (b : Bool) → b ≡ true → bit (cond b (bit_and (get_or D g 0) (get_or T (1 + g) 0)) (get_or T (1 + g) 0)) u ≡ true
          → bit (get_or D g 0) u ≡ true
      there true q e = and_l _ _ (sym (bit-and (get_or D g 0) (get_or T (1 + g) 0) u) ∙ e)
      there false q e = absurd (never q refl)

  pub free-by : (u : ℕ) → Free (problem_of n joined forward turned T) W D g u → bit (free_mask T W D g) u ≡ true
  unfolding free_mask has
  free-by u x = go (bit W g) x.there
    where
      go : (b : Bool) → (b ≡ true → bit (get_or D g 0) u ≡ true)
          → bit (cond b (bit_and (get_or D g 0) (get_or T (1 + g) 0)) (get_or T (1 + g) 0)) u ≡ true
      go true s = bit-and (get_or D g 0) (get_or T (1 + g) 0) u ∙ and-by _ _ (s refl) (sym (on-sheet u) ∙ x.listed)
      go false s = sym (on-sheet u) ∙ x.listed

-- ---- the triple rules that have one of some fields: those of `left` are still to come

-- a mask of the first n fields
abbrev pub FieldsBelow : ℕ → ℕ → Type 0
FieldsBelow n fields = (f : ℕ) → bit fields f ≡ true → f < n

pub record Touching (T : List ℕ) (fields left some : ℕ) : Type 0 where
  pub at : (t : ℕ) → bit some t ≡ true → (t < triple_count T) × ((f : ℕ) × (bit fields f ≡ true) × (has_field (triple_in T t) f ≡ true))
  pub by : (f t : ℕ) → bit left f ≡ false → bit fields f ≡ true → t < triple_count T → has_field (triple_in T t) f ≡ true
      → bit some t ≡ true

module _ (T : List ℕ) (fields : ℕ) where
  -- there are none
  pub touching_none : triple_count T ≡ 0 → Touching T fields 0 0
  touching_none z = record { at = λ t e. absurd (never e (bit_of-zero t)); by = λ f t e b l. absurd (omega arith) }

  pub touching_start : Touching T fields fields 0
  touching_start = record { at = λ t e. absurd (never e (bit_of-zero t)); by = λ f t e b. absurd (never b e) }

  pub touching_turn : (n : ℕ) → TripleTable n T → (left some f : ℕ) → Touching T fields left some → bit fields f ≡ true → f < n
      → Touching T fields (clear left f) (bit_or some (triples_with T f))
  touching_turn n x left some f p b h = record {
    at = λ t e. ⊎_elim (p.at t)
        (λ q. let l = x.have-low f t h q in (l, (f, b, sym (x.have f t h l) ∙ q)))
        (or_at (bit some t) _ (sym (bit-or some (triples_with T f) t) ∙ e));
    by = λ g t e c l d. ⊎_elim
        (λ (q : g ≡ f). or_new some (triples_with T f) t (x.have f t h l ∙ (rw q at d)))
        (λ q. or-old some (triples_with T f) t (p.by g t (not_taken left f g e q) c l d)) (eq_cases g f);
  }
