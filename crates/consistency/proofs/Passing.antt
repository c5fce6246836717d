-- Laws of the test of a setting (specs/Passing.antt). Assumes nothing.
use Rattle.std.specs.Prelude.{◌≡◌, true, List, ℕ}
use Rattle.std.proofs.Common.{sym, ◌∙◌}
use Rattle.std.proofs.Math.Path.{ap}
use Rattle.masks.specs.Bits.{Within}
use Rattle.masks.specs.Sets.{has}
use Rattle.masks.specs.Settings.{cut}
use Rattle.masks.proofs.Settings.{cut_⊆, cut_at, cut_mono, empty-not}
use Rattle.consistency.specs.Largest.{Monotone}
use Rattle.consistency.specs.Problem.{Problem, In}
use Rattle.consistency.proofs.Closing.{closing-is, closing_mono}
use Rattle.consistency.specs.Closing.{closed_wider}
use Rattle.consistency.specs.Passing.{NoneEmpty, none_empty_mono, left, PassesOver, passes_over, passes_over-at, passes_over-by, Witness}

module _ (P : Problem) where
  -- ---- the test of position v of field f in S, over the fields of the mask W. At reach k (01) W is f's neighbourhood.

  pub witness_at : (W : ℕ) (S : List ℕ) (f v : ℕ) → PassesOver P W S f v → Witness P W S f v (left P W S f v)
  witness_at W S f v p = let c = closing-is P W (cut S f v) in record { inside = c.inside; shut = c.good; full = p }

  pub witness_by : (W : ℕ) (S : List ℕ) (f v : ℕ) (R : List ℕ) → Witness P W S f v R → PassesOver P W S f v
  witness_by W S f v R w = none_empty_mono P W R (left P W S f v) ((closing-is P W (cut S f v)).most R w.inside w.shut) w.full

  pub passes_over_mono : (W : ℕ) → Monotone (passes_over P W)
  passes_over_mono W S R h f v e =
      passes_over-by P W R f v
      (none_empty_mono P W (left P W S f v) (left P W R f v) (closing_mono P W (cut S f v) (cut R f v) (cut_mono S R f v h))
      (passes_over-at P W S f v e))

  -- a setting that passes over a mask that has its field is itself left
  pub passing-left : (W : ℕ) (S : List ℕ) (f v : ℕ) → In P W f → PassesOver P W S f v → has (left P W S f v) f v ≡ true
  passing-left W S f v i p =
      let w = witness_at W S f v p in
      let s = empty-not (left P W S f v) f (w.full f i) in
      ap (has (left P W S f v) f) (sym (cut_at S f v s.0 (w.inside f s.0 s.1))) ∙ s.1

  -- a setting that passes over a mask leaves none of its fields empty
  pub passing-full : (W : ℕ) (S : List ℕ) (f v : ℕ) → PassesOver P W S f v → NoneEmpty P W S
  passing-full W S f v p =
      none_empty_mono P W (left P W S f v) S (λ g u e. cut_⊆ S f v g u ((witness_at W S f v p).inside g u e)) p

  -- over more fields it asks more
  pub passing_wider : (W Z : ℕ) → Within W Z → (S : List ℕ) (f v : ℕ) → PassesOver P Z S f v → PassesOver P W S f v
  passing_wider W Z n S f v p =
      let w = witness_at Z S f v p in
      witness_by W S f v (left P Z S f v) (record {
        inside = w.inside;
        shut = closed_wider P W Z n (left P Z S f v) w.shut;
        full = λ g i. w.full g (i.0, n g i.1);
      })
