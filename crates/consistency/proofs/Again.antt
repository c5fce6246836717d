-- While all that a passed test left is there, the test passes and leaves just that (02, request 2). Assumes nothing.
use Rattle.std.specs.Prelude.{◌≡◌, true, List, ℕ, length}
use Rattle.std.proofs.Common.{◌∙◌, sym}
use Rattle.masks.specs.Sets.{◌⊆◌}
use Rattle.masks.proofs.Sets.{⊆_antisymm}
use Rattle.masks.specs.Settings.{cut}
use Rattle.masks.proofs.Settings.{cut_mono}
use Rattle.masks.proofs.Restrict.{restrict_⊆, restrict-at, restrict-by}
use Rattle.consistency.specs.Problem.{Problem}
use Rattle.consistency.proofs.Closing.{closing-is, closing_mono}
use Rattle.consistency.specs.Neighbourhood.{neighbourhood}
use Rattle.consistency.specs.Passing.{left, passes_over, passes_over-by}
use Rattle.consistency.proofs.Passing.{witness_by}
use Rattle.consistency.specs.Left.{left_in}
use Rattle.consistency.proofs.Left.{length-left_in, shows}

module _ (P : Problem) where
  module _ (W : ℕ) (S T : List ℕ) (f v : ℕ) (passed : passes_over P W S f v ≡ true) (there : left_in P W S f v ⊆ T) where
    pub passes-still : passes_over P W T f v ≡ true
    passes-still = passes_over-by P W T f v (witness_by P W T f v (left_in P W S f v) (shows P W S T f v passed there))

    -- in a part of S it leaves just that
    leaves_just : length T ≡ length S → T ⊆ S → left_in P W T f v ≡ left_in P W S f v
    leaves_just n h =
        ⊆_antisymm (left_in P W T f v) (left_in P W S f v) (length-left_in P W T f v ∙ n ∙ sym (length-left_in P W S f v))
        (λ g u e. restrict-by W (left P W S f v) g u (less g u (restrict_⊆ W (left P W T f v) g u e)) (restrict-at W _ g u e))
        (λ g u e. restrict-by W (left P W T f v) g u (more g u e) (restrict-at W _ g u e))
      where
        less : left P W T f v ⊆ left P W S f v
        less = closing_mono P W (cut T f v) (cut S f v) (cut_mono T S f v h)

        more : left_in P W S f v ⊆ left P W T f v
        more = let w = shows P W S T f v passed there in (closing-is P W (cut T f v)).most (left_in P W S f v) w.inside w.shut

  -- THE THEOREM, over any mask: T is inside S, the test of position v of field f over W passed in S, and T still has every setting that it
  -- left in W. Then it passes in T, and leaves just those settings in W.
  pub passes_over_again : (W : ℕ) (S T : List ℕ) (f v : ℕ) → length T ≡ length S → T ⊆ S → passes_over P W S f v ≡ true
      → left_in P W S f v ⊆ T
      → (passes_over P W T f v ≡ true) × (left_in P W T f v ≡ left_in P W S f v)
  passes_over_again W S T f v n h e t = (passes-still W S T f v e t, leaves_just W S T f v e t n h)

  -- At every reach: W is f's neighbourhood.
  pub passes_again : (k : ℕ) (S T : List ℕ) (f v : ℕ) → length T ≡ length S → T ⊆ S
      → passes_over P (neighbourhood P k f) S f v ≡ true → left_in P (neighbourhood P k f) S f v ⊆ T
      → (passes_over P (neighbourhood P k f) T f v ≡ true) × (left_in P (neighbourhood P k f) T f v ≡ left_in P (neighbourhood P k f) S f v)
  passes_again k S T f v = passes_over_again (neighbourhood P k f) S T f v
