-- Whatever its order, a run that loses failing settings ends in the largest (specs/Runs.antt). Assumes nothing.
use Rattle.std.specs.Prelude.{◌≡◌, false, List, ℕ, length}
use Rattle.std.proofs.Common.{◌∙◌}
use Rattle.masks.specs.Tests.{never}
use Rattle.masks.specs.Sets.{◌⊆◌}
use Rattle.masks.specs.Settings.{lose, length-lose}
use Rattle.masks.proofs.Settings.{lose_⊆, lose-by}
use Rattle.consistency.specs.Largest.{IsLargest_unique, IsLargest-self, IsLargest_between, Test, Monotone, AllPass, largest, largest-is}
use Rattle.consistency.specs.Runs.{Run, stop, step}

module _ (t : Test) (mono : Monotone t) where
  -- A setting that fails in a set that holds the largest is not in the largest, and the set may lose it.
  pub largest-lose : (S U : List ℕ) → largest t S ⊆ U → (f v : ℕ) → t U f v ≡ false → largest t S ⊆ lose U f v
  largest-lose S U h f v e g u i =
      lose-by U f v g u (h g u i)
      (λ p q. never (mono (largest t S) U h f v ((largest-is t mono S).good f v (rw (p, q) at i))) e)

  -- A part that holds the largest, and in which all pass, is the largest.
  pub largest-done : (S U : List ℕ) → length U ≡ length S → largest t S ⊆ U → U ⊆ S → AllPass t U → U ≡ largest t S
  largest-done S U e h k p =
      IsLargest_unique (AllPass t) U U (largest t S) (IsLargest-self (AllPass t) U p)
      (IsLargest_between (AllPass t) S U (largest t S) e h k (largest-is t mono S))

  -- What lies between a set and its largest has the same largest.
  pub largest_between : (S U : List ℕ) → length U ≡ length S → largest t S ⊆ U → U ⊆ S → largest t U ≡ largest t S
  largest_between S U e h k =
      IsLargest_unique (AllPass t) U (largest t U) (largest t S) (largest-is t mono U)
      (IsLargest_between (AllPass t) S U (largest t S) e h k (largest-is t mono S))

-- Whatever its order, a run that ends where all pass has reached the largest.
pub run-largest : (t : Test) → Monotone t → {S R : List ℕ} → Run t S R → AllPass t R → R ≡ largest t S
run-largest t mono {S} stop p =
    IsLargest_unique (AllPass t) S S (largest t S) (IsLargest-self (AllPass t) S p) (largest-is t mono S)
run-largest t mono (step {S = S} f v e r) p =
    run-largest t mono r p
    ∙ largest_between t mono S (lose S f v) (length-lose S f v) (largest-lose t mono S S (largest-is t mono S).inside f v e) (lose_⊆ S f v)
