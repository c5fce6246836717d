-- The offers of 01, in which every setting passes its test. With every field selected the offers are these (02, request 7):
-- proofs/AllSelected.antt.
use Rattle.std.specs.Prelude.{◌≡◌, true, List, ℕ}
use Rattle.masks.specs.Sets.{has}
use Rattle.consistency.specs.Largest.{Test, largest}
use Rattle.consistency.specs.Problem.{Problem}
use Rattle.consistency.specs.Neighbourhood.{neighbourhood}
use Rattle.consistency.specs.Passing.{PassesOver, passes_over}

module _ (P : Problem) (k : ℕ) where
  -- ---- the offers of 01 at reach k: the largest part in which every setting passes its test in that part

  abbrev pub EachPasses : List ℕ → Type 0
  EachPasses S = (f v : ℕ) → has S f v ≡ true → PassesOver P (neighbourhood P k f) S f v

  unfoldable pub passes : Test
  passes S f v = let W = neighbourhood P k f in passes_over P W S f v

  unfoldable pub offers_all_tested : List ℕ → List ℕ
  offers_all_tested S = largest passes S
