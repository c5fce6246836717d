-- The offers of a set under a mask of selected fields, and wiped out (02, request 7). Assumes nothing.
--
-- `hood` gives each field the mask of the fields that its test is over: at reach k (01) it is `neighbourhood P k`. `selected` is the mask
-- of the selected fields. Every law holds for any two.
use Rattle.std.specs.Prelude.{◌≡◌, Bool, true, ◌&&◌, List, ℕ, ltb}
use Rattle.masks.specs.Tests.{◌⇒◌}
use Rattle.masks.specs.Bits.{bit}
use Rattle.masks.specs.Sets.{has}
use Rattle.masks.specs.Settings.{some_empty}
use Rattle.consistency.specs.Largest.{Test, largest}
use Rattle.consistency.specs.Problem.{Problem, In, all_fields}
use Rattle.consistency.specs.Closing.{Closed, supported}
use Rattle.consistency.specs.Passing.{PassesOver, passes_over}

module _ (P : Problem) where
  -- ---- what the offers are the largest of

  -- Partial consistency (02): closed over every field, and every setting of a selected field passes its test.
  pub record PartiallyConsistent (hood : ℕ → ℕ) (selected : ℕ) (S : List ℕ) : Type 0 where
    pub shut : Closed P (all_fields P) S
    pub passing : (f v : ℕ) → In P selected f → has S f v ≡ true → PassesOver P (hood f) S f v

  -- the same as a test of one setting: it is supported and, where its field is selected, passes
  unfoldable pub is_selected : ℕ → ℕ → Bool
  is_selected selected f = ltb f P.fields && bit selected f

  unfoldable pub stays : (ℕ → ℕ) → ℕ → Test
  stays hood selected S f v =
      let own = passes_over P (hood f) S f v in
      let asked = is_selected selected f ⇒ own in
      supported P (all_fields P) S f v && asked

  -- ---- the offers: the largest partially consistent part

  unfoldable pub offers : (ℕ → ℕ) → ℕ → List ℕ → List ℕ
  offers hood selected S = largest (stays hood selected) S

  -- wiped out (01): some field of the offers is empty, selected or not
  unfoldable pub wiped_out : (ℕ → ℕ) → ℕ → List ℕ → Bool
  wiped_out hood selected S = some_empty P.fields (offers hood selected S)
