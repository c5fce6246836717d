-- How the offers under different selections and at different reaches lie inside one another. Assumes nothing.
use Rattle.std.specs.Prelude.{◌≡◌, List, ℕ, ◌≤◌}
use Rattle.std.proofs.Common.{sym, ap, ◌∙◌}
use Rattle.std.proofs.Math.Decide.{le_ind}
use Rattle.masks.specs.Tests.{never}
use Rattle.masks.specs.Bits.{bit, Within}
use Rattle.masks.proofs.Bits.{bit_of-zero}
use Rattle.masks.specs.Sets.{◌⊆◌}
use Rattle.masks.proofs.Sets.{⊆_antisymm}
use Rattle.consistency.specs.Largest.{IsLargest_stricter, IsLargest_iff}
use Rattle.consistency.specs.Problem.{Problem, In, all_fields}
use Rattle.consistency.specs.Closing.{Closed, closing}
use Rattle.consistency.proofs.Closing.{closing-is}
use Rattle.consistency.specs.Neighbourhood.{neighbourhood}
use Rattle.consistency.proofs.Neighbourhood.{neighbourhood-more}
use Rattle.consistency.proofs.Passing.{passing_wider}
use Rattle.consistency.specs.Offers.{PartiallyConsistent, offers}
use Rattle.consistency.proofs.Offers.{offers-is, offers_unique}

module _ (P : Problem) where
  -- ---- more selected fields and wider neighbourhoods ask more, so they offer no more

  -- for the fields that are selected, `wide` has what `hood` has
  abbrev Wider : ℕ → (ℕ → ℕ) → (ℕ → ℕ) → Type 0
  Wider selected hood wide = (f : ℕ) → In P selected f → Within (hood f) (wide f)

  module _ (hood wide : ℕ → ℕ) (selected more : ℕ) (h : Within selected more) (n : Wider selected hood wide) where
    consistent_less : (S : List ℕ) → PartiallyConsistent P wide more S → PartiallyConsistent P hood selected S
    consistent_less S c = record {
      shut = c.shut;
      passing = λ f v i e. passing_wider P (hood f) (wide f) (n f i) S f v (c.passing f v (i.0, h f i.1) e);
    }

    offers-less : (S : List ℕ) → offers P wide more S ⊆ offers P hood selected S
    offers-less S =
        IsLargest_stricter (PartiallyConsistent P wide more) (PartiallyConsistent P hood selected) consistent_less S
        (offers P wide more S) (offers P hood selected S) (offers-is P wide more S) (offers-is P hood selected S)

  -- THE THEOREM: a selection that includes another offers no setting that the other doesn't (02, request 7).
  pub offers-more-selected : (hood : ℕ → ℕ) (selected more : ℕ) → Within selected more → (S : List ℕ)
      → offers P hood more S ⊆ offers P hood selected S
  offers-more-selected hood selected more h = offers-less hood hood selected more h (λ f i v e. e)

  -- with no field selected the offers are the closing
  pub offers-none-selected : (hood : ℕ → ℕ) (S : List ℕ) → offers P hood 0 S ≡ closing P (all_fields P) S
  offers-none-selected hood S =
      offers_unique P hood 0 S (closing P (all_fields P) S) (IsLargest_iff (Closed P (all_fields P)) (PartiallyConsistent P hood 0)
      (λ R. (λ c. record { shut = c; passing = λ f v i e. absurd (never i.1 (bit_of-zero f)) }, λ c. c.shut)) S _
      (closing-is P (all_fields P) S))

  -- only the neighbourhoods of selected fields matter
  pub offers-same-hoods : (hood wide : ℕ → ℕ) (selected : ℕ) → ((f : ℕ) → In P selected f → hood f ≡ wide f) → (S : List ℕ)
      → offers P hood selected S ≡ offers P wide selected S
  offers-same-hoods hood wide selected q S =
      ⊆_antisymm (offers P hood selected S) (offers P wide selected S)
      ((offers-is P hood selected S).sized ∙ sym (offers-is P wide selected S).sized)
      (offers-less wide hood selected selected (λ f e. e) (λ f i v e. ap (λ (W : ℕ). bit W v) (q f i) ∙ e) S)
      (offers-less hood wide selected selected (λ f e. e) (λ f i v e. ap (λ (W : ℕ). bit W v) (sym (q f i)) ∙ e) S)

  -- ---- a larger reach offers no more

  neighbourhood_wider : (k j : ℕ) → k ≤ j → (f : ℕ) → Within (neighbourhood P k f) (neighbourhood P j f)
  neighbourhood_wider k j h f =
      le_ind (λ (m : ℕ). Within (neighbourhood P k f) (neighbourhood P m f)) (λ v e. e)
      (λ m l i v e. neighbourhood-more P m f v (i v e)) j h

  pub offers-reach : (k j : ℕ) → k ≤ j → (selected : ℕ) (S : List ℕ)
      → offers P (neighbourhood P j) selected S ⊆ offers P (neighbourhood P k) selected S
  offers-reach k j h selected =
      offers-less (neighbourhood P k) (neighbourhood P j) selected selected (λ f e. e) (λ f i. neighbourhood_wider k j h f)
