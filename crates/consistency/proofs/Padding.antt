-- A set with empty fields added has the same closing and the same offers, with those empty fields added. Assumes nothing.
--
-- The definitions take a set of as many masks as there are fields; code keeps as many as there may be, of which those past the last field
-- are 0.
use Rattle.std.specs.Prelude.{◌≡◌, List, ℕ, ◌+◌, length}
use Rattle.std.proofs.Common.{sym, ap, ◌∙◌}
use Rattle.masks.specs.Sets.{◌⊆◌, ⊆_trans, pad, length-pad, has-pad}
use Rattle.masks.proofs.Sets.{⊆_antisymm}
use Rattle.consistency.specs.Problem.{Problem}
use Rattle.consistency.specs.Closing.{closing}
use Rattle.consistency.proofs.Closing.{closing-is, closing_mono}
use Rattle.consistency.specs.Offers.{offers}
use Rattle.consistency.proofs.Offers.{offers-is, offers_mono}

pad_⊆ : (n : ℕ) (S : List ℕ) → pad n S ⊆ S
pad_⊆ n S f v e = sym (has-pad n S f v) ∙ e

⊆_pad : (n : ℕ) (S : List ℕ) → S ⊆ pad n S
⊆_pad n S f v e = has-pad n S f v ∙ e

-- a monotone function on sets that keeps the number of masks
module _ (F : List ℕ → List ℕ) (sized : (S : List ℕ) → length (F S) ≡ length S) (mono : (S R : List ℕ) → S ⊆ R → F S ⊆ F R) where
  pad_commutes : (n : ℕ) (S : List ℕ) → F (pad n S) ≡ pad n (F S)
  pad_commutes n S =
      ⊆_antisymm (F (pad n S)) (pad n (F S))
      (sized (pad n S) ∙ length-pad n S ∙ ap (λ (k : ℕ). k + n) (sym (sized S)) ∙ sym (length-pad n (F S)))
      (⊆_trans (F (pad n S)) (F S) (pad n (F S)) (mono (pad n S) S (pad_⊆ n S)) (⊆_pad n (F S)))
      (⊆_trans (pad n (F S)) (F S) (F (pad n S)) (pad_⊆ n (F S)) (mono S (pad n S) (⊆_pad n S)))

module _ (P : Problem) where
  pub closing-pad : (W n : ℕ) (S : List ℕ) → closing P W (pad n S) ≡ pad n (closing P W S)
  closing-pad W = pad_commutes (closing P W) (λ S. (closing-is P W S).sized) (closing_mono P W)

  pub offers-pad : (hood : ℕ → ℕ) (selected n : ℕ) (S : List ℕ) → offers P hood selected (pad n S) ≡ pad n (offers P hood selected S)
  offers-pad hood selected =
      pad_commutes (offers P hood selected) (λ S. (offers-is P hood selected S).sized) (offers_mono P hood selected)
