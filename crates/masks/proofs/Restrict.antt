-- Laws of a set's part over some fields (specs/Restrict.antt). Assumes nothing.
use Rattle.std.specs.Prelude.{◌≡◌, true, List, ℕ, ◌^◌, ◌<◌, length, get_or}
use Rattle.std.proofs.Common.{◌∙◌}
use Rattle.std.specs.Int.Bits.{bit_and}
use Rattle.masks.specs.Tests.{iff_eq, and_l, and_r, and-by}
use Rattle.masks.specs.Bits.{bit}
use Rattle.masks.proofs.Bits.{bit_ext, bit_bound}
use Rattle.masks.proofs.Words.{bit-and}
use Rattle.masks.specs.Floods.{flood}
use Rattle.masks.proofs.Floods.{flood-at, flood-by}
use Rattle.masks.specs.Sets.{has, ◌⊆◌, length-only}
use Rattle.masks.proofs.Sets.{only_⊆, only_at, only-by}
use Rattle.masks.specs.Restrict.{restrict}

module _ (W : ℕ) (S : List ℕ) where
  pub length-restrict : length (restrict W S) ≡ length S
  unfolding restrict
  length-restrict = length-only _ S

  pub restrict_⊆ : restrict W S ⊆ S
  unfolding restrict
  restrict_⊆ = only_⊆ _ S

  pub restrict-at : (g u : ℕ) → has (restrict W S) g u ≡ true → bit W g ≡ true
  unfolding restrict
  restrict-at g u e = only_at (λ g u. bit W g) S g u e

  pub restrict-by : (g u : ℕ) → has S g u ≡ true → bit W g ≡ true → has (restrict W S) g u ≡ true
  unfolding restrict
  restrict-by g u e w = only-by (λ g u. bit W g) S g u e w

  -- its masks, as code spells them
  pub restrict-mask : (g : ℕ) → get_or S g 0 < 2 ^ 32 → bit_and (get_or S g 0) (flood W g) ≡ get_or (restrict W S) g 0
  unfolding has
  restrict-mask g h = bit_ext _ _ (λ u. bit-and (get_or S g 0) (flood W g) u ∙ iff_eq _ _
      (λ e. restrict-by g u (and_l _ _ e) (flood-at W g u (and_r (bit (get_or S g 0) u) _ e)))
      (λ e. let s = restrict_⊆ g u e in and-by _ _ s (flood-by W g u (bit_bound 32 (get_or S g 0) u h s) (restrict-at g u e))))
