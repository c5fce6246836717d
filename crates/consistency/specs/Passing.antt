-- The test of a setting over a mask of fields: singleton arc consistency. Assumes nothing.
use Rattle.std.specs.Prelude.{◌≡◌, Bool, true, false, List, ℕ}
use Rattle.std.proofs.Math.Path.{ap}
use Rattle.std.proofs.Math.Bool.{not}
use borrow.Author.Tests.{not-true}
use Rattle.masks.specs.Tests.{never, not_so, ◌⇒◌, ⇒_at, ⇒_by, all_below, all_below-at, all_below-by}
use Rattle.masks.specs.Bits.{bit}
use Rattle.masks.specs.Sets.{◌⊆◌}
use Rattle.masks.specs.Settings.{cut, empty}
use Rattle.masks.proofs.Settings.{empty-at, empty-not}
use Rattle.consistency.specs.Largest.{Test}
use Rattle.consistency.specs.Problem.{Problem, In}
use Rattle.consistency.specs.Closing.{Closed, closing}

module _ (P : Problem) where
  -- ---- no field of a mask is empty

  abbrev pub NoneEmpty : ℕ → List ℕ → Type 0
  NoneEmpty W S = (g : ℕ) → In P W g → empty S g ≡ false

  unfoldable pub none_empty : ℕ → List ℕ → Bool
  none_empty W S = all_below P.fields (λ g. bit W g ⇒ not (empty S g))

  pub none_empty-at : (W : ℕ) (S : List ℕ) → none_empty W S ≡ true → NoneEmpty W S
  unfolding none_empty
  none_empty-at W S e g i =
      not-true (empty S g) (⇒_at (bit W g) _ (all_below-at P.fields (λ g. bit W g ⇒ not (empty S g)) e g i.0) i.1)

  pub none_empty-by : (W : ℕ) (S : List ℕ) → NoneEmpty W S → none_empty W S ≡ true
  unfolding none_empty
  none_empty-by W S h = all_below-by P.fields _ (λ g l. ⇒_by (bit W g) _ (λ w. ap not (h g (l, w))))

  -- none is empty in a larger set either
  pub none_empty_mono : (W : ℕ) (S R : List ℕ) → S ⊆ R → NoneEmpty W S → NoneEmpty W R
  none_empty_mono W S R h n g i =
      let s = empty-not S g (n g i) in
      not_so (empty R g) (λ e. never (h g s.0 s.1) (empty-at R g s.0 e))

  -- ---- the test of position v of field f in S, over the fields of the mask W. At reach k (01) W is f's neighbourhood.

  -- what is left: f cut to v, closed over W
  abbrev pub left : ℕ → List ℕ → ℕ → ℕ → List ℕ
  left W S f v = closing P W (cut S f v)

  abbrev pub PassesOver : ℕ → List ℕ → ℕ → ℕ → Type 0
  PassesOver W S f v = NoneEmpty W (left W S f v)

  -- the same as a test
  unfoldable pub passes_over : ℕ → Test
  passes_over W S f v = none_empty W (closing P W (cut S f v))

  pub passes_over-at : (W : ℕ) (S : List ℕ) (f v : ℕ) → passes_over W S f v ≡ true → PassesOver W S f v
  unfolding passes_over
  passes_over-at W S f v = none_empty-at W (left W S f v)

  pub passes_over-by : (W : ℕ) (S : List ℕ) (f v : ℕ) → PassesOver W S f v → passes_over W S f v ≡ true
  unfolding passes_over
  passes_over-by W S f v = none_empty-by W (left W S f v)

  -- What shows that a setting passes: a part of the cut set, closed over W, with no field of W empty.
  pub record Witness (W : ℕ) (S : List ℕ) (f v : ℕ) (R : List ℕ) : Type 0 where
    pub inside : R ⊆ cut S f v
    pub shut : Closed P W R
    pub full : NoneEmpty W R
