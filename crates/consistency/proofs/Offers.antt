-- Laws of the offers, and of wiped out (specs/Offers.antt). Assumes nothing.
use Rattle.std.specs.Prelude.{◌≡◌, ◌↔◌, true, false, List, ℕ, ◌<◌, ltb, length}
use Rattle.std.proofs.Common.{ltb-true, lt-ltb}
use Rattle.masks.specs.Tests.{never, not_so, and_l, and_r, and-by, ⇒_at, ⇒_by}
use Rattle.masks.specs.Sets.{has, ◌⊆◌}
use Rattle.masks.specs.Settings.{lose, empty, some_empty-at, some_empty-by}
use Rattle.masks.proofs.Settings.{empty-at, empty-by}
use Rattle.consistency.specs.Largest.{IsLargest, IsLargest_mono, IsLargest_iff, IsLargest_unique, Test, Monotone, AllPass, largest-is}
use Rattle.consistency.proofs.Runs.{largest-lose, largest-done, largest_between, run-largest}
use Rattle.consistency.specs.Runs.{Run}
use Rattle.consistency.specs.Problem.{Problem, In, all_fields}
use Rattle.consistency.specs.Closing.{supported, closing}
use Rattle.consistency.proofs.Closing.{supported-at, supported-by, supported_mono, closing-is}
use Rattle.consistency.specs.Passing.{passes_over, passes_over-at, passes_over-by}
use Rattle.consistency.proofs.Passing.{passes_over_mono, passing-full}
use Rattle.consistency.specs.Offers.{PartiallyConsistent, is_selected, stays, offers, wiped_out}

module _ (P : Problem) where
  -- ---- what the offers are the largest of

  selected-at : (selected f : ℕ) → is_selected P selected f ≡ true → In P selected f
  unfolding is_selected
  selected-at selected f e = (ltb-true f P.fields (and_l _ _ e), and_r (ltb f P.fields) _ e)

  selected-by : (selected f : ℕ) → In P selected f → is_selected P selected f ≡ true
  unfolding is_selected
  selected-by selected f i = and-by _ _ (lt-ltb f P.fields i.0) i.1

  module _ (hood : ℕ → ℕ) (selected : ℕ) where
    abbrev test : Test
    test = stays P hood selected

    stays-supported : (S : List ℕ) (f v : ℕ) → test S f v ≡ true → supported P (all_fields P) S f v ≡ true
    unfolding stays
    stays-supported S f v e = and_l _ _ e

    stays-passes : (S : List ℕ) (f v : ℕ) → In P selected f → test S f v ≡ true → passes_over P (hood f) S f v ≡ true
    unfolding stays
    stays-passes S f v i e =
        ⇒_at (is_selected P selected f) _ (and_r (supported P (all_fields P) S f v) _ e) (selected-by selected f i)

    stays_by : (S : List ℕ) (f v : ℕ) → supported P (all_fields P) S f v ≡ true
        → (In P selected f → passes_over P (hood f) S f v ≡ true) → test S f v ≡ true
    unfolding stays
    stays_by S f v s p = and-by _ _ s (⇒_by (is_selected P selected f) _ (λ q. p (selected-at selected f q)))

    stays_mono : Monotone test
    stays_mono S R h f v e =
        stays_by R f v (supported_mono P (all_fields P) S R h f v (stays-supported S f v e))
        (λ i. passes_over_mono P (hood f) S R h f v (stays-passes S f v i e))

    all_stay : (S : List ℕ) → AllPass test S ↔ PartiallyConsistent P hood selected S
    all_stay S = (
      λ p. record {
        shut = λ f v e. supported-at P (all_fields P) S f v (stays-supported S f v (p f v e));
        passing = λ f v i e. passes_over-at P (hood f) S f v (stays-passes S f v i (p f v e));
      },
      λ c f v e. stays_by S f v (supported-by P (all_fields P) S f v (c.shut f v e))
          (λ i. passes_over-by P (hood f) S f v (c.passing f v i e)),
    )

  -- ---- the offers: the largest partially consistent part

  module _ (hood : ℕ → ℕ) (selected : ℕ) where
    abbrev Good : List ℕ → Type 0
    Good = PartiallyConsistent P hood selected

    abbrev found : List ℕ → List ℕ
    found = offers P hood selected

    pub offers-is : (S : List ℕ) → IsLargest (PartiallyConsistent P hood selected) S (offers P hood selected S)
    unfolding offers
    offers-is S = IsLargest_iff (AllPass (test hood selected)) Good (all_stay hood selected) S _
        (largest-is (test hood selected) (stays_mono hood selected) S)

    pub offers_unique : (S L : List ℕ) → IsLargest (PartiallyConsistent P hood selected) S L → offers P hood selected S ≡ L
    offers_unique S L l = IsLargest_unique Good S (found S) L (offers-is S) l

    pub offers_mono : (S R : List ℕ) → S ⊆ R → offers P hood selected S ⊆ offers P hood selected R
    offers_mono S R h = IsLargest_mono Good S R (found S) (found R) h (offers-is S) (offers-is R)

    pub offers_between : (S U : List ℕ) → length U ≡ length S → offers P hood selected S ⊆ U → U ⊆ S
        → offers P hood selected U ≡ offers P hood selected S
    unfolding offers
    offers_between = largest_between (test hood selected) (stays_mono hood selected)

    -- ---- what an engine uses

    -- a setting of a selected field that fails in a set that holds the offers is no offer
    pub offers-lose : (S U : List ℕ) → offers P hood selected S ⊆ U → (f v : ℕ) → In P selected f → passes_over P (hood f) U f v ≡ false
        → offers P hood selected S ⊆ lose U f v
    unfolding offers
    offers-lose S U h f v i e =
        largest-lose (test hood selected) (stays_mono hood selected) S U h f v
        (not_so (test hood selected U f v) (λ q. never (stays-passes hood selected U f v i q) e))

    -- what holds the offers holds them when it is closed too, so closing first alters none
    pub offers_in_closing : (S U : List ℕ) → offers P hood selected S ⊆ U → offers P hood selected S ⊆ closing P (all_fields P) U
    offers_in_closing S U h = (closing-is P (all_fields P) U).most (found S) h (offers-is S).good.shut

    pub offers_of-closing : (S : List ℕ) → offers P hood selected (closing P (all_fields P) S) ≡ offers P hood selected S
    offers_of-closing S =
        let c = closing-is P (all_fields P) S in
        offers_between S (closing P (all_fields P) S) c.sized (offers_in_closing S S (offers-is S).inside) c.inside

    -- a partially consistent part that holds the offers is the offers
    pub offers-done : (S U : List ℕ) → length U ≡ length S → offers P hood selected S ⊆ U → U ⊆ S → PartiallyConsistent P hood selected U
        → U ≡ offers P hood selected S
    unfolding offers
    offers-done S U e h i c = largest-done (test hood selected) (stays_mono hood selected) S U e h i ((all_stay hood selected U).1 c)

    -- whatever its order, a run that loses unsupported and failing settings and ends in a partially consistent set has reached
    -- the offers
    pub offers-run : {S R : List ℕ} → Run (stays P hood selected) S R → PartiallyConsistent P hood selected R → R ≡ offers P hood selected S
    unfolding offers
    offers-run {R = R} r c = run-largest (test hood selected) (stays_mono hood selected) r ((all_stay hood selected R).1 c)

    -- ---- wiped out

    pub wiped_out-at : (S : List ℕ) → wiped_out P hood selected S ≡ true
        → (f : ℕ) × (f < P.fields) × (empty (offers P hood selected S) f ≡ true)
    unfolding wiped_out
    wiped_out-at S = some_empty-at P.fields (found S)

    -- a set that holds the offers and has an empty field shows it
    pub wiped_out-by : (S U : List ℕ) (f : ℕ) → f < P.fields → offers P hood selected S ⊆ U → empty U f ≡ true
        → wiped_out P hood selected S ≡ true
    unfolding wiped_out
    wiped_out-by S U f l h e =
        some_empty-by P.fields (found S) f l (empty-by (found S) f (λ v i. never (h f v i) (empty-at U f v e)))

    -- a field with no offer leaves none to the selected fields whose neighbourhood it is in
    pub offers_wipe : (S : List ℕ) (f v g : ℕ) → In P selected f → In P (hood f) g → empty (offers P hood selected S) g ≡ true
        → has (offers P hood selected S) f v ≡ false
    offers_wipe S f v g i j z =
        not_so (has (found S) f v) (λ e.
        never z (passing-full P (hood f) (found S) f v ((offers-is S).good.passing f v i e) g j))
