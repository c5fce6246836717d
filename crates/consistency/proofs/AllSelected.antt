-- With every field selected the offers are those of 01 (02, request 7). Assumes nothing.
use Rattle.std.specs.Prelude.{◌≡◌, ◌↔◌, true, List, ℕ, ◌≤◌, ◌<◌, length}
use Rattle.masks.specs.Bits.{Within}
use Rattle.masks.proofs.Settings.{cut_⊆}
use Rattle.consistency.specs.Largest.{IsLargest, IsLargest_iff, Monotone, AllPass, largest-is}
use Rattle.consistency.specs.Problem.{has_field, Problem, triple_at, TriplesIn, field_below, OnFields, all_fields, in_all_fields}
use Rattle.consistency.specs.Problem.{linked-rule, linked-triple}
use Rattle.consistency.specs.Triples.{Free, together-free}
use Rattle.consistency.specs.Closing.{Closed}
use Rattle.consistency.specs.Neighbourhood.{neighbourhood}
use Rattle.consistency.proofs.Neighbourhood.{neighbourhood-self, neighbourhood-linked}
use Rattle.consistency.specs.Passing.{passes_over-at, passes_over-by, left, Witness}
use Rattle.consistency.proofs.Passing.{passes_over_mono, witness_at, passing-left}
use Rattle.consistency.specs.Offers.{offers}
use Rattle.consistency.proofs.Offers.{offers_unique}
use Rattle.consistency.specs.AllSelected.{EachPasses, passes, offers_all_tested}

module _ (P : Problem) (k : ℕ) where
  -- ---- the offers of 01 at reach k: the largest part in which every setting passes its test in that part

  passes_mono : Monotone (passes P k)
  unfolding passes
  passes_mono S R h f v = passes_over_mono P (neighbourhood P k f) S R h f v

  all_passes : (S : List ℕ) → AllPass (passes P k) S ↔ EachPasses P k S
  unfolding passes
  all_passes S = (
    λ p f v e. passes_over-at P (neighbourhood P k f) S f v (p f v e),
    λ p f v e. passes_over-by P (neighbourhood P k f) S f v (p f v e),
  )

  pub all_tested-is : (S : List ℕ) → IsLargest (EachPasses P k) S (offers_all_tested P k S)
  unfolding offers_all_tested
  all_tested-is S = IsLargest_iff (AllPass (passes P k)) (EachPasses P k) all_passes S _ (largest-is (passes P k) passes_mono S)

  module _ (least : 1 ≤ k) (drafts : TriplesIn P) where
    -- a set in which every setting passes is closed
    passing_closed : (S : List ℕ) → EachPasses P k S → Closed P (all_fields P) S
    passing_closed S p f v e i =
        let self = neighbourhood-self P k f i.0 in
        let s = w.shut f v (passing-left P W S f v self (p f v e)) self in
        record {
          rules = λ g j q.
              let c = s.rules g (neighbourhood-linked P k f g least i.0 j.0 (linked-rule P f g q)) q in
              (c.0, cut_⊆ S f v g c.0 (w.inside g c.0 c.1), c.2);
          triples = λ t l q. together-free P W (all_fields P) (left P W S f v) S (triple_at P t) f v (still t l q) (s.triples t l q);
        }
      where
        W : ℕ
        W = neighbourhood P k f

        w : Witness P W S f v (left P W S f v)
        w = witness_at P W S f v (p f v e)

        -- the other fields of a triple rule of f are in W
        still : (t : ℕ) → t < length P.triples → has_field (triple_at P t) f ≡ true → (g : ℕ) → has_field (triple_at P t) g ≡ true → (u : ℕ)
            → Free P W (left P W S f v) g u → Free P (all_fields P) S g u
        still t l q g x u y =
            let j = neighbourhood-linked P k f g least i.0 (field_below P (triple_at P t) (drafts t l) g x)
            (linked-triple P f g t l q x) in
            record { listed = y.listed; there = λ _. cut_⊆ S f v g u (w.inside g u (y.there j.1)) }

    -- THE THEOREM: with every field selected the offers are those of 01.
    pub offers_all_selected : (selected : ℕ) → Within (all_fields P) selected → (S : List ℕ) → OnFields P S
        → offers P (neighbourhood P k) selected S ≡ offers_all_tested P k S
    offers_all_selected selected every S on =
        let u = all_tested-is S in
        offers_unique P (neighbourhood P k) selected S (offers_all_tested P k S) (record {
          sized = u.sized;
          inside = u.inside;
          good = record { shut = passing_closed (offers_all_tested P k S) u.good; passing = λ f v i e. u.good f v e };
          most = λ R h c. u.most R h (λ f v e.
              let i = in_all_fields P f (on f v (h f v e)) in c.passing f v (i.0, every f i.1) e);
        })
