-- What a passed test left shows that it passes in every set that has all of it. Assumes nothing.
use Rattle.std.specs.Prelude.{◌≡◌, true, List, ℕ, length}
use Rattle.std.proofs.Common.{◌∙◌}
use Rattle.masks.specs.Tests.{never, not_so}
use Rattle.masks.specs.Sets.{◌⊆◌}
use Rattle.masks.specs.Settings.{cut, length_cut, empty}
use Rattle.masks.proofs.Settings.{cut_at, cut_by, empty-at, empty-not}
use Rattle.masks.proofs.Restrict.{length-restrict, restrict_⊆, restrict-by}
use Rattle.consistency.specs.Problem.{Problem, triple_at}
use Rattle.consistency.specs.Triples.{together-free}
use Rattle.consistency.proofs.Closing.{closing-is}
use Rattle.consistency.specs.Passing.{left, passes_over, passes_over-at, Witness}
use Rattle.consistency.proofs.Passing.{witness_at}
use Rattle.consistency.specs.Left.{left_in}

module _ (P : Problem) where
  pub length-left_in : (W : ℕ) (S : List ℕ) (f v : ℕ) → length (left_in P W S f v) ≡ length S
  length-left_in W S f v = length-restrict W (left P W S f v) ∙ (closing-is P W (cut S f v)).sized ∙ length_cut S f v

  module _ (W : ℕ) (S T : List ℕ) (f v : ℕ) (passed : passes_over P W S f v ≡ true) (there : left_in P W S f v ⊆ T) where
    -- what was left in W shows that the test passes in every set that has all of it
    pub shows : Witness P W T f v (left_in P W S f v)
    shows =
        let L = left P W S f v in
        let w = witness_at P W S f v (passes_over-at P W S f v passed) in
        let part = restrict_⊆ W L in
        record {
          inside = λ g u e. cut_by T f v g u (there g u e) (λ q. cut_at S f v u (w.inside f u (part f u (rw q at e))));
          shut = λ g u e i. let s = w.shut g u (part g u e) i in record {
            rules = λ h j k. let x = s.rules h j k in (x.0, restrict-by W L h x.0 x.1 j.1, x.2);
            triples = λ t l k. together-free P W W L (left_in P W S f v) (triple_at P t) g u
                (λ h _ y x. record { listed = x.listed; there = λ b. restrict-by W L h y (x.there b) b }) (s.triples t l k);
          };
          full = λ g i. let s = empty-not L g (w.full g i) in
              not_so (empty (left_in P W S f v) g)
              (λ z. never (restrict-by W L g s.0 s.1 i.1) (empty-at (left_in P W S f v) g s.0 z));
        }
