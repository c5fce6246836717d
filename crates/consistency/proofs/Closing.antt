-- Laws of closing (specs/Closing.antt): it is the largest closed part. Assumes nothing.
use Rattle.std.specs.Prelude.{◌≡◌, true, ◌&&◌, ◌↔◌, List, ℕ, ltb, length}
use Rattle.std.proofs.Common.{ltb-true, lt-ltb}
use Rattle.masks.specs.Tests.{and_l, and_r, and-by, ⇒_at, ⇒_by, all_below, all_below-at, all_below-by}
use Rattle.masks.specs.Bits.{bit, Within}
use Rattle.masks.specs.Sets.{◌⊆◌}
use Rattle.consistency.specs.Largest.{IsLargest, IsLargest_mono, IsLargest_stricter, IsLargest_iff, IsLargest_unique, IsLargest-self}
use Rattle.consistency.specs.Largest.{IsLargest_between, Monotone, AllPass, largest-is}
use Rattle.consistency.specs.Problem.{has_field, Problem, triple_at, In}
use Rattle.consistency.proofs.Triples.{together_at, together-by}
use Rattle.consistency.specs.Closing.{partner-at, partner-by, Supported, Closed, supported_by, supported_by_triple, supported, support_mono}
use Rattle.consistency.specs.Closing.{closing, closed_wider}

module _ (P : Problem) where
  -- ---- closed over the fields of the mask W

  pub supported-at : (W : ℕ) (S : List ℕ) (f v : ℕ) → supported P W S f v ≡ true → In P W f → Supported P W S f v
  unfolding supported supported_by supported_by_triple
  supported-at W S f v e i =
      let both = ⇒_at (ltb f P.fields && bit W f) _ e (and-by _ _ (lt-ltb f P.fields i.0) i.1) in
      record {
        rules = λ g j k. partner-at P S f v g
            (⇒_at (bit W g && P.joined f g) _ (all_below-at P.fields (supported_by P W S f v) (and_l _ _ both) g j.0)
            (and-by _ _ j.1 k));
        triples = λ t l k. together_at P W S (triple_at P t) f v
            (⇒_at (has_field (triple_at P t) f) _ (all_below-at (length P.triples) (supported_by_triple P W S f v)
            (and_r (all_below P.fields (supported_by P W S f v)) _ both) t l) k);
      }

  pub supported-by : (W : ℕ) (S : List ℕ) (f v : ℕ) → (In P W f → Supported P W S f v) → supported P W S f v ≡ true
  unfolding supported supported_by supported_by_triple
  supported-by W S f v s =
      ⇒_by (ltb f P.fields && bit W f) _ (λ i.
      let x = s (ltb-true f P.fields (and_l _ _ i), and_r (ltb f P.fields) _ i) in
      and-by _ _
      (all_below-by P.fields (supported_by P W S f v) (λ g h. ⇒_by (bit W g && P.joined f g) _ (λ j.
      partner-by P S f v g (x.rules g (h, and_l _ _ j) (and_r (bit W g) _ j)))))
      (all_below-by (length P.triples) (supported_by_triple P W S f v) (λ t l. ⇒_by (has_field (triple_at P t) f) _ (λ j.
      together-by P W S (triple_at P t) f v (x.triples t l j)))))

  pub supported_mono : (W : ℕ) → Monotone (supported P W)
  supported_mono W S R h f v e = supported-by W R f v (λ i. support_mono P W S R h f v (supported-at W S f v e i))

  pub all_supported : (W : ℕ) (S : List ℕ) → AllPass (supported P W) S ↔ Closed P W S
  all_supported W S = (λ p f v e. supported-at W S f v (p f v e), λ c f v e. supported-by W S f v (c f v e))

  -- ---- closing (01): the largest closed part

  pub closing-is : (W : ℕ) (S : List ℕ) → IsLargest (Closed P W) S (closing P W S)
  unfolding closing
  closing-is W S =
      IsLargest_iff (AllPass (supported P W)) (Closed P W) (all_supported W) S _ (largest-is (supported P W) (supported_mono W) S)

  pub closing_unique : (W : ℕ) (S L : List ℕ) → IsLargest (Closed P W) S L → closing P W S ≡ L
  closing_unique W S L l = IsLargest_unique (Closed P W) S (closing P W S) L (closing-is W S) l

  pub closing-self : (W : ℕ) (S : List ℕ) → Closed P W S → closing P W S ≡ S
  closing-self W S c = closing_unique W S S (IsLargest-self (Closed P W) S c)

  pub closing_mono : (W : ℕ) (S R : List ℕ) → S ⊆ R → closing P W S ⊆ closing P W R
  closing_mono W S R h = IsLargest_mono (Closed P W) S R (closing P W S) (closing P W R) h (closing-is W S) (closing-is W R)

  -- what lies between a set and its closing has the same closing
  pub closing_between : (W : ℕ) (S U : List ℕ) → length U ≡ length S → closing P W S ⊆ U → U ⊆ S → closing P W U ≡ closing P W S
  closing_between W S U e h k =
      closing_unique W U (closing P W S) (IsLargest_between (Closed P W) S U (closing P W S) e h k (closing-is W S))

  pub closing_wider : (W Z : ℕ) → Within W Z → (S : List ℕ) → closing P Z S ⊆ closing P W S
  closing_wider W Z h S =
      IsLargest_stricter (Closed P Z) (Closed P W) (closed_wider P W Z h) S (closing P Z S) (closing P W S)
      (closing-is Z S) (closing-is W S)
