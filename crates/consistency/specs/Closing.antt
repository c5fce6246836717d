-- Closing a set over some of the fields: arc consistency. Assumes nothing.
use Rattle.std.specs.Prelude.{◌≡◌, Bool, true, ◌&&◌, List, ℕ, ◌<◌, ltb, length, get_or}
use Rattle.masks.specs.Tests.{◌⇒◌, all_below}
use Rattle.masks.specs.Bits.{bit, Within}
use Rattle.masks.specs.Masks.{some_bit}
use Rattle.masks.proofs.Masks.{some_bit-at, some_bit-by}
use Rattle.masks.specs.Sets.{has, ◌⊆◌}
use Rattle.consistency.specs.Largest.{Test, largest}
use Rattle.consistency.specs.Problem.{has_field, Problem, triple_at, In}
use Rattle.consistency.specs.Triples.{free_mono, free_wider, Together, together-free, together}

module _ (P : Problem) where
  -- ---- support: an allowed partner in field g, still in S, of position v of field f

  abbrev pub Partner : List ℕ → ℕ → ℕ → ℕ → Type 0
  Partner S f v g = (u : ℕ) × (has S g u ≡ true) × (P.allowed f g v u ≡ true)

  unfoldable pub partner : List ℕ → ℕ → ℕ → ℕ → Bool
  partner S f v g = some_bit (get_or S g 0) (P.allowed f g v)

  pub partner-at : (S : List ℕ) (f v g : ℕ) → partner S f v g ≡ true → Partner S f v g
  unfolding partner has
  partner-at S f v g = some_bit-at (get_or S g 0) (P.allowed f g v)

  pub partner-by : (S : List ℕ) (f v g : ℕ) → Partner S f v g → partner S f v g ≡ true
  unfolding partner has
  partner-by S f v g s = some_bit-by (get_or S g 0) (P.allowed f g v) s.0 s.1 s.2

  -- ---- closed over the fields of the mask W

  -- Position v of field f, which is in W, has an allowed partner still in S under each rule that joins f to a field of W, and support under
  -- each triple rule of f, whichever of its other fields are in W.
  pub record Supported (W : ℕ) (S : List ℕ) (f v : ℕ) : Type 0 where
    pub rules : (g : ℕ) → In P W g → P.joined f g ≡ true → Partner S f v g
    pub triples : (t : ℕ) → t < length P.triples → has_field (triple_at P t) f ≡ true → Together P W S (triple_at P t) f v

  -- Closed (01, 02): every setting of every field of W is supported. With every field in W this is over every rule and every triple rule.
  abbrev pub Closed : ℕ → List ℕ → Type 0
  Closed W S = (f v : ℕ) → has S f v ≡ true → In P W f → Supported W S f v

  -- the same as tests: under the rule with g, under triple rule t, and under each
  unfoldable pub supported_by : ℕ → List ℕ → ℕ → ℕ → ℕ → Bool
  supported_by W S f v g = bit W g && P.joined f g ⇒ partner S f v g

  unfoldable pub supported_by_triple : ℕ → List ℕ → ℕ → ℕ → ℕ → Bool
  supported_by_triple W S f v t =
      let own = together P W S (triple_at P t) f v in
      has_field (triple_at P t) f ⇒ own

  unfoldable pub supported : ℕ → Test
  supported W S f v =
      let under = all_below (length P.triples) (supported_by_triple W S f v) in
      let both = all_below P.fields (supported_by W S f v) && under in
      ltb f P.fields && bit W f ⇒ both

  -- what is supported in a set is supported in a larger one
  pub support_mono : (W : ℕ) (S R : List ℕ) → S ⊆ R → (f v : ℕ) → Supported W S f v → Supported W R f v
  support_mono W S R h f v s = record {
    rules = λ g j k. let x = s.rules g j k in (x.0, h g x.0 x.1, x.2);
    triples = λ t l k. together-free P W W S R (triple_at P t) f v (λ g _ u. free_mono P W S R h g u) (s.triples t l k);
  }

  -- ---- closing (01): the largest closed part

  unfoldable pub closing : ℕ → List ℕ → List ℕ
  closing W S = largest (supported W) S

  -- over more fields it asks more
  pub closed_wider : (W Z : ℕ) → Within W Z → (S : List ℕ) → Closed Z S → Closed W S
  closed_wider W Z h S c f v e i =
      let s = c f v e (i.0, h f i.1) in
      record {
        rules = λ g j. s.rules g (j.0, h g j.1);
        triples = λ t l k. together-free P Z W S S (triple_at P t) f v (λ g _ u. free_wider P W Z h S g u) (s.triples t l k);
      }
