-- Closing by the rules over two fields and by one triple rule at a time. Assumes nothing.
--
-- The rules alone are a problem of their own, so what closes a problem without triple rules serves here as it is.
use Rattle.std.specs.Prelude.{◌≡◌, Bool, true, false, ◌&&◌, List, [], ℕ, ◌<◌, length, get_or}
use Rattle.std.proofs.Math.Path.{refl}
use Rattle.std.proofs.Common.{ap, ◌∙◌, arith}
use Rattle.masks.specs.Tests.{never, ◌⇒◌}
use Rattle.masks.specs.Bits.{bit}
use Rattle.masks.specs.Sets.{has, has-mask, ◌⊆◌, only, length-only}
use Rattle.masks.proofs.Sets.{only_⊆}
use Rattle.consistency.specs.Problem.{Triple, has_field, Problem, triple_at, TriplesIn, field_below, In, all_fields, in_all_fields}
use Rattle.consistency.specs.Triples.{Free, Together, together-free, together}
use Rattle.consistency.specs.Closing.{Closed}
use Rattle.consistency.specs.Passing.{none_empty}

-- ---- the rules alone

abbrev pub rules_only : Problem → Problem
rules_only P = record { fields = P.fields; joined = P.joined; allowed = P.allowed; sheet = []; triples = [] }

-- a problem without triple rules
abbrev pub NoTriples : Problem → Type 0
NoTriples P = (t : ℕ) → t < length P.triples → ⊥

module _ (P : Problem) where
  pub rules-alone : NoTriples (rules_only P)
  rules-alone t l = omega arith

  pub all_fields-rules : all_fields (rules_only P) ≡ all_fields P
  unfolding all_fields
  all_fields-rules = refl

  pub none_empty-rules : (W : ℕ) (S : List ℕ) → none_empty (rules_only P) W S ≡ none_empty P W S
  unfolding none_empty
  none_empty-rules W S = refl

  module _ (W : ℕ) where
    pub closed_rules : (S : List ℕ) → Closed P W S → Closed (rules_only P) W S
    closed_rules S c f v e i = record { rules = (c f v e i).rules; triples = λ t l. absurd (rules-alone t l) }

    -- every setting of W is supported under T
    abbrev pub ClosedUnder : Triple → List ℕ → Type 0
    ClosedUnder T S = (f v : ℕ) → has_field T f ≡ true → In P W f → has S f v ≡ true → Together P W S T f v

    pub closed_both : (S : List ℕ) → Closed (rules_only P) W S → ((t : ℕ) → t < length P.triples → ClosedUnder (triple_at P t) S)
        → Closed P W S
    closed_both S c d f v e i = record { rules = (c f v e i).rules; triples = λ t l k. d t l f v k i e }

    -- ---- revision under one triple rule: each of its fields in W keeps what is supported under it, all three at once

    unfoldable pub stands : Triple → List ℕ → ℕ → ℕ → Bool
    stands T S f v =
        let own = together P W S T f v in
        bit W f && has_field T f ⇒ own

    unfoldable pub revised : Triple → List ℕ → List ℕ
    revised T S = only (stands T S) S

    module _ (T : Triple) (S : List ℕ) where
      pub revised_⊆ : revised T S ⊆ S
      unfolding revised
      revised_⊆ = only_⊆ _ S

      pub length-revised : length (revised T S) ≡ length S
      unfolding revised
      length-revised = length-only _ S

    -- what is closed under T stays so where no field of T changes
    pub closed_under-same : (T : Triple) (S R : List ℕ) → ((g : ℕ) → has_field T g ≡ true → get_or R g 0 ≡ get_or S g 0) → ClosedUnder T S
        → ClosedUnder T R
    closed_under-same T S R same c f v h i e =
        together-free P W W S R T f v
        (λ g k u x. record { listed = x.listed; there = λ b. has-mask R S g u (same g k) ∙ x.there b })
        (c f v h i (has-mask S R f v (back f h) ∙ e))
      where
        back : (g : ℕ) → has_field T g ≡ true → get_or S g 0 ≡ get_or R g 0
        back g k = rw (same g k)

  -- ---- a closed set of which settings of one field go, and a part of its fields

  module _ (drafts : TriplesIn P) (S : List ℕ) (c : Closed P (all_fields P) S) (W : ℕ) where
    pub closed_under-other : (R : List ℕ) (x : ℕ) → R ⊆ S → ((g u : ℕ) → (g ≡ x → ⊥) → has R g u ≡ has S g u)
        → (t : ℕ) → t < length P.triples → has_field (triple_at P t) x ≡ false → ClosedUnder W (triple_at P t) R
    closed_under-other R x n same t l out f v h i e =
        together-free P (all_fields P) W S R (triple_at P t) f v still ((c f v (n f v e) (in_all_fields P f i.0)).triples t l h)
      where
        still : (g : ℕ) → has_field (triple_at P t) g ≡ true → (u : ℕ) → Free P (all_fields P) S g u → Free P W R g u
        still g k u y = record {
          listed = y.listed;
          there = λ _. same g u (λ (q : g ≡ x). never (ap (has_field (triple_at P t)) (rw q refl) ∙ k) out)
              ∙ y.there (in_all_fields P g (field_below P (triple_at P t) (drafts t l) g k)).1;
        }
