-- Laws of revising under a triple rule, and of closing under the rules over two fields alone (specs/Revising.antt). Assumes nothing.
use Rattle.std.specs.Prelude.{◌≡◌, true, ◌&&◌, List, ℕ, ◌<◌, length}
use Rattle.std.proofs.Math.Path.{refl}
use Rattle.std.proofs.Common.{arith}
use Rattle.masks.specs.Tests.{never, and_l, and_r, and-by, ⇒_at, ⇒_by}
use Rattle.masks.specs.Bits.{bit}
use Rattle.masks.specs.Sets.{has, ◌⊆◌}
use Rattle.masks.proofs.Sets.{only_at, only-by}
use Rattle.masks.specs.Settings.{empty}
use Rattle.masks.proofs.Settings.{empty-at, empty-by}
use Rattle.consistency.specs.Largest.{IsLargest_stricter}
use Rattle.consistency.specs.Problem.{Triple, has_field, Problem, triple_at, TripleIn}
use Rattle.consistency.specs.Triples.{Free, free_mono, Together, together-free}
use Rattle.consistency.proofs.Triples.{together_at, together-by}
use Rattle.consistency.specs.Closing.{Closed, closing}
use Rattle.consistency.proofs.Closing.{closing-is, closing_between}
use Rattle.consistency.specs.Revising.{rules_only, closed_rules, ClosedUnder, stands, revised}

-- ---- the rules alone

module _ (P : Problem) where
  module _ (W : ℕ) where
    pub closing_in_rules : (S : List ℕ) → closing P W S ⊆ closing (rules_only P) W S
    closing_in_rules S =
        IsLargest_stricter (Closed P W) (Closed (rules_only P) W) (closed_rules P W) S (closing P W S) (closing (rules_only P) W S)
        (closing-is P W S) (closing-is (rules_only P) W S)

    -- closing by the rules first alters nothing
    pub closing_of_rules : (S : List ℕ) → closing P W (closing (rules_only P) W S) ≡ closing P W S
    closing_of_rules S =
        let c = closing-is (rules_only P) W S in
        closing_between P W S (closing (rules_only P) W S) c.sized (closing_in_rules S) c.inside

    -- ---- revision under one triple rule: each of its fields in W keeps what is supported under it, all three at once

    module _ (T : Triple) (S : List ℕ) where
      pub revised-at : (f v : ℕ) → bit W f ≡ true → has_field T f ≡ true → has (revised P W T S) f v ≡ true → Together P W S T f v
      unfolding revised stands
      revised-at f v b h e =
          together_at P W S T f v (⇒_at (bit W f && has_field T f) _ (only_at (stands P W T S) S f v e) (and-by _ _ b h))

      pub revised-by : (f v : ℕ) → has S f v ≡ true → (bit W f ≡ true → has_field T f ≡ true → Together P W S T f v)
          → has (revised P W T S) f v ≡ true
      unfolding revised stands
      revised-by f v e x = only-by (stands P W T S) S f v e
          (⇒_by (bit W f && has_field T f) _ (λ q. together-by P W S T f v (x (and_l _ _ q) (and_r (bit W f) _ q))))

      -- the three that support a setting support each other
      module _ (t : TripleIn P T) (f v : ℕ) (x : Together P W S T f v) where
        with_first : Together P W S T T.first x.p
        with_first = let a = t.lower in let b = t.upper in record {
          p = x.p;
          q = x.q;
          r = x.r;
          p-free = x.p-free;
          q-free = x.q-free;
          r-free = x.r-free;
          fit = x.fit;
          p-own = λ _. refl;
          q-own = λ e. absurd (omega arith);
          r_own = λ e. absurd (omega arith);
        }

        with_second : Together P W S T T.second x.q
        with_second = let a = t.lower in let b = t.upper in record {
          p = x.p;
          q = x.q;
          r = x.r;
          p-free = x.p-free;
          q-free = x.q-free;
          r-free = x.r-free;
          fit = x.fit;
          p-own = λ e. absurd (omega arith);
          q-own = λ _. refl;
          r_own = λ e. absurd (omega arith);
        }

        with-third : Together P W S T T.third x.r
        with-third = let a = t.lower in let b = t.upper in record {
          p = x.p;
          q = x.q;
          r = x.r;
          p-free = x.p-free;
          q-free = x.q-free;
          r-free = x.r-free;
          fit = x.fit;
          p-own = λ e. absurd (omega arith);
          q-own = λ e. absurd (omega arith);
          r_own = λ _. refl;
        }

        -- so they stay
        stay : (g u : ℕ) → Free P W S g u → Together P W S T g u → Free P W (revised P W T S) g u
        stay g u y z = record { listed = y.listed; there = λ b. revised-by g u (y.there b) (λ _ _. z) }

        pub together-stays : Together P W (revised P W T S) T f v
        together-stays = record {
          p = x.p;
          q = x.q;
          r = x.r;
          p-free = stay T.first x.p x.p-free with_first;
          q-free = stay T.second x.q x.q-free with_second;
          r-free = stay T.third x.r x.r-free with-third;
          fit = x.fit;
          p-own = x.p-own;
          q-own = x.q-own;
          r_own = x.r_own;
        }

      -- one revision is enough
      pub revised_closed : TripleIn P T → ClosedUnder P W T (revised P W T S)
      revised_closed t f v h i e = together-stays t f v (revised-at f v i.1 h e)

    module _ (t : ℕ) (l : t < length P.triples) (S0 S : List ℕ) (k : closing P W S0 ⊆ S)
        (on : (f : ℕ) → bit W f ≡ true → f < P.fields) where
      -- the closing loses nothing
      pub closing_in_revised : closing P W S0 ⊆ revised P W (triple_at P t) S
      closing_in_revised f v e = revised-by (triple_at P t) S f v (k f v e) (λ b h.
          together-free P W W (closing P W S0) S (triple_at P t) f v (λ g _. free_mono P W (closing P W S0) S k g)
          (((closing-is P W S0).good f v e (on f b, b)).triples t l h))

      -- an empty field shows that the closing has one
      pub revised-empty : (f : ℕ) → empty (revised P W (triple_at P t) S) f ≡ true → empty (closing P W S0) f ≡ true
      revised-empty f z =
          empty-by (closing P W S0) f (λ v e. never (closing_in_revised f v e) (empty-at (revised P W (triple_at P t) S) f v z))
