-- Every setting of a complete set_up is kept, by closing and by the offers. Assumes nothing.
use Rattle.std.specs.Prelude.{◌≡◌, refl, Bool, true, false, ◌&&◌, List, ℕ, ◌<◌, eqb, ltb, length}
use Rattle.std.proofs.Common.{sym, ap, ◌∙◌}
use borrow.Author.Tests.{eqb-true, eq-eqb, ltb-true, lt-ltb}
use Rattle.masks.specs.Tests.{never, not_so, and_l, and_r, and-by}
use Rattle.masks.specs.Sets.{has, ◌⊆◌, only}
use Rattle.masks.proofs.Sets.{only_⊆, only_at, only-by}
use Rattle.masks.specs.Settings.{empty}
use Rattle.masks.proofs.Settings.{cut_by, empty-at}
use Rattle.consistency.specs.Problem.{has_first, has-second, has-third, Problem, triple_at, TriplesIn, field_below, SetUp}
use Rattle.consistency.specs.Triples.{Free, Together}
use Rattle.consistency.specs.Closing.{Closed, closing}
use Rattle.consistency.proofs.Closing.{closing-is}
use Rattle.consistency.specs.Passing.{PassesOver}
use Rattle.consistency.proofs.Passing.{witness_by}
use Rattle.consistency.specs.Offers.{PartiallyConsistent, offers, wiped_out}
use Rattle.consistency.proofs.Offers.{offers-is, wiped_out-at}

module _ (P : Problem) (drafts : TriplesIn P) (S : List ℕ) (a : ℕ → ℕ) (up : SetUp P S a) where
  chosen : ℕ → ℕ → Bool
  chosen f v = ltb f P.fields && eqb v (a f)

  -- the set_up as a set
  picked : List ℕ
  picked = only chosen S

  picked_⊆ : picked ⊆ S
  unfolding picked
  picked_⊆ = only_⊆ chosen S

  picked-by : (f : ℕ) → f < P.fields → has picked f (a f) ≡ true
  unfolding picked chosen
  picked-by f h = only-by chosen S f (a f) (up.inside f h) (and-by _ _ (lt-ltb f P.fields h) (eq-eqb (a f) (a f) refl))

  picked-at : (f v : ℕ) → has picked f v ≡ true → (f < P.fields) × (v ≡ a f)
  unfolding picked chosen
  picked-at f v e =
      let q = only_at chosen S f v e in
      (ltb-true f P.fields (and_l _ _ q), eqb-true v (a f) (and_r (ltb f P.fields) _ q))

  -- its setting of a field may be taken, over any mask
  picked-free : (W g : ℕ) → g < P.fields → Free P W picked g (a g)
  picked-free W g h = record { listed = up.listed g h; there = λ _. picked-by g h }

  picked-together : (W t : ℕ) → t < length P.triples → (f v : ℕ) → v ≡ a f → Together P W picked (triple_at P t) f v
  picked-together W t l f v e =
      let T = triple_at P t in
      let below = field_below P T (drafts t l) in
      record {
        p = a T.first;
        q = a T.second;
        r = a T.third;
        p-free = picked-free W T.first (below T.first (has_first T));
        q-free = picked-free W T.second (below T.second (has-second T));
        r-free = picked-free W T.third (below T.third (has-third T));
        fit = up.fit t l;
        p-own = λ x. ap a x ∙ sym e;
        q-own = λ x. ap a x ∙ sym e;
        r_own = λ x. ap a x ∙ sym e;
      }

  picked_closed : (W : ℕ) → Closed P W picked
  picked_closed W f v e i =
      let q = picked-at f v e in
      record {
        rules = λ g j k. (a g, picked-by g j.0, rw q.1 (up.agrees f g i.0 j.0 k));
        triples = λ t l _. picked-together W t l f v q.1;
      }

  picked-passes : (W f v : ℕ) → has picked f v ≡ true → PassesOver P W picked f v
  picked-passes W f v e =
      witness_by P W picked f v picked (record {
        inside = λ g u h. cut_by picked f v g u h (λ q. (picked-at g u h).1 ∙ ap a q ∙ sym (picked-at f v e).1);
        shut = picked_closed W;
        full = λ g i. not_so (empty picked g) (λ z. never (picked-by g i.0) (empty-at picked g (a g) z));
      })

  pub set_up_closing : (W f : ℕ) → f < P.fields → has (closing P W S) f (a f) ≡ true
  set_up_closing W f h = (closing-is P W S).most picked picked_⊆ (picked_closed W) f (a f) (picked-by f h)

  -- whatever is selected
  module _ (hood : ℕ → ℕ) (selected : ℕ) where
    picked_consistent : PartiallyConsistent P hood selected picked
    picked_consistent = record { shut = picked_closed _; passing = λ f v i e. picked-passes (hood f) f v e }

    pub set_up_offered : (f : ℕ) → f < P.fields → has (offers P hood selected S) f (a f) ≡ true
    set_up_offered f h = (offers-is P hood selected S).most picked picked_⊆ picked_consistent f (a f) (picked-by f h)

    -- so where the set is wiped out there is no complete set_up
    pub set_up_not-wiped : wiped_out P hood selected S ≡ false
    set_up_not-wiped =
        not_so (wiped_out P hood selected S) (λ e.
        let w = wiped_out-at P hood selected S e in
        never (set_up_offered w.0 w.1) (empty-at (offers P hood selected S) w.0 (a w.0) w.2))
