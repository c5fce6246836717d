-- What the engines share: the sets that they work on, the test of a setting, the removal of one that failed. Assumes nothing.
use Rattle.std.specs.Prelude.{◌≡◌, Bool, List, ℕ, length, get_or}
use Rattle.std.proofs.Math.Path.{refl, ap}
use Rattle.std.proofs.Common.{sym, ap₂, ◌∙◌, ⊎_elim, true≢false}
use Rattle.std.proofs.Math.Bool.{true, false, not}
use Rattle.std.proofs.lemmas.Bool.{not-true, not-false}
use Rattle.masks.specs.Tests.{never, not_so, bool_cases, eq_cases}
use Rattle.masks.specs.Bits.{bit, Within}
use Rattle.masks.specs.Sets.{has, has-mask, ◌⊆◌}
use Rattle.masks.specs.Settings.{cut, length_cut, lose, empty}
use Rattle.masks.proofs.Settings.{cut_⊆, cut_at, cut_by, lose-at, empty-at}
use Rattle.masks.specs.Settings.{some_empty}
use Rattle.masks.proofs.Settings.{empty-not}
use Rattle.masks.proofs.Restrict.{restrict_⊆, restrict-at}
use Rattle.consistency.specs.Problem.{Problem, In, OnFields, all_fields, in_all_fields}
use Rattle.consistency.specs.Closing.{Closed, closing}
use Rattle.consistency.proofs.Closing.{closing-is}
use Rattle.consistency.specs.Passing.{NoneEmpty, none_empty, none_empty-at, none_empty-by, none_empty_mono, left, passes_over}
use Rattle.consistency.proofs.Again.{passes-still}
use Rattle.consistency.specs.Offers.{offers, wiped_out}
use Rattle.consistency.proofs.Offers.{offers-is, offers-lose, offers_in_closing, offers_between, wiped_out-by}
use Rattle.pruning.specs.Shrunk.{Shrunk}
use Rattle.pruning.specs.Close.{Closes}

module _ (P : Problem) where
  -- A set that an engine works on: settings of the problem's fields only, closed over every field, no field empty.
  pub record Live (S : List ℕ) : Type 0 where
    pub on : OnFields P S
    pub shut : Closed P (all_fields P) S
    pub full : NoneEmpty P (all_fields P) S

  -- ---- the test of position v of field f over W

  pub cut-full : (W : ℕ) (S : List ℕ) (f v : ℕ) → has S f v ≡ true → NoneEmpty P (all_fields P) S → NoneEmpty P W (cut S f v)
  cut-full W S f v e n g i =
      not_so (empty (cut S f v) g) (λ z. ⊎_elim
      (λ q. never (rw q (cut_by S f v f v e (λ _. refl))) (empty-at (cut S f v) g v z))
      (λ q. let s = empty-not S g (n g (in_all_fields P g i.0)) in
      never (cut_by S f v g s.0 s.1 (λ x. absurd (q x))) (empty-at (cut S f v) g s.0 z))
      (eq_cases g f))

  -- what the test answers, and what it leaves where it passes
  pub record Tested (W : ℕ) (S : List ℕ) (f v : ℕ) (ok : Bool) (R : List ℕ) : Type 0 where
    pub sized : length R ≡ length S
    pub passed : ok ≡ passes_over P W S f v
    pub rest : ok ≡ true → R ≡ left P W S f v

  pub tested : (W : ℕ) (S : List ℕ) (f v : ℕ) (wiped : Bool) (touched : ℕ) (R : List ℕ) → Closes P W (cut S f v) wiped touched R
      → Tested W S f v (not wiped) R
  unfolding passes_over
  tested W S f v wiped touched R c = record {
    sized = c.sized ∙ length_cut S f v;
    passed = ap not c.wipes ∙ twice (none_empty P W (closing P W (cut S f v)));
    rest = λ e. c.made (not-true wiped e);
  }
    where
      twice : (b : Bool) → not (not b) ≡ b
      twice true = refl
      twice false = refl

  -- a passed test stays passed where nothing but f changed in W
  module _ (W : ℕ) (S R : List ℕ) (f v : ℕ) (h : has R f v ≡ true)
      (same : (g : ℕ) → bit W g ≡ true → (g ≡ f → ⊥) → get_or R g 0 ≡ get_or S g 0) where
    pub passes_same : passes_over P W S f v ≡ true → passes_over P W R f v ≡ true
    passes_same e = passes-still P W S R f v e (λ g u i. kept g u (restrict-at W _ g u i) (restrict_⊆ W _ g u i))
      where
        -- what the test left in W is in R
        kept : (g u : ℕ) → bit W g ≡ true → has (left P W S f v) g u ≡ true → has R g u ≡ true
        kept g u w e =
            let c = (closing-is P W (cut S f v)).inside g u e in
            ⊎_elim (λ q. let z : u ≡ v = cut_at S f v u (rw q at c) in ap₂ (has R) q z ∙ h)
            (λ q. has-mask R S g u (same g w q) ∙ cut_⊆ S f v g u c) (eq_cases g f)

  -- ---- a setting that failed is lost, and the set closed again

  -- the closing without the setting, or that a field is empty in it
  pub record Removed (S : List ℕ) (f v : ℕ) (wiped : Bool) (touched : ℕ) (R : List ℕ) : Type 0 where
    pub sized : length R ≡ length S
    pub wipes : wiped ≡ not (none_empty P (all_fields P) (closing P (all_fields P) (lose S f v)))
    pub made : wiped ≡ false → R ≡ closing P (all_fields P) (lose S f v)
    pub shrunk : wiped ≡ false → Shrunk S R touched
    pub marks : wiped ≡ false → Within touched (all_fields P)

  -- where a field is empty, the fields that lost settings are of no account
  pub removed-wiped : {S : List ℕ} {f v some any : ℕ} {R : List ℕ} → Removed S f v true some R → Removed S f v true any R
  removed-wiped r = record {
    sized = r.sized;
    wipes = r.wipes;
    made = λ e. absurd (true≢false e);
    shrunk = λ e. absurd (true≢false e);
    marks = λ e. absurd (true≢false e);
  }

  -- ---- the offers stay the same

  -- for whatever neighbourhoods and selected fields, where W is f's neighbourhood and f is selected
  abbrev pub WhereTested : ℕ → ℕ → ((ℕ → ℕ) → ℕ → Type 0) → Type 0
  WhereTested W f A = (hood : ℕ → ℕ) (selected : ℕ) → hood f ≡ W → In P selected f → A hood selected

  module _ (hood : ℕ → ℕ) (selected : ℕ) where
    abbrev offered : List ℕ → List ℕ
    offered = offers P hood selected

    -- a set that holds the offers and, closed over every field, has an empty one: wiped out
    pub wiped-by : (S U : List ℕ) → offers P hood selected S ⊆ U → none_empty P (all_fields P) U ≡ false
        → wiped_out P hood selected S ≡ true
    wiped-by S U h e =
        ⊎_elim (λ q. q)
        (λ q. absurd (never (none_empty-by P (all_fields P) U (none_empty_mono P (all_fields P) (offered S) U h
        (λ g i. not_so (empty (offered S) g) (λ z. never (wiped_out-by P hood selected S (offered S) g i.0 (λ f v x. x) z) q)))) e))
        (bool_cases (wiped_out P hood selected S))

    -- equal offers, equally wiped out
    pub wiped-same : (S R : List ℕ) → offers P hood selected S ≡ offers P hood selected R → wiped_out P hood selected S ≡ true
        → wiped_out P hood selected R ≡ true
    unfolding wiped_out
    wiped-same S R e w = ap (some_empty P.fields) (sym e) ∙ w

  module _ (W : ℕ) (S : List ℕ) (f v : ℕ) (fails : passes_over P W S f v ≡ false) where
    offers_in_rest : WhereTested W f (λ hood selected. offers P hood selected S ⊆ closing P (all_fields P) (lose S f v))
    offers_in_rest hood selected w i =
        offers_in_closing P hood selected S (lose S f v)
        (offers-lose P hood selected S S (offers-is P hood selected S).inside f v i (ap (λ (Z : ℕ). passes_over P Z S f v) w ∙ fails))

    module _ (wiped : Bool) (touched : ℕ) (R : List ℕ) (r : Removed S f v wiped touched R) where
      pub removed_none : wiped ≡ true → WhereTested W f (λ hood selected. wiped_out P hood selected S ≡ true)
      removed_none e hood selected w i =
          wiped-by hood selected S _ (offers_in_rest hood selected w i) (not-true _ (sym r.wipes ∙ e))

      module _ (e : wiped ≡ false) where
        pub removed_steady : WhereTested W f (λ hood selected. offers P hood selected R ≡ offers P hood selected S)
        removed_steady hood selected w i =
            offers_between P hood selected S R r.sized (rw (r.made e) (offers_in_rest hood selected w i)) (r.shrunk e).inside

        pub removed_live : Live S → Live R
        removed_live l = record {
          on = λ g u i. l.on g u ((r.shrunk e).inside g u i);
          shut = rw (r.made e) (closing-is P (all_fields P) (lose S f v)).good;
          full = rw (r.made e) (none_empty-at P (all_fields P) _ (not-false _ (sym r.wipes ∙ e)));
        }

        -- the setting itself is gone
        pub removed_gone : has R f v ≡ true → ⊥
        removed_gone h =
            lose-at S f v ((closing-is P (all_fields P) (lose S f v)).inside f v (ap (λ (Q : List ℕ). has Q f v) (sym (r.made e)) ∙ h))
