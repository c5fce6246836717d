-- What every engine asks and promises, how it starts, what holds between two visits, and how it ends. Assumes nothing.
use Rattle.std.specs.Prelude.{◌≡◌, Bool, true, false, List, ℕ, ◌<◌, length, get_or}
use Rattle.std.proofs.Math.Path.{refl, sym}
use Rattle.std.proofs.Common.{ap, ◌∙◌, true≢false}
use Rattle.std.specs.Int.Bits.{bit_or}
use Rattle.std.proofs.lemmas.Bool.{not-true, not-false}
use Rattle.masks.specs.Tests.{never, not_so}
use Rattle.masks.specs.Bits.{bit, Within}
use Rattle.masks.proofs.Bits.{bit_of-zero}
use Rattle.masks.specs.Sets.{has, ◌⊆◌}
use Rattle.masks.specs.Settings.{empty, some_empty, some_empty-at, some_empty-by}
use Rattle.consistency.specs.Largest.{IsLargest-self}
use Rattle.consistency.specs.Problem.{Problem, In, OnFields, all_fields, in_all_fields}
use Rattle.consistency.proofs.Closing.{closing-is}
use Rattle.consistency.specs.Passing.{NoneEmpty, none_empty-at, passes_over, passes_over-at}
use Rattle.consistency.specs.Offers.{PartiallyConsistent, offers}
use Rattle.consistency.proofs.Offers.{offers-is, offers_unique, offers_in_closing, offers_of-closing}
use Rattle.consistency.specs.Offers.{wiped_out}
use Rattle.consistency.proofs.Offers.{wiped_out-by}
use Rattle.pruning.specs.Shrunk.{Shrunk, shrunk-none, shrunk-then, or-within}
use Rattle.pruning.specs.Close.{Closes}
use Rattle.closing.specs.Frame.{Live, wiped-by, wiped-same}
use Rattle.visiting.specs.Visit.{Visited}

-- What the engines ask of an order: n places, and every field at one. 01's order, `is_order` of the ledger, is one (`order-low`,
-- `order-every`).
pub record IsOrder (n : ℕ) (order : List ℕ) : Type 0 where
  pub sized : length order ≡ n
  pub low : (q : ℕ) → q < n → get_or order q 0 < n
  pub every : (f : ℕ) → f < n → (q : ℕ) × (q < n) × (get_or order q 0 ≡ f)

-- What the engines ask of the masks of the fields' neighbourhoods.
pub record Hoods (P : Problem) (hood : List ℕ) : Type 0 where
  pub fields : (f : ℕ) → f < P.fields → Within (get_or hood f 0) (all_fields P)
  pub self : (f : ℕ) → f < P.fields → bit (get_or hood f 0) f ≡ true
  pub back : (f g : ℕ) → f < P.fields → g < P.fields → bit (get_or hood f 0) g ≡ true → bit (get_or hood g 0) f ≡ true

-- these masks by field
unfoldable pub hood_in : List ℕ → ℕ → ℕ
hood_in hood f = get_or hood f 0

-- every setting of field f passes over its neighbourhood
abbrev pub FieldPasses : (P : Problem) (hood S : List ℕ) → ℕ → Type 0
FieldPasses P hood S f = (v : ℕ) → has S f v ≡ true → passes_over P (get_or hood f 0) S f v ≡ true

module _ (P : Problem) where
  -- ---- what every engine promises: wiped out exactly when a field of the offers is empty, and otherwise the offers

  pub record Offered (hood : ℕ → ℕ) (selected : ℕ) (S : List ℕ) (wiped : Bool) (R : List ℕ) : Type 0 where
    pub wipes : wiped ≡ wiped_out P hood selected S
    pub made : wiped ≡ false → R ≡ offers P hood selected S

  abbrev pub Engine : List ℕ → ℕ → List ℕ → Bool → List ℕ → Type 0
  Engine hood selected S wiped R = Offered (hood_in hood) selected S wiped R

  -- ---- the start: no field is empty, and the set is closed

  pub record Begun (S : List ℕ) (wiped : Bool) (R : List ℕ) : Type 0 where
    pub sized : length R ≡ length S
    pub inside : wiped ≡ false → R ⊆ S
    pub live : wiped ≡ false → Live P R
    pub steady : wiped ≡ false → (hood : ℕ → ℕ) (selected : ℕ) → offers P hood selected R ≡ offers P hood selected S
    pub none : wiped ≡ true → (hood : ℕ → ℕ) (selected : ℕ) → wiped_out P hood selected S ≡ true

  pub begun-empty : (S : List ℕ) → some_empty P.fields S ≡ true → Begun S true S
  begun-empty S e = record {
    sized = refl;
    inside = λ q. absurd (true≢false q);
    live = λ q. absurd (true≢false q);
    steady = λ q. absurd (true≢false q);
    none = λ _ hood selected. let x = some_empty-at P.fields S e in
        wiped_out-by P hood selected S S x.0 x.1 (offers-is P hood selected S).inside x.2;
  }

  pub all_full : (S : List ℕ) → some_empty P.fields S ≡ false → NoneEmpty P (all_fields P) S
  all_full S e g i = not_so (empty S g) (λ z. never (some_empty-by P.fields S g i.0 z) e)

  pub begun_closed : (S : List ℕ) → OnFields P S → (wiped : Bool) (touched : ℕ) (R : List ℕ) → Closes P (all_fields P) S wiped touched R
      → Begun S wiped R
  begun_closed S on wiped touched R c = record {
    sized = c.sized;
    inside = λ e. (c.shrunk e).inside;
    live = λ e. record {
      on = λ f v h. on f v ((c.shrunk e).inside f v h);
      shut = rw (c.made e) (closing-is P (all_fields P) S).good;
      full = rw (c.made e) (none_empty-at P (all_fields P) _ (not-false _ (sym c.wipes ∙ e)));
    };
    steady = λ e hood selected. ap (offers P hood selected) (c.made e) ∙ offers_of-closing P hood selected S;
    none = λ e hood selected.
        wiped-by P hood selected S _ (offers_in_closing P hood selected S S (offers-is P hood selected S).inside)
        (not-true _ (sym c.wipes ∙ e));
  }

  module _ (hood : List ℕ) (selected : ℕ) where
    abbrev offered : List ℕ → List ℕ
    offered = offers P (hood_in hood) selected

    offered-none : (S R : List ℕ) → wiped_out P (hood_in hood) selected S ≡ true → Engine hood selected S true R
    offered-none S R e = record { wipes = sym e; made = λ q. absurd (true≢false q) }

    -- a live set with the same offers, in which every setting of a selected field passes
    offered-done : (S R : List ℕ) → offered R ≡ offered S → Live P R → ((f : ℕ) → In P selected f → FieldPasses P hood R f)
        → Engine hood selected S false R
    unfolding wiped_out hood_in
    offered-done S R e l p =
        let c : PartiallyConsistent P (hood_in hood) selected R =
        record { shut = l.shut; passing = λ f v i h. passes_over-at P (get_or hood f 0) R f v (p f i v h) } in
        let own = IsLargest-self (PartiallyConsistent P (hood_in hood) selected) R c in
        let q : R ≡ offered S = sym (offers_unique P (hood_in hood) selected R R own) ∙ e in
        record {
          wipes = sym (ap (some_empty P.fields) (sym q) ∙ not_so (some_empty P.fields R) (λ w.
              let x = some_empty-at P.fields R w in never x.2 (l.full x.0 (in_all_fields P x.0 x.1))));
          made = λ _. q;
        }

    pub begun-engine : (S R : List ℕ) → Begun S true R → Engine hood selected S true R
    begun-engine S R b = offered-none S R (b.none refl (hood_in hood) selected)

    -- ---- what holds of the set between two visits, from S0

    pub record Kept (S0 : List ℕ) (touched : ℕ) (S : List ℕ) : Type 0 where
      pub shrunk : Shrunk S0 S touched
      pub marks : Within touched (all_fields P)
      pub live : Live P S
      pub steady : offers P (hood_in hood) selected S ≡ offers P (hood_in hood) selected S0

    abbrev pub Wiped : List ℕ → Type 0
    Wiped S0 = wiped_out P (hood_in hood) selected S0 ≡ true

    pub kept-start : (S : List ℕ) → Live P S → Kept S 0 S
    kept-start S l =
        record { shrunk = shrunk-none S; marks = λ v e. absurd (never e (bit_of-zero v)); live = l; steady = refl }

    pub kept_then : {S R Q : List ℕ} {a b : ℕ} → Kept S a R → Kept R b Q → Kept S (bit_or a b) Q
    kept_then {S} {R} {Q} {a} {b} x y = record {
      shrunk = shrunk-then x.shrunk y.shrunk;
      marks = or-within a b (all_fields P) x.marks y.marks;
      live = y.live;
      steady = y.steady ∙ x.steady;
    }

    pub kept-wiped : {S R : List ℕ} {a : ℕ} → Kept S a R → Wiped R → Wiped S
    kept-wiped {S} {R} x w = wiped-same P (hood_in hood) selected R S x.steady w

    -- after a visit of a selected field f over its neighbourhood
    module _ (f : ℕ) (i : In P selected f) (S : List ℕ) (wiped : Bool) (touched : ℕ) (R : List ℕ)
        (v : Visited P (get_or hood f 0) f S wiped touched R) where
      pub visit-kept : wiped ≡ false → Kept S touched R
      unfolding hood_in
      visit-kept e =
          record { shrunk = v.shrunk e; marks = v.marks e; live = v.live e; steady = v.steady e (hood_in hood) selected refl i }

      pub visit-wiped : wiped ≡ true → Wiped S
      unfolding hood_in
      visit-wiped e = v.none e (hood_in hood) selected refl i

    -- ---- the ends of an engine that began from S with M

    module _ (S M : List ℕ) (b : Begun S false M) where
      pub engine-none : {R : List ℕ} → Wiped M → Engine hood selected S true R
      engine-none {R} w = offered-none S R (wiped-same P (hood_in hood) selected M S (b.steady refl (hood_in hood) selected) w)

      pub engine-done : {R : List ℕ} {touched : ℕ} → Kept M touched R → ((f : ℕ) → In P selected f → FieldPasses P hood R f)
          → Engine hood selected S false R
      engine-done {R} x p = offered-done S R (x.steady ∙ b.steady refl (hood_in hood) selected) x.live p
