-- The selected fields (02, request 7): which calls set the mask, which masks 18 lets pass, and the offers under it. Assumes nothing.
use Rattle.std.specs.Prelude.{◌≡◌, refl, true, false, List, [], ◌∷◌, ℕ, ◌<◌, eqb, ltb}
use Rattle.std.proofs.Common.{ap, ◌∙◌}
use Rattle.std.proofs.Math.Logic.{⊎_elim}
use Rattle.std.proofs.Math.Bool.{not}
use borrow.Author.Tests.{eqb-false, ltb-true, ltb-false}
use Rattle.masks.specs.Tests.{never, bool_cases, eq_cases}
use Rattle.masks.specs.Bits.{bit, Within}
use Rattle.masks.proofs.Bits.{bit_of-zero}
use Rattle.masks.specs.Masks.{keep_bits}
use Rattle.masks.proofs.Masks.{some_bit-by}
use Rattle.masks.specs.Sets.{has, ◌⊆◌}
use Rattle.consistency.specs.Problem.{Problem, OnFields, all_fields}
use Rattle.consistency.specs.Largest.{IsLargest}
use Rattle.consistency.specs.Neighbourhood.{neighbourhood}
use Rattle.consistency.specs.Offers.{PartiallyConsistent}
use Rattle.consistency.proofs.Offers.{offers-is}
use Rattle.consistency.specs.AllSelected.{offers_all_tested}
use Rattle.consistency.proofs.AllSelected.{offers_all_selected}
use Rattle.consistency.proofs.Order.{offers-more-selected}
use Rattle.sheet.specs.Sources.{Accepted}
use Rattle.accepted.specs.declared.outline.Outline.{Outline}
use Rattle.accepted.specs.Lists.{tabulate-past}
use Rattle.accepted.specs.Parts.{reach_of}
use Rattle.accepted.specs.Facts.{facts}
use Rattle.accepted.specs.Outline.{outline_of}
use Rattle.network.specs.SheetProblem.{sheet_problem, sheet-triples}
use Rattle.ledger.specs.declared.Decision.{Decision}
use Rattle.ledger.specs.declared.Event.{Event}
use Rattle.ledger.specs.declared.Call.{Call}
use Rattle.ledger.specs.declared.Call.TheVariants.{Open, Show, Decide, Back, CoilOn}
use Rattle.ledger.specs.Ledger.{Ledger, backed, step, settings, starts, start_set, offers_of, Given, no_selection}
use Rattle.ledger.specs.Ledger.{number, after}
use Rattle.ledger.specs.Laws.{Alike}
use Rattle.ledger.proofs.Laws.{accepted-steps, refused-keeps, alike-start}
use Rattle.ledger.proofs.Judging.{or_left, or_right}

-- ---- which calls set the mask

-- an accepted open
pub open-selects : (g : Given) (selected : ℕ) (l : Ledger) → number g (Open selected) l ≡ 0
    → (after g (Open selected) l).selected ≡ selected
unfolding step
open-selects g selected l e = ap (λ (m : Ledger). m.selected) (accepted-steps g (Open selected) l e)

backed-keeps : (es : List Event) (ds : List Decision) (selected : ℕ) → (backed es ds selected).selected ≡ selected
unfolding backed
backed-keeps [] ds selected = refl
backed-keeps (e ∷ es) ds selected = refl

step_keeps : (c : Call) (l : Ledger) → ((selected : ℕ) → c ≡ Open selected → ⊥) → (step c l).selected ≡ l.selected
unfolding step
step_keeps (Open selected) l n = absurd (n selected refl)
step_keeps Show l n = refl
step_keeps (Decide e) l n = refl
step_keeps Back l n = backed-keeps l.events l.decisions l.selected
step_keeps CoilOn l n = refl

-- a call but open leaves it, accepted or refused
pub others_keep : (g : Given) (c : Call) (l : Ledger) → ((selected : ℕ) → c ≡ Open selected → ⊥) → (after g c l).selected ≡ l.selected
others_keep g c l n = ⊎_elim
    (λ e. ap (λ (m : Ledger). m.selected) (accepted-steps g c l e) ∙ step_keeps c l n)
    (λ e. ap (λ (m : Ledger). m.selected) (refused-keeps g c l e))
    (eq_cases (number g c l) 0)

-- ---- a mask that 18 does not refuse: some field, and fields of the sheet only

module _ (o : Outline) (selected : ℕ) (e : no_selection o selected ≡ false) where
  pub selection_some : selected ≡ 0 → ⊥
  unfolding no_selection
  selection_some = eqb-false selected 0 (or_left _ _ e)

  pub selection_low : (f : ℕ) → bit selected f ≡ true → f < o.fields
  unfolding no_selection
  selection_low f b = ⊎_elim (λ q. ltb-true f o.fields q)
      (λ q. absurd (never (some_bit-by selected (λ g. not (ltb g o.fields)) f b (ap not q)) (or_right (eqb selected 0) _ e)))
      (bool_cases (ltb f o.fields))

-- ---- the offers

module _ (xs : List ℕ) where
  abbrev P : Problem
  P = sheet_problem xs

  abbrev start : Ledger → List ℕ
  start l = start_set (outline_of xs) l.decisions

  -- the start set has settings of the sheet's fields only
  pub start-on : (ds : List Decision) → OnFields (sheet_problem xs) (start_set (outline_of xs) ds)
  unfolding start_set has
  start-on ds f v h = ⊎_elim (λ q. field f (ltb-true f (outline_of xs).fields q))
      (λ q. absurd (never h (ap (λ (m : ℕ). bit m v) (tabulate-past (outline_of xs).fields (λ g. keep_bits (settings (outline_of xs) g)
      (starts (outline_of xs) ds g)) f (ltb-false f (outline_of xs).fields q)) ∙ bit_of-zero v)))
      (bool_cases (ltb f (outline_of xs).fields))
    where
      field : (f : ℕ) → f < (outline_of xs).fields → f < (sheet_problem xs).fields
      field f i = unfold sheet_problem in (unfold outline_of in i)

  -- The ledger's offers: the largest part of its start set that is closed and in which every setting of a selected field passes its test.
  pub offers_of-is : (l : Ledger)
      → IsLargest (PartiallyConsistent (sheet_problem xs) (neighbourhood (sheet_problem xs) (reach_of xs)) l.selected)
      (start_set (outline_of xs) l.decisions) (offers_of xs l)
  unfolding offers_of
  offers_of-is l = offers-is P (neighbourhood P (reach_of xs)) l.selected (start l)

  -- THE THEOREM: with every field selected the ledger's offers are those of 01.
  pub all_selected : Accepted xs → (l : Ledger) → Within (all_fields (sheet_problem xs)) l.selected
      → offers_of xs l ≡ offers_all_tested (sheet_problem xs) (reach_of xs) (start_set (outline_of xs) l.decisions)
  unfolding offers_of
  all_selected a l every =
      offers_all_selected P (reach_of xs) (facts xs a).reach-some (sheet-triples xs a) l.selected every (start l)
      (start-on l.decisions)

  -- THE THEOREM: under the same decisions a selection that includes another offers no setting that the other doesn't.
  pub more-selected : (l m : Ledger) → Alike l.decisions m.decisions → Within m.selected l.selected
      → offers_of xs l ⊆ offers_of xs m
  unfolding offers_of
  more-selected l m a w =
      rw (alike-start l.decisions m.decisions a (outline_of xs))
      (offers-more-selected P (neighbourhood P (reach_of xs)) m.selected l.selected w (start m))
