-- A ledger that began with an open is never malformed: every accepted call keeps it so, and so no call answers 15. And whatever the ledger
-- holds, no call answers 8, and none but open answers 18. Assumes nothing.
use Rattle.std.specs.Prelude.{◌≡◌, refl, Bool, false, not, ◌&&◌, ◌||◌, ℕ, ◌<◌, length}
use Rattle.std.proofs.Common.{sym, ap, ◌∙◌, ⊎_elim, arith}
use Rattle.std.proofs.Math.Bool.{true, and-false}
use mathlib.Core.List.{List, [], ◌∷◌}
use borrow.Author.Tests.{eqb-false}
use Rattle.limits.specs.Limits.{most_events}
use Rattle.limits.specs.Refusals.{TOO_NARROW, MALFORMED, NO_SELECTION}
use Rattle.masks.specs.Tests.{never, eq_cases, and_l, and_r, and-by, or_l}
use Rattle.sheet.specs.Sources.{numbers, of_bytes}
use Rattle.accepted.specs.declared.outline.Outline.{Outline}
use Rattle.accepted.specs.Outline.{outline_of}
use Rattle.ledger.specs.declared.Decision.{Decision}
use Rattle.ledger.specs.declared.Change.{Change}
use Rattle.ledger.specs.declared.Change.TheVariants.{Adds, Withdraws, Neither}
use Rattle.ledger.specs.declared.Event.{Event}
use Rattle.ledger.specs.declared.Call.{Call}
use Rattle.ledger.specs.declared.Call.TheVariants.{Open, Show, Decide, Back, CoilOn}
use Rattle.ledger.specs.Ledger.{change_of, Ledger, same_decision, in_force, with, without}
use Rattle.ledger.specs.Ledger.{applied, reverted, opened, backed, step, Given, on_sheet, all_on_sheet, revertible, reversible}
use Rattle.ledger.specs.Ledger.{no_selection, malformed, off_sheet, added_again, withdrawn_unheld, number, after}
use Rattle.ledger.proofs.Laws.{accepted-steps, refused-keeps}
use Rattle.ledger.specs.Laws.{Alike}
use Rattle.ledger.proofs.Laws.{decision-at, decision-self, in_force-with, in_force-without, all_on_at, all_on_by, alike-reversible}
use Rattle.ledger.proofs.Judging.{Clear, none-applies, not_back, WellFormed, well_formed, formed-by, number_avoids}

pub and-true : (b : Bool) → (b && true) ≡ b
and-true true = refl
and-true false = refl

-- ---- one decision more and less again

-- a decision that was not in force, added and taken back
added-back : (d : Decision) (ds : List Decision) → in_force ds d ≡ false → Alike (without d (with d ds)) ds
added-back d ds n e =
    in_force-without d (with d ds) e ∙ ap (λ (b : Bool). b && not (same_decision d e)) (in_force-with d ds e) ∙ go (same_decision d e) refl
  where
    go : (b : Bool) → same_decision d e ≡ b → ((b || in_force ds e) && not b) ≡ in_force ds e
    go true q = sym (ap (in_force ds) (sym (decision-at d e q)) ∙ n)
    go false q = and-true (in_force ds e)

-- a decision that was in force, withdrawn and brought back
withdrawn_back : (d : Decision) (ds : List Decision) → in_force ds d ≡ true → Alike (with d (without d ds)) ds
withdrawn_back d ds n e =
    in_force-with d (without d ds) e ∙ ap (λ (b : Bool). same_decision d e || b) (in_force-without d ds e) ∙ go (same_decision d e) refl
  where
    go : (b : Bool) → same_decision d e ≡ b → (b || (in_force ds e && not b)) ≡ in_force ds e
    go true q = sym (ap (in_force ds) (sym (decision-at d e q)) ∙ n)
    go false q = and-true (in_force ds e)

-- a change that neither 10 nor 11 refuses, reversed
pub applied_back : (k : Change) (ds : List Decision) → added_again k ds ≡ false → withdrawn_unheld k ds ≡ false
    → Alike (reverted k (applied k ds)) ds
applied_back (Adds d) ds a b = added-back d ds a
applied_back (Withdraws d) ds a b = withdrawn_back d ds (not_back _ b)
applied_back Neither ds a b = λ e. refl

gone : (d : Decision) (ds : List Decision) → in_force (without d ds) d ≡ false
gone d ds = in_force-without d ds d ∙ ap (λ (b : Bool). in_force ds d && not b) (decision-self d) ∙ and-false (in_force ds d)

here : (d : Decision) (ds : List Decision) → in_force (with d ds) d ≡ true
here d ds = in_force-with d ds d ∙ or_l _ _ (decision-self d)

-- ---- what is not malformed

module _ (o : Outline) where
  -- no events
  fresh-formed : (ds : List Decision) (selected : ℕ) → all_on_sheet o ds ≡ true → no_selection o selected ≡ false
      → malformed o (record { decisions = ds; events = []; selected = selected }) ≡ false
  fresh-formed ds selected a s = formed-by o (record { decisions = ds; events = []; selected = selected }) (record {
    on = a;
    few = omega arith;
    reverses = unfold reversible in refl;
    selects = s;
  })

  pub opened-formed : (selected : ℕ) → no_selection o selected ≡ false → malformed o (opened selected) ≡ false
  opened-formed selected s = fresh-formed [] selected (unfold all_on_sheet in refl) s

  on-with : (d : Decision) (ds : List Decision) → on_sheet o d ≡ true → all_on_sheet o ds ≡ true → all_on_sheet o (with d ds) ≡ true
  unfolding all_on_sheet
  on-with d ds n a = and-by _ _ n a

  on-without : (d : Decision) (ds : List Decision) → all_on_sheet o ds ≡ true → all_on_sheet o (without d ds) ≡ true
  on-without d ds a = all_on_by o (without d ds) (λ e h. all_on_at o ds a e (and_l _ _ (sym (in_force-without d ds e) ∙ h)))

  -- a change on the sheet, made
  on-applied : (k : Change) (ds : List Decision) → off_sheet o k ≡ false → all_on_sheet o ds ≡ true → all_on_sheet o (applied k ds) ≡ true
  on-applied (Adds d) ds n a = on-with d ds (not_back _ n) a
  on-applied (Withdraws d) ds n a = on-without d ds a
  on-applied Neither ds n a = a

  applied-revertible : (k : Change) (ds : List Decision) → off_sheet o k ≡ false → revertible o k (applied k ds) ≡ true
  applied-revertible (Adds d) ds n = and-by _ _ (not_back (on_sheet o d) n) (here d ds)
  applied-revertible (Withdraws d) ds n = and-by _ _ (not_back (on_sheet o d) n) (ap not (gone d ds))
  applied-revertible Neither ds n = sym n

  -- a change that can be reversed, reversed
  on-reverted : (k : Change) (ds : List Decision) → revertible o k ds ≡ true → all_on_sheet o ds ≡ true
      → all_on_sheet o (reverted k ds) ≡ true
  on-reverted (Adds d) ds r a = on-without d ds a
  on-reverted (Withdraws d) ds r a = on-with d ds (and_l _ _ r) a
  on-reverted Neither ds r a = a

  decided-formed : (e : Event) (l : Ledger) → malformed o l ≡ false → off_sheet o (change_of e) ≡ false
      → added_again (change_of e) l.decisions ≡ false → withdrawn_unheld (change_of e) l.decisions ≡ false
      → length l.events < most_events → malformed o (step (Decide e) l) ≡ false
  unfolding step
  decided-formed e l f p a b r =
      let w = well_formed o l f in
      formed-by o (record { decisions = applied (change_of e) l.decisions; events = e ∷ l.events; selected = l.selected }) (record {
        on = on-applied (change_of e) l.decisions p w.on;
        few = omega arith;
        reverses = unfold reversible in (and-by _ _ (applied-revertible (change_of e) l.decisions p)
            (alike-reversible o l.events _ _ (applied_back (change_of e) l.decisions a b) ∙ w.reverses));
        selects = w.selects;
      })

  -- the latest event reversed
  backed-formed : (es : List Event) (ds : List Decision) (selected : ℕ)
      → WellFormed o (record { decisions = ds; events = es; selected = selected }) → malformed o (backed es ds selected) ≡ false
  unfolding backed
  backed-formed [] ds selected w = fresh-formed ds selected w.on w.selects
  backed-formed (e ∷ es) ds selected w =
      let r : (revertible o (change_of e) ds && reversible o es (reverted (change_of e) ds)) ≡ true = unfold reversible in w.reverses in
      formed-by o (record { decisions = reverted (change_of e) ds; events = es; selected = selected }) (record {
        on = on-reverted (change_of e) ds (and_l _ _ r) w.on;
        few = let n = w.few in omega arith;
        reverses = and_r (revertible o (change_of e) ds) _ r;
        selects = w.selects;
      })

  -- An accepted call keeps a ledger that is not malformed so.
  clear-formed : (c : Call) (engine : ℕ) (order : List ℕ) (l : Ledger) → Clear o c engine order l → malformed o l ≡ false
      → malformed o (step c l) ≡ false
  clear-formed (Open selected) engine order l v f = unfold step in opened-formed selected v.of_session.0
  clear-formed Show engine order l v f = unfold step in f
  clear-formed (Decide e) engine order l v f = decided-formed e l f v.of_place.0 v.of_step.0 v.of_step.1.0
      (let w = (well_formed o l f).few in let n = eqb-false (length l.events) most_events v.of_step.1.1.0 in omega arith)
  clear-formed Back engine order l v f =
      unfold step in backed-formed l.events l.decisions l.selected (well_formed o l f)
  clear-formed CoilOn engine order l v f =
      let w = well_formed o l f in
      unfold step in fresh-formed l.decisions l.selected w.on w.selects

module _ (g : Given) (l : Ledger) where
  abbrev o : Outline
  o = outline_of (numbers (of_bytes g.sheet))

  pub step-formed : (c : Call) → number g c l ≡ 0 → malformed o l ≡ false → malformed o (step c l) ≡ false
  step-formed c e f = clear-formed o c g.engine g.order l (none-applies g c l e) f

  pub after-formed : (c : Call) → malformed o l ≡ false → malformed o (after g c l) ≡ false
  after-formed c f = ⊎_elim
      (λ e. rw (accepted-steps g c l e) (step-formed c e f))
      (λ e. rw (refused-keeps g c l e) f)
      (eq_cases (number g c l) 0)

  -- A call on a ledger that is not malformed does not answer 15.
  pub never_15 : (c : Call) → malformed o l ≡ false → number g c l ≡ MALFORMED → ⊥
  never_15 c f =
      number_avoids g c l MALFORMED (omega arith) (λ z. omega arith)
      (record { not_15 = λ e _. never e f; not_18 = λ _ _ z. omega arith }) (λ a b. omega arith)

  -- No call gives 8, whatever it is given and whatever the ledger holds (02, request 2).
  pub never_8 : (c : Call) → number g c l ≡ TOO_NARROW → ⊥
  never_8 c =
      number_avoids g c l TOO_NARROW (omega arith) (λ z. omega arith)
      (record { not_15 = λ _ z. omega arith; not_18 = λ _ _ z. omega arith }) (λ a b. omega arith)

  -- No call but open gives 18 (02, request 7).
  pub never_18 : (c : Call) → ((selected : ℕ) → c ≡ Open selected → ⊥) → number g c l ≡ NO_SELECTION → ⊥
  never_18 c n =
      number_avoids g c l NO_SELECTION (omega arith) (λ z. omega arith)
      (record { not_15 = λ _ z. omega arith; not_18 = λ selected e _. n selected e }) (λ a b. omega arith)
