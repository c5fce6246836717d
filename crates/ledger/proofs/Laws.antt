-- Laws of the ledger: of decisions as a set, and that nothing depends on more than which decisions are in force, on the events and on the
-- selected fields. Assumes nothing.
use Rattle.std.specs.Prelude.{◌≡◌, Bool, true, ◌&&◌, ◌||◌, ℕ, eqb}
use Rattle.std.proofs.Math.Path.{refl, ap, ap₂, fun_ext}
use Rattle.std.proofs.Common.{sym, ◌∙◌, eqb-true, eq-eqb, ne_eqb}
use Rattle.std.proofs.Math.Logic.{⊎_elim}
use Rattle.std.proofs.Math.Bool.{false, not}
use mathlib.Core.List.{List, [], ◌∷◌}
use Rattle.masks.specs.Tests.{never, bool_cases, iff_eq, and_l, and_r, and-by, or_l, or_r, or_at}
use Rattle.masks.specs.Masks.{keep_bits, some_bit}
use Rattle.masks.specs.Pick.{pick, pick_true, pick-false}
use Rattle.consistency.specs.Neighbourhood.{neighbourhood}
use Rattle.consistency.specs.Offers.{offers, wiped_out}
use Rattle.sheet.specs.Sources.{numbers, of_bytes}
use Rattle.accepted.specs.declared.outline.Outline.{Outline}
use Rattle.accepted.specs.Lists.{tabulate}
use Rattle.accepted.specs.Parts.{reach_of}
use Rattle.accepted.specs.Outline.{outline_of}
use Rattle.network.specs.SheetProblem.{sheet_problem}
use Rattle.ledger.specs.declared.Decision.{Decision}
use Rattle.ledger.specs.declared.Decision.TheVariants.{Choice, Strike}
use Rattle.ledger.specs.declared.Change.{Change}
use Rattle.ledger.specs.declared.Change.TheVariants.{Adds, Withdraws, Neither}
use Rattle.ledger.specs.declared.Event.{Event}
use Rattle.ledger.specs.declared.Call.{Call}
use Rattle.ledger.specs.declared.Call.TheVariants.{Open, Show, Decide, Back, CoilOn}
use Rattle.ledger.specs.Laws.{Alike, SameLedger}
use Rattle.ledger.specs.Ledger.{change_of, Ledger, same_decision, in_force}
use Rattle.ledger.specs.Ledger.{with, without, applied, reverted, backed, step, settings, other_chosen, starts, start_set, offers_of}
use Rattle.ledger.specs.Ledger.{wiped, Given, on_sheet, all_on_sheet, revertible, reversible, malformed, session_causes}
use Rattle.ledger.specs.Ledger.{added_again, withdrawn_unheld, step_causes, judged, causes, number, after}

-- ---- the ledger after a call: its step where it is accepted, and as it was where it is refused

module _ (g : Given) (c : Call) (l : Ledger) where
  pub accepted-steps : number g c l ≡ 0 → after g c l ≡ step c l
  unfolding after
  accepted-steps e = pick_true _ _ _ (eq-eqb _ 0 e)

  pub refused-keeps : (number g c l ≡ 0 → ⊥) → after g c l ≡ l
  unfolding after
  refused-keeps n = pick-false _ _ _ (ne_eqb _ 0 n)

-- ---- the same decision

pub decision-at : (d e : Decision) → same_decision d e ≡ true → d ≡ e
unfolding same_decision
decision-at (Choice f v) (Choice g u) q = ap₂ Choice (eqb-true f g (and_l _ _ q)) (eqb-true v u (and_r (eqb f g) _ q))
decision-at (Choice f v) (Strike g u) q = absurd (never q refl)
decision-at (Strike f v) (Choice g u) q = absurd (never q refl)
decision-at (Strike f v) (Strike g u) q = ap₂ Strike (eqb-true f g (and_l _ _ q)) (eqb-true v u (and_r (eqb f g) _ q))

pub decision-self : (d : Decision) → same_decision d d ≡ true
unfolding same_decision
decision-self (Choice f v) = and-by _ _ (eq-eqb f f refl) (eq-eqb v v refl)
decision-self (Strike f v) = and-by _ _ (eq-eqb f f refl) (eq-eqb v v refl)

-- ---- one decision more, one less

pub in_force-with : (d : Decision) (ds : List Decision) (e : Decision) → in_force (with d ds) e ≡ (same_decision d e || in_force ds e)
unfolding in_force
in_force-with d ds e = refl

pub in_force-without : (d : Decision) (ds : List Decision) (e : Decision)
    → in_force (without d ds) e ≡ (in_force ds e && not (same_decision d e))
unfolding in_force without
in_force-without d [] e = refl
in_force-without d (x ∷ ds) e = ⊎_elim
    (λ (q : same_decision x d ≡ true). rw (pick_true (same_decision x d) (without d ds) (x ∷ without d ds) q) (in_force-without d ds e
    ∙ sym (ap (λ (y : Decision). (same_decision y e || in_force ds e) && not (same_decision d e)) (decision-at x d q)
    ∙ gone (same_decision d e) (in_force ds e))))
    (λ (q : same_decision x d ≡ false). rw (pick-false (same_decision x d) (without d ds) (x ∷ without d ds) q)
    (ap (λ (b : Bool). same_decision x e || b) (in_force-without d ds e)
    ∙ stays (same_decision x e) (in_force ds e) (same_decision d e) (λ p. sym (ap (same_decision x) (decision-at d e p)) ∙ q)))
    (bool_cases (same_decision x d))
  where
    gone : (a b : Bool) → ((a || b) && not a) ≡ (b && not a)
    gone true true = refl
    gone true false = refl
    gone false b = refl

    stays : (a b s : Bool) → (s ≡ true → a ≡ false) → (a || (b && not s)) ≡ ((a || b) && not s)
    stays true b true h = absurd (never refl (h refl))
    stays true true false h = refl
    stays true false false h = refl
    stays false b s h = refl

-- ---- decisions on the sheet

module _ (o : Outline) where
  pub all_on_at : (ds : List Decision) → all_on_sheet o ds ≡ true → (d : Decision) → in_force ds d ≡ true → on_sheet o d ≡ true
  unfolding all_on_sheet in_force
  all_on_at [] a d h = absurd (never h refl)
  all_on_at (e ∷ ds) a d h = ⊎_elim
      (λ q. ap (on_sheet o) (sym (decision-at e d q)) ∙ and_l _ _ a)
      (λ q. all_on_at ds (and_r (on_sheet o e) _ a) d q)
      (or_at (same_decision e d) (in_force ds d) h)

  pub all_on_by : (ds : List Decision) → ((d : Decision) → in_force ds d ≡ true → on_sheet o d ≡ true) → all_on_sheet o ds ≡ true
  unfolding all_on_sheet in_force
  all_on_by [] h = refl
  all_on_by (e ∷ ds) h = and-by _ _ (h e (or_l _ _ (decision-self e))) (all_on_by ds (λ d q. h d (or_r (same_decision e d) _ q)))

-- ---- the same decisions in force

module _ (ds es : List Decision) (a : Alike ds es) where
  pub alike-with : (d : Decision) → Alike (with d ds) (with d es)
  alike-with d e = in_force-with d ds e ∙ ap (λ (b : Bool). same_decision d e || b) (a e) ∙ sym (in_force-with d es e)

  pub alike-without : (d : Decision) → Alike (without d ds) (without d es)
  alike-without d e = in_force-without d ds e ∙ ap (λ (b : Bool). b && not (same_decision d e)) (a e) ∙ sym (in_force-without d es e)

  pub alike-applied : (k : Change) → Alike (applied k ds) (applied k es)
  alike-applied (Adds d) = alike-with d
  alike-applied (Withdraws d) = alike-without d
  alike-applied Neither = a

  pub alike-reverted : (k : Change) → Alike (reverted k ds) (reverted k es)
  alike-reverted (Adds d) = alike-without d
  alike-reverted (Withdraws d) = alike-with d
  alike-reverted Neither = a

  pub alike-on : (o : Outline) → all_on_sheet o ds ≡ all_on_sheet o es
  alike-on o = iff_eq _ _
      (λ h. all_on_by o es (λ d q. all_on_at o ds h d (a d ∙ q)))
      (λ h. all_on_by o ds (λ d q. all_on_at o es h d (sym (a d) ∙ q)))

  alike-starts : (o : Outline) (f : ℕ) → starts o ds f ≡ starts o es f
  unfolding starts other_chosen
  alike-starts o f = fun_ext (λ v. ap₂ (λ (x y : Bool). not x && not y) (a (Strike f v))
      (ap (some_bit (settings o f)) (fun_ext (λ u. ap (λ (x : Bool). x && not (eqb u v)) (a (Choice f u))))))

  pub alike-start : (o : Outline) → start_set o ds ≡ start_set o es
  unfolding start_set
  alike-start o = ap (tabulate o.fields) (fun_ext (λ f. ap (keep_bits (settings o f)) (alike-starts o f)))

  alike-revertible : (o : Outline) (k : Change) → revertible o k ds ≡ revertible o k es
  alike-revertible o (Adds d) = ap (λ (x : Bool). on_sheet o d && x) (a d)
  alike-revertible o (Withdraws d) = ap (λ (x : Bool). on_sheet o d && not x) (a d)
  alike-revertible o Neither = refl

  alike_again : (k : Change) → added_again k ds ≡ added_again k es
  alike_again (Adds d) = a d
  alike_again (Withdraws d) = refl
  alike_again Neither = refl

  alike-unheld : (k : Change) → withdrawn_unheld k ds ≡ withdrawn_unheld k es
  alike-unheld (Adds d) = refl
  alike-unheld (Withdraws d) = ap not (a d)
  alike-unheld Neither = refl

pub alike-reversible : (o : Outline) (past : List Event) (ds es : List Decision) → Alike ds es → reversible o past ds ≡ reversible o past es
unfolding reversible
alike-reversible o [] ds es a = refl
alike-reversible o (e ∷ past) ds es a =
    ap₂ ◌&&◌ (alike-revertible ds es a o (change_of e)) (alike-reversible o past _ _ (alike-reverted ds es a (change_of e)))

-- ---- ledgers that are the same: the same decisions in force, the same events, the same selected fields

pub same_ledger : (l : Ledger) → SameLedger l l
same_ledger l = record { held = λ d. refl; past = refl; selected = refl }

pub same_then : {l m n : Ledger} → SameLedger l m → SameLedger m n → SameLedger l n
same_then s t = record { held = λ d. s.held d ∙ t.held d; past = s.past ∙ t.past; selected = s.selected ∙ t.selected }

module _ (l m : Ledger) where
  -- The offers depend on the decisions in force and on the selected fields alone.
  pub alike-offers : (xs : List ℕ) → Alike l.decisions m.decisions → l.selected ≡ m.selected → offers_of xs l ≡ offers_of xs m
  unfolding offers_of
  alike-offers xs a e =
      let P = sheet_problem xs in
      ap₂ (offers P (neighbourhood P (reach_of xs))) e (alike-start _ _ a (outline_of xs))

  pub alike-wiped : (xs : List ℕ) → Alike l.decisions m.decisions → l.selected ≡ m.selected → wiped xs l ≡ wiped xs m
  unfolding wiped
  alike-wiped xs a e =
      let P = sheet_problem xs in
      ap₂ (wiped_out P (neighbourhood P (reach_of xs))) e (alike-start _ _ a (outline_of xs))

  pub same-malformed : (o : Outline) → SameLedger l m → malformed o l ≡ malformed o m
  unfolding malformed
  same-malformed o s = rw (s.past, alike-on _ _ s.held o, alike-reversible o m.events _ _ s.held, s.selected)

backed-same : (past : List Event) (ds es : List Decision) (m n : ℕ) → Alike ds es → m ≡ n
    → SameLedger (backed past ds m) (backed past es n)
unfolding backed
backed-same [] ds es m n a e = record { held = a; past = refl; selected = e }
backed-same (x ∷ past) ds es m n a e = record { held = alike-reverted ds es a (change_of x); past = refl; selected = e }

pub step_same : (c : Call) (l m : Ledger) → SameLedger l m → SameLedger (step c l) (step c m)
unfolding step
step_same (Open selected) l m s = record { held = λ d. refl; past = refl; selected = refl }
step_same Show l m s = s
step_same (Decide e) l m s = record {
  held = alike-applied _ _ s.held (change_of e);
  past = ap (λ (es : List Event). e ∷ es) s.past;
  selected = s.selected;
}
step_same Back l m s =
    rw s.past (backed-same m.events l.decisions m.decisions l.selected m.selected s.held s.selected)
step_same CoilOn l m s = record { held = s.held; past = refl; selected = s.selected }

session-same : (o : Outline) (c : Call) (l m : Ledger) → SameLedger l m → session_causes o c l ≡ session_causes o c m
session-same o (Open selected) l m s = refl
session-same o Show l m s = rw (same-malformed l m o s)
session-same o (Decide e) l m s = rw (same-malformed l m o s)
session-same o Back l m s = rw (same-malformed l m o s)
session-same o CoilOn l m s = rw (same-malformed l m o s)

step-causes-same : (c : Call) (l m : Ledger) → SameLedger l m → step_causes c l ≡ step_causes c m
step-causes-same (Open selected) l m s = refl
step-causes-same Show l m s = refl
step-causes-same (Decide e) l m s = rw (alike_again _ _ s.held (change_of e), alike-unheld _ _ s.held (change_of e), s.past)
step-causes-same Back l m s = rw s.past
step-causes-same CoilOn l m s = refl

judged-same : (o : Outline) (c : Call) (engine : ℕ) (order : List ℕ) (l m : Ledger) → SameLedger l m
    → judged o c engine order l ≡ judged o c engine order m
unfolding judged
judged-same o c engine order l m s = rw (session-same o c l m s, step-causes-same c l m s)

-- The number of a call is the same, and so is the ledger after it.
pub number_same : (g : Given) (c : Call) (l m : Ledger) → SameLedger l m → number g c l ≡ number g c m
unfolding number causes
number_same g c l m s =
    let xs = numbers (of_bytes g.sheet) in
    let t = step_same c l m s in
    rw (judged-same (outline_of xs) c g.engine g.order l m s, alike-wiped (step c l) (step c m) xs t.held t.selected)

pub after_same : (g : Given) (c : Call) (l m : Ledger) → SameLedger l m → SameLedger (after g c l) (after g c m)
unfolding after
after_same g c l m s = rw (number_same g c l m s) (by (eqb (number g c m) 0))
  where
    by : (t : Bool) → SameLedger (pick t (step c l) l) (pick t (step c m) m)
    by true = unfold pick in step_same c l m s
    by false = unfold pick in s
