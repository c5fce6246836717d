-- A call that no cause before 14 refuses: its step can be taken, and shows the ledger's step. Assumes nothing.
use Rattle.std.specs.Prelude.{◌≡◌, ◌&&◌, List, ℕ, ◌≤◌, ◌<◌, ltb}
use Rattle.std.proofs.Math.Path.{refl}
use Rattle.std.proofs.Common.{sym, ◌∙◌}
use Rattle.std.proofs.Math.Bool.{true, false}
use native.Mathlib.Omega.{arith}
use borrow.Author.Tests.{eqb-false, ltb-true}
use Rattle.limits.specs.Limits.{most_fields, most_events}
use Rattle.masks.specs.Tests.{never, and_l, and_r}
use Rattle.masks.specs.Sets.{has}
use Rattle.sheet.specs.Sources.{Accepted}
use Rattle.accepted.specs.declared.outline.Outline.{Outline}
use Rattle.accepted.specs.Parts.{fields_of, count_of}
use Rattle.accepted.specs.Facts.{facts}
use Rattle.accepted.specs.Outline.{outline_of, full-has}
use Rattle.ledger.specs.declared.Decision.{Decision}
use Rattle.ledger.specs.declared.Event.{Event}
use Rattle.ledger.specs.declared.Call.{Call}
use Rattle.ledger.specs.declared.Call.TheVariants.{Open, Show, Decide, Back, CoilOn}
use Rattle.ledger.specs.Ledger.{change_of, step}
use Rattle.ledger.specs.Ledger.{on_sheet, revertible, reversible, no_selection, malformed, off_sheet}
use Rattle.ledger.specs.Kinds.{change_any}
use Rattle.ledger.specs.Laws.{SameLedger}
use Rattle.ledger.proofs.Judging.{Clear, not_back, well_formed}
use Rattle.session.specs.declared.Session.{Session}
use Rattle.session.specs.View.{decisions_of, length-past, events-counted, past-latest, view, Sized}
use Rattle.session.specs.Steps.{stepped, latest, RecordAsks, UndoAsks, StepAsks}
use Rattle.session.proofs.Shows.{view-step}

module _ (xs : List ℕ) (a : Accepted xs) where
  abbrev o : Outline
  o = outline_of xs

  -- a setting on the sheet lies within the masks
  on-low : (f v : ℕ) → has o.full f v ≡ true → (f < most_fields) × (v < 32)
  on-low f v e =
      let q = sym (full-has xs f v) ∙ e in
      let h = ltb-true f (fields_of xs) (and_l _ _ q) in
      let k = ltb-true v (count_of xs f) (and_r (ltb f (fields_of xs)) _ q) in
      let n = (facts xs a).fields-few in
      let m = (facts xs a).count-few f h in
      (omega arith, omega arith)

  abbrev Low : Event → Type 0
  Low e = (e.field < most_fields) × (e.position < 32)

  -- so does that of a change which 7 does not refuse, or which can be reversed
  placed-low : (e : Event) → off_sheet o (change_of e) ≡ false → Low e
  unfolding on_sheet
  placed-low e =
      change_any e.kind e.field e.position (λ k. off_sheet o k ≡ false → Low e)
      (λ q. on-low _ _ (not_back _ q)) (λ q. on-low _ _ (not_back _ q)) (λ q. on-low _ _ (not_back _ q)) (λ q. on-low _ _ (not_back _ q))
      (λ q. absurd (never refl q))

  revertible-low : (e : Event) (ds : List Decision) → revertible o (change_of e) ds ≡ true → Low e
  unfolding on_sheet
  revertible-low e ds =
      change_any e.kind e.field e.position (λ k. revertible o k ds ≡ true → Low e)
      (λ q. on-low _ _ (and_l _ _ q)) (λ q. on-low _ _ (and_l _ _ q)) (λ q. on-low _ _ (and_l _ _ q)) (λ q. on-low _ _ (and_l _ _ q))
      (λ q. absurd (never q refl))

  module _ (engine : ℕ) (order : List ℕ) (s : Session) where
    few : malformed o (view s) ≡ false → s.count ≤ most_events
    unfolding view
    few e = let w = (well_formed o (view s) e).few in let n = length-past s.events s.count in omega arith

    -- a decision to add or withdraw is within the masks, and there is room for its event
    record-asks : (e : Event) → Clear o (Decide e) engine order (view s) → RecordAsks e s
    record-asks e v =
        let l = placed-low e v.of_place.0 in
        let h = few v.of_session.0 in
        let z = eqb-false s.count most_events (sym (events-counted s most_events) ∙ v.of_step.1.1.0) in
        record { field = l.0; position = l.1; room = omega arith }

    -- the latest event of a session that is not malformed
    undo-asks : Clear o Back engine order (view s) → UndoAsks s
    unfolding view reversible
    undo-asks v =
        let z = eqb-false s.count 0 (sym (events-counted s 0) ∙ v.of_step.0) in
        let some : 0 < s.count = omega arith in
        let rest : (revertible o (change_of (latest s)) (decisions_of s.decisions) && _) ≡ true =
        rw (past-latest s.events s.count some) at (well_formed o (view s) v.of_session.0).reverses in
        let l = revertible-low (latest s) (decisions_of s.decisions) (and_l _ _ rest) in
        record { some = some; few = few v.of_session.0; field = l.0; position = l.1 }

    pub step-asks : (c : Call) → Clear o c engine order (view s) → StepAsks c s
    step-asks (Open selected) v = tt
    step-asks Show v = tt
    step-asks (Decide e) v = record-asks e v
    step-asks Back v = undo-asks v
    step-asks CoilOn v = tt

    -- the session after the step shows the ledger's step
    pub shows-step : (c : Call) → Sized s → Clear o c engine order (view s) → SameLedger (view (stepped c s)) (step c (view s))
    shows-step c z v = view-step s z c (step-asks c v)

    -- the mask of a session that is not malformed is one that open would take
    formed : malformed o (view s) ≡ false → no_selection o s.selected ≡ false
    unfolding view
    formed e = (well_formed o (view s) e).selects

    -- and so is that after the step
    pub selects-step : (c : Call) → Clear o c engine order (view s) → no_selection o (stepped c s).selected ≡ false
    unfolding stepped view
    selects-step (Open selected) v = v.of_session.0
    selects-step Show v = formed v.of_session.0
    selects-step (Decide e) v = formed v.of_session.0
    selects-step Back v = formed v.of_session.0
    selects-step CoilOn v = formed v.of_session.0
