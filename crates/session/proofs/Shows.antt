-- The session after a call that is accepted shows the ledger's step. Assumes nothing.
use Rattle.std.specs.Prelude.{◌≡◌, []}
use Rattle.std.proofs.Math.Path.{refl, sym}
use Rattle.std.proofs.Common.{◌∙◌, add-one, arith}
use Rattle.limits.specs.Limits.{most_fields}
use Rattle.masks.proofs.Bits.{bit_of-zero}
use Rattle.masks.specs.Sets.{has, get_d_zeros}
use Rattle.ledger.specs.declared.Decision.{Decision}
use Rattle.ledger.specs.declared.Decision.TheVariants.{Choice, Strike}
use Rattle.ledger.specs.declared.Event.{Event}
use Rattle.ledger.specs.declared.Call.{Call}
use Rattle.ledger.specs.declared.Call.TheVariants.{Open, Show, Decide, Back, CoilOn}
use Rattle.ledger.specs.Ledger.{change_of, in_force, backed, step}
use Rattle.ledger.specs.Laws.{SameLedger}
use Rattle.ledger.proofs.Laws.{same_ledger}
use Rattle.session.specs.declared.Session.{Session}
use Rattle.session.specs.Decisions.{no_decisions, held_in, change_low}
use Rattle.session.specs.View.{decisions_of, in_force_of, past, past-push, past-latest, view, Sized}
use Rattle.session.specs.Form.{alike-applied_in, alike-reverted_in}
use Rattle.session.specs.Steps.{recorded, latest, undone, stepped, RecordAsks, UndoAsks, StepAsks}

module _ (s : Session) (z : Sized s) where
  record_same : (e : Event) → RecordAsks e s → SameLedger (view (recorded s e)) (step (Decide e) (view s))
  unfolding view step
  record_same e a = record {
    held = λ d.
        let low = change_low e.kind e.field e.position a.field in
        sym (alike-applied_in s.decisions z.decisions (change_of e) low d);
    past = rw (add-one s.count) (past-push s.events s.count e (let r = a.room in let n = z.events in omega arith));
    selected = refl;
  }

  undo-same : UndoAsks s
      → SameLedger (view (undone s)) (backed (past s.events s.count) (decisions_of s.decisions) s.selected)
  unfolding view backed
  undo-same a = let e = latest s in rw (past-latest s.events s.count a.some) (record {
    held = λ d.
        let low = change_low e.kind e.field e.position a.field in
        sym (alike-reverted_in s.decisions z.decisions (change_of e) low d);
    past = refl;
    selected = refl;
  })

  none : (d : Decision) → held_in no_decisions d ≡ in_force [] d
  unfolding has in_force
  none (Choice f v) = rw (get_d_zeros most_fields f) (bit_of-zero v)
  none (Strike f v) = rw (get_d_zeros most_fields f) (bit_of-zero v)

  -- The session after a call shows the ledger's step.
  pub view-step : (c : Call) → StepAsks c s → SameLedger (view (stepped c s)) (step c (view s))
  view-step (Open selected) a = unfold view stepped step in (record {
    held = λ d. in_force_of no_decisions d ∙ none d;
    past = unfold past in refl;
    selected = refl;
  })
  view-step Show a = unfold stepped step in same_ledger (view s)
  view-step (Decide e) a = unfold stepped in record_same e a
  view-step Back a = unfold stepped step view in undo-same a
  view-step CoilOn a = unfold stepped step view in (record { held = λ d. refl; past = unfold past in refl; selected = refl })
