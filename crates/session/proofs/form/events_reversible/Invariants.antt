use Rattle.session.specs.Form.{Reversing}
use Rattle.session.proofs.form.events_reversible.Given as goal

abbrev pub invariant-loop-i : goal.invariant-loop-i
invariant-loop-i l = Reversing l.outline l.initial.d l.events l.count l.d l.i
