-- That a session with too many events is malformed, whatever else it holds: what the check cites by itself. Assumes nothing.
use Rattle.std.specs.Prelude.{◌≡◌, Bool, ◌||◌, ◌<◌}
use Rattle.std.proofs.Math.Path.{refl}
use Rattle.std.proofs.Math.Bool.{true, false, not}
use borrow.Author.Tests.{lt-ltb}
use Rattle.limits.specs.Limits.{most_events}
use Rattle.accepted.specs.declared.outline.Outline.{Outline}
use Rattle.ledger.specs.Ledger.{all_on_sheet, malformed}
use Rattle.session.specs.declared.Session.{Session}
use Rattle.session.specs.View.{decisions_of, length-past, view}

or_true : (b : Bool) → (b || true) ≡ true
or_true true = refl
or_true false = refl

pub too_many : (o : Outline) (s : Session) → most_events < s.count → malformed o (view s) ≡ true
unfolding malformed view
too_many o s h = rw (length-past s.events s.count, lt-ltb most_events s.count h) (or_true (not (all_on_sheet o (decisions_of s.decisions))))
