use borrow.Author.Rules.{rules}
use mathlib.Core.Path.{◌≡◌}
use Rattle.session.specs.Form.{reversing_stuck, reversing_next, reversing_end}
use Rattle.session.proofs.form.events_reversible.Goals as goal

pub returns-then-not-can_revert : goal.returns-then-not-can_revert
returns-then-not-can_revert c =
    reversing_stuck _ _ _ _ _ _ c.loop-i-test.true c.loop-i.invariant _
    (rw c.change-k.ensures at c.can_revert.ensures) c.if-not-can_revert.true

pub loop-i-preserved : goal.loop-i-preserved
loop-i-preserved c =
    rw (c.reverted-d.ensures, c.change-k.ensures) (reversing_next _ _ _ _ _ _ c.loop-i-test.true c.loop-i.invariant _
    (rw c.change-k.ensures at c.can_revert.ensures) c.if-not-can_revert.false)

pub returns : goal.returns
returns c = reversing_end _ _ _ _ _ _ (let z : c.loop-i.i ≡ 0 = search rules in z) c.loop-i.invariant
