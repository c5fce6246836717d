use borrow.Author.Rules.{rules}
use borrow.Author.Tests.{le-ltb}
use Rattle.session.specs.Decisions.{found-past, found_at}
use Rattle.session.proofs.decisions.in_masks.Goals as goal

pub returns-then-f-lt-FIELDS : goal.returns-then-f-lt-FIELDS
returns-then-f-lt-FIELDS c = found_at _ _ _ _ c.if-f-lt-FIELDS.true (c.has_position.ensures.is, c.has_position.ensures.small)

pub returns-else-f-lt-FIELDS : goal.returns-else-f-lt-FIELDS
returns-else-f-lt-FIELDS c =
    let past = c.if-f-lt-FIELDS.false in
    rw (le-ltb _ _ past) (found-past _ _ _ (search rules) past)
