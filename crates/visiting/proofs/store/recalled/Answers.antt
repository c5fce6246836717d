-- `recalled` looks for the setting among the known ones, and then at the masks of its place, if the engine remembers.
use mathlib.Core.Path.{refl, sym, ◌∙◌}
use Rattle.masks.specs.Tests.{never}
use Rattle.masks.specs.Sets.{has}
use Rattle.visiting.proofs.store.recalled.Goals as goal

pub returns-then-has_bit : goal.returns-then-has_bit
unfolding has
returns-then-has_bit c =
    let e = c.place.ensures in
    let whole = rw e at c.intact.ensures in (
      (λ r. (c.if-remembers.true, sym c.has_bit.ensures ∙ c.if-has_bit.true, whole.0 r)),
      (λ q. whole.1 q.2),
    )

pub returns-else-has_bit : goal.returns-else-has_bit
unfolding has
returns-else-has_bit c = (λ r. absurd (never r refl), λ q. absurd (never (c.has_bit.ensures ∙ q.1) c.if-has_bit.false))

pub returns-else-remembers : goal.returns-else-remembers
returns-else-remembers c = (λ r. absurd (never r refl), λ q. absurd (never q.0 c.if-remembers.false))
