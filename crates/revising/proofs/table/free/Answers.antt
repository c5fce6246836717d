-- `free` takes the settings of a field, all of them or those in the set.
use mathlib.Core.Path.{sym, ◌∙◌}
use Rattle.revising.specs.Table.{free-inside, free-outside}
use Rattle.revising.proofs.table.free.Goals as goal

pub returns-then-has_bit : goal.returns-then-has_bit
returns-then-has_bit c = sym (free-inside _ _ _ _ (sym c.has_bit.ensures ∙ c.if-has_bit.true))

pub returns-else-has_bit : goal.returns-else-has_bit
returns-else-has_bit c = sym (free-outside _ _ _ _ (sym c.has_bit.ensures ∙ c.if-has_bit.false))
