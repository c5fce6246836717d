-- `lose` stores one mask.
use mathlib.Core.Path.{sym}
use Rattle.masks.proofs.Settings.{lose-set}
use Rattle.masks.proofs.Domains.lose.Goals as goal

pub returns : goal.returns
returns c = rw c.clear_bit.ensures (sym (lose-set _ _ _))
