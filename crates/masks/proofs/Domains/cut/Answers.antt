-- `cut` stores one mask.
use mathlib.Core.Path.{sym}
use Rattle.masks.proofs.Settings.{cut-set}
use Rattle.masks.proofs.Domains.cut.Goals as goal

pub returns : goal.returns
returns c = rw c.one_bit.ensures (sym (cut-set _ _ _))
