-- `is_empty` compares one mask with 0.
use mathlib.Core.Path.{refl}
use Rattle.masks.specs.Settings.{empty}
use Rattle.masks.proofs.Domains.is_empty.Goals as goal

pub returns : goal.returns
unfolding empty
returns c = refl
