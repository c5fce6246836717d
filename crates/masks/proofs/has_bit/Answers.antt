-- `has_bit` reads one bit of a word.
use Rattle.masks.proofs.Words.{shr_one}
use Rattle.masks.proofs.has_bit.Goals as goal

pub returns : goal.returns
returns c = shr_one _ _
