-- `one_bit` shifts 1 to its place.
use native.Mathlib.Omega.{arith}
use Rattle.masks.proofs.Words.{one_shl}
use Rattle.masks.proofs.one_bit.Goals as goal

pub returns : goal.returns
returns c = one_shl 32 c.args.v (omega arith)
