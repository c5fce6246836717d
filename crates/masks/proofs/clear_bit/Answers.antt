-- `clear_bit` keeps all positions but one.
use mathlib.Core.Path.{sym}
use native.Mathlib.Omega.{arith}
use Rattle.masks.proofs.Words.{one_shl, clear-word}
use Rattle.masks.proofs.clear_bit.Goals as goal

pub returns : goal.returns
returns c = rw (one_shl 32 c.args.v (omega arith)) (sym (clear-word 32 _ _ c.ranges.x.fits (omega arith)))
