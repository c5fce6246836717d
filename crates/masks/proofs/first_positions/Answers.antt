-- The mask is one less than a power of two.
use mathlib.Core.Path.{sym}
use native.Mathlib.Omega.{arith}
use lib.Pow.{pow_pos}
use Rattle.masks.specs.Masks.{mask_of_all}
use Rattle.masks.proofs.Words.{one_shl}
use Rattle.masks.proofs.first_positions.Goals as goal

pub overflow_sub-result : goal.overflow_sub-result
overflow_sub-result c = rw (one_shl 32 c.args.n (omega arith)) (pow_pos c.args.n)

pub returns : goal.returns
returns c = rw (one_shl 32 c.args.n (omega arith)) (sym (mask_of_all c.args.n))
