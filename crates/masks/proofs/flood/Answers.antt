-- `flood` multiplies one bit by all ones.
use Prim.Native.Nat.{◌/◌, ◌^◌}
use native.Mathlib.Omega.{arith}
use lib.Bits.{and_le_r}
use Rattle.masks.proofs.Floods.{flood-code}
use Rattle.masks.proofs.flood.Goals as goal

pub overflow_mul-result : goal.overflow_mul-result
overflow_mul-result c = let l = and_le_r (c.args.x / 2 ^ c.args.v) 1 in omega arith

pub returns : goal.returns
returns c = flood-code _ _
