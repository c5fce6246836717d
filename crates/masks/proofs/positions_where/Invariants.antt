use Prim.Native.Nat.{ℕ, ◌<◌, ◌^◌}
use Rattle.masks.specs.Bits.{bit}
use Rattle.masks.proofs.positions_where.Given as goal

abbrev pub invariant-loop-u : goal.invariant-loop-u
invariant-loop-u g l = ((v : ℕ) → v < l.u → goal.F-post g l.test v (bit l.mask v)) × (l.mask < 2 ^ l.u)
