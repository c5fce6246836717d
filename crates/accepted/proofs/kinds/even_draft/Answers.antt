use mathlib.Core.Path.{ap}
use Prim.Native.Nat.{ℕ}
use lib.Dec.{leb}
use Rattle.accepted.proofs.kinds.even_draft.Goals as goal

pub returns : goal.returns
returns c = ap (λ (d : ℕ). leb d c.args.c) c.distance.ensures
