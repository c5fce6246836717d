use mathlib.Core.Path.{ap}
use Prim.Native.Nat.{ℕ}
use lib.Dec.{eqb}
use Rattle.session.specs.Form.{strangers-code}
use Rattle.session.proofs.form.within.Goals as goal

pub returns : goal.returns
returns c = ap (λ (m : ℕ). eqb m 0) (strangers-code _ _ c.ranges.all.fits c.ranges.m.fits)
