use mathlib.Core.Path.{◌≡◌, sym}
use native.Mathlib.Omega.{arith}
use borrow.Author.Tests.{eq-eqb, ne_eqb}
use Rattle.masks.specs.Settings.{empty, some_empty-none, some_empty-by, some_empty-next}
use Rattle.masks.proofs.Domains.some_empty.Goals as goal

pub loop-f-init : goal.loop-f-init
loop-f-init c = some_empty-none _

pub returns-then-self-f-eq0 : goal.returns-then-self-f-eq0
unfolding empty
returns-then-self-f-eq0 c = sym (some_empty-by _ _ _ c.loop-f-test.true (eq-eqb _ 0 c.if-self-f-eq0.true))

pub loop-f-preserved : goal.loop-f-preserved
unfolding empty
loop-f-preserved c = some_empty-next _ _ c.loop-f.invariant (ne_eqb _ 0 c.if-self-f-eq0.false)

pub returns : goal.returns
returns c = let e : c.loop-f.f ≡ c.args.n = omega arith in sym (rw e at c.loop-f.invariant)
