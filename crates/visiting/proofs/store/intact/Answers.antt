use mathlib.Core.Path.{◌≡◌, sym, ◌∙◌}
use mathlib.Core.Logic.{⊎_elim}
use Prim.Native.Nat.{◌≤◌}
use native.Mathlib.Nat.{eq-or-lt_of_le}
use native.Mathlib.Omega.{arith}
use borrow.Author.Tests.{eqb-true, eq-eqb}
use Rattle.limits.specs.Limits.{most_fields}
use Rattle.visiting.specs.Memory.{lack_none, lack_next, lack_inside}
use Rattle.visiting.proofs.store.intact.Goals as goal

pub loop-h-init : goal.loop-h-init
loop-h-init c = (sym (lack_none _ _ _), λ j l. absurd (omega arith))

pub loop-h-preserved : goal.loop-h-preserved
loop-h-preserved c =
    let i = c.loop-h.invariant in (
      rw i.0 (sym (lack_next _ _ _ _)),
      λ j l. ⊎_elim (λ (q : j ≡ c.loop-h.h). rw q (c.shared_slice_known-1.given _).fits) (λ q. i.1 j q)
          (eq-or-lt_of_le (let k : j ≤ c.loop-h.h = omega arith in k)),
    )

pub returns : goal.returns
returns c =
    let i = c.loop-h.invariant in
    let e : c.loop-h.h ≡ most_fields = omega arith in
    let z = rw e at i.0 in
    let p = c.requires in
    let holds = lack_inside _ _ _ (λ j l. i.1 j (omega arith)) p.1.small p.0 in
    (λ t. holds.0 (sym z ∙ eqb-true _ 0 t), λ h. eq-eqb _ 0 (z ∙ holds.1 h))
