-- `slot` counts the pairs below its own.
use native.Mathlib.Omega.{arith}
use Rattle.network.specs.Slots.{slot-code, slot_bound}
use Rattle.network.proofs.rows.slot.Goals as goal

pub overflow_mul-result : goal.overflow_mul-result
overflow_mul-result c = let k = slot-code _ _ c.requires.0 c.requires.1 in omega (arith, k.0)

pub overflow_add-result : goal.overflow_add-result
overflow_add-result c =
    let k = slot-code _ _ c.requires.0 c.requires.1 in
    omega (arith, k.1, slot_bound _ _ c.requires.0 c.requires.1)

pub returns : goal.returns
returns c =
    let k = slot-code _ _ c.requires.0 c.requires.1 in
    (k.1, omega (arith, k.1, slot_bound _ _ c.requires.0 c.requires.1))
