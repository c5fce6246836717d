use mathlib.Core.Path.{refl}
use Prim.Native.Nat.{◌<◌}
use native.Mathlib.Omega.{arith}
use borrow.Author.Rules.{rules}
use Rattle.network.specs.Drafts.{field-few, triple-rows-next, counts-low}
use Rattle.network.proofs.triples.TripleWithFields.write_rows.Goals as goal

pub overflow_mul-v : goal.overflow_mul-v
overflow_mul-v c =
    let k : c.loop-v.v < 24 = omega (arith, field-few _ _ _ c.args.self.first.at, c.count-v-end.ensures, c.loop-v-test.true) in
    search rules

pub overflow_add-base : goal.overflow_add-base
overflow_add-base c =
    let k : c.loop-v.v < 24 = omega (arith, field-few _ _ _ c.args.self.first.at, c.count-v-end.ensures, c.loop-v-test.true) in
    let room = c.requires.0 in
    search rules

pub write_row-requires : goal.write_row-requires
write_row-requires c =
    let few = counts-low _ _ _ _ _ _ c.args.self.fields in
    omega (
      arith,
      field-few _ _ _ c.args.self.first.at,
      c.count-v-end.ensures,
      c.loop-v-test.true,
      few.1,
      c.requires.0,
      c.loop-v.invariant.sized,
    )

pub loop-v-preserved : goal.loop-v-preserved
loop-v-preserved c =
    let s = c.args.self in
    let few = counts-low _ _ _ _ _ _ s.fields in
    let n = rw s.first_list at c.count-v-end.ensures in
    triple-rows-next _ _ _ _ _ _ _ _ _ _ _ _ _ s.fields.first s.fields.second s.fields.third refl
    (rw s.first_list at c.setting.ensures) refl (rw n at c.loop-v-test.true) few.1 c.requires.1 c.loop-v.invariant c.write_row.ensures
