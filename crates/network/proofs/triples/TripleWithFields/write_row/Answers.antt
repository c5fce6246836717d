use borrow.Author.Rules.{rules}
use native.Mathlib.Omega.{arith}
use Rattle.network.specs.Drafts.{run-start, run-next}
use Rattle.network.proofs.triples.TripleWithFields.write_row.Goals as goal

pub loop-v-init : goal.loop-v-init
loop-v-init c = run-start _ _ _

pub overflow_add-triples : goal.overflow_add-triples
overflow_add-triples c =
    let e = rw c.args.self.second_list at c.count-v-end.ensures in
    let z = c.loop-v.invariant.sized in
    search rules

pub offset_bounds-triples-base : goal.offset_bounds-triples-base
offset_bounds-triples-base c =
    let e = rw c.args.self.second_list at c.count-v-end.ensures in
    let z = c.loop-v.invariant.sized in
    search rules

pub bounds-triples-base : goal.bounds-triples-base
bounds-triples-base c =
    let e = rw c.args.self.second_list at c.count-v-end.ensures in
    let z = c.loop-v.invariant.sized in
    omega (arith, c.requires, c.loop-v-test.true)

pub loop-v-preserved : goal.loop-v-preserved
loop-v-preserved c =
    let s = c.args.self in
    let e = rw s.second_list at c.count-v-end.ensures in
    let z = c.loop-v.invariant.sized in
    run-next _ _ _ _ _ _ (omega (arith, c.requires, c.loop-v-test.true))
    (rw (s.third_list, c.number-c.ensures, c.setting-q.ensures, s.second_list) at c.thirds.ensures) c.loop-v.invariant
