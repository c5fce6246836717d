use native.Mathlib.Omega.{arith}
use borrow.Author.Rules.{rules}
use Prim.Native.Nat.{◌+◌, ◌*◌}
use Rattle.accepted.specs.Parts.{TripleAt}
use Rattle.accepted.specs.Facts.{facts, triple-ends-at}
use Rattle.accepted.proofs.triples.Triples.triple.Goals as goal

pub overflow_mul-result : goal.overflow_mul-result
overflow_mul-result c =
    let s = c.args.self in
    let k = (facts _ s.accepted).triple_end c.args.t (omega (arith, s.counted, c.requires)) in
    search rules

pub overflow_add-result-2 : goal.overflow_add-result-2
overflow_add-result-2 c =
    let s = c.args.self in
    let e = s.at in
    let k = (facts _ s.accepted).triple_end c.args.t (omega (arith, s.counted, c.requires)) in
    search rules

pub invariant_of-result : goal.invariant_of-result
invariant_of-result c =
    let s = c.args.self in
    let g : TripleAt s.numbers.now c.args.t (s.place + 1 + 4 * c.args.t) =
    record { accepted = s.accepted; within = omega (arith, s.counted, c.requires); at = omega (arith, s.at) } in
    record { at = g; room = triple-ends-at _ _ _ g }
