use Prim.Native.Nat.{◌+◌, ◌<◌}
use native.Mathlib.Omega.{arith}
use borrow.Author.Rules.{rules}
use lib.ListN.{length}
use Rattle.accepted.specs.Facts.{facts}
use Rattle.accepted.proofs.parts.AcceptedSheet.rules.Goals as goal

pub overflow_add-result : goal.overflow_add-result
overflow_add-result c =
    let s = c.args.self in
    let k : c.fields_end.result + 1 < length s.numbers.now = omega (arith, c.fields_end.ensures, (facts _ s.accepted).tail_end) in
    search rules

pub offset_bounds-self-fields_end : goal.offset_bounds-self-fields_end
offset_bounds-self-fields_end c =
    let s = c.args.self in
    let k : c.fields_end.result + 1 < length s.numbers.now = omega (arith, c.fields_end.ensures, (facts _ s.accepted).tail_end) in
    search rules

pub bounds-self-fields_end : goal.bounds-self-fields_end
bounds-self-fields_end c = omega (arith, c.fields_end.ensures, (facts _ c.args.self.accepted).tail_end)
