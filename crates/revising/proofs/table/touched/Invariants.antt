-- `touched` visits the fields.
use Rattle.masks.specs.Bits.{Within}
use Rattle.revising.specs.Table.{Touching}
use Rattle.revising.proofs.table.touched.Given as goal

abbrev pub invariant-loop-f : goal.invariant-loop-f
invariant-loop-f l = Within l.f-iterator.left l.fields × Touching l.triples l.fields l.f-iterator.left l.some
