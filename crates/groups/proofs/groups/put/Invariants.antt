use Prim.Native.Nat.{◌+◌, ◌-◌}
use Rattle.groups.specs.Groups.{encode, encode_in}
use Rattle.groups.specs.Storing.{Storing}
use Rattle.groups.proofs.groups.put.Given as goal

abbrev pub invariant-loop-k : goal.invariant-loop-k
invariant-loop-k l = Storing l.output (l.place + l.k) (encode_in (4 - l.k) l.y) l.initial.output l.place (encode l.x)
