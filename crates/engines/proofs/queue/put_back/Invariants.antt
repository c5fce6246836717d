-- `put_back` adds the selected neighbours of each changed field, or every selected field.
use Rattle.engines.specs.PutBack.{Backing}
use Rattle.engines.proofs.queue.put_back.Given as goal

abbrev pub invariant-loop-f : goal.invariant-loop-f
invariant-loop-f l = Backing l.net.fields l.net.hood l.queue l.changed l.f-iterator.left l.r
