-- `copy_towards` copies one word after the other.
use Rattle.closing.specs.Recover.{Copied}
use Rattle.closing.proofs.recover.copy_towards.Given as goal

abbrev pub invariant-loop-q : goal.invariant-loop-q
invariant-loop-q l = Copied l.counter l.j l.initial.copy l.q l.copy
