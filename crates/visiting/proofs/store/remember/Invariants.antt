-- `remember` stores what the test left in the neighbourhood.
use Rattle.masks.specs.Restrict.{restrict}
use Rattle.network.specs.Stored.{Stored, words_of}
use Rattle.visiting.proofs.store.remember.Given as goal

abbrev pub invariant-loop-h : goal.invariant-loop-h
invariant-loop-h l = Stored l.initial.memory l.base (words_of (restrict l.within l.left)) l.h l.memory
