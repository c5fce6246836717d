use Rattle.printing.specs.Text.{offered, blank_each}
use Rattle.printing.specs.Puts.{Puts}
use Rattle.printing.proofs.put_offers.Given as goal

abbrev pub invariant-loop-v : goal.invariant-loop-v
invariant-loop-v l =
    Puts l.initial.output l.place (blank_each (offered l.field.numbers.now l.field.index l.mask l.v)) l.next l.output
