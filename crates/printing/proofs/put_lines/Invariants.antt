use Rattle.printing.specs.Text.{lines}
use Rattle.printing.specs.Puts.{Puts}
use Rattle.printing.proofs.put_lines.Given as goal

abbrev pub invariant-loop-f : goal.invariant-loop-f
invariant-loop-f l = Puts l.initial.output 0 (lines l.sheet.numbers.now l.offers l.f) l.next l.output
