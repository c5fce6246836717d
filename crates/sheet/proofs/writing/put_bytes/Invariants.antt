use lib.ListN.{drop}
use Rattle.groups.specs.Storing.{Storing}
use Rattle.sheet.specs.Sources.{bytes_of}
use Rattle.sheet.proofs.writing.put_bytes.Given as goal

abbrev pub invariant-loop-x : goal.invariant-loop-x
invariant-loop-x l = Storing l.output l.place (bytes_of (drop l.x-index l.numbers)) l.initial.output 0 (bytes_of l.numbers)
