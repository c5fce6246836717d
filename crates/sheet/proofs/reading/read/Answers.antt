use Rattle.std.proofs.Common.{arith}
use Rattle.sheet.specs.Progress.{gives-values}
use Rattle.sheet.proofs.reading.read.Goals as goal

pub returns : goal.returns
returns c = gives-values _ _ _ c.in_ok-count.count c.in_ok-count.ensures _ (omega arith) c.put_numbers.ensures
