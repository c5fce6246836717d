use Rattle.std.proofs.Common.{arith}
use Rattle.sheet.specs.Progress.{gives-values}
use Rattle.sheet.proofs.writing.write.Goals as goal

pub returns : goal.returns
returns c = gives-values _ _ _ c.in_ok-bytes.bytes c.in_ok-bytes.ensures _ (omega arith) c.put_bytes.ensures
