-- `turned` takes the rest of the rows.
use Rattle.network.specs.Tables.{turned-part}
use Rattle.network.proofs.rows.turned.Goals as goal

pub returns : goal.returns
returns c = turned-part _
