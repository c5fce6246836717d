-- `forward` takes the front of the rows.
use mathlib.Core.Path.{refl, sym}
use Prim.Native.Nat.{◌≤◌}
use native.Mathlib.Omega.{arith}
use lib.ListN.{length}
use lib.Seq.{length-take-le}
use Rattle.limits.specs.Limits.{table_words}
use Rattle.network.specs.Tables.{forward_of}
use Rattle.network.proofs.rows.forward.Goals as goal

pub slice_bounds-result-end : goal.slice_bounds-result-end
slice_bounds-result-end c =
    let l : table_words ≤ length c.args.rows.now = omega arith in
    sym (length-take-le table_words c.args.rows.now l)

pub returns : goal.returns
unfolding forward_of
returns c = refl
