-- Masks of the fields of the problem that the tables hold. Assumes nothing.
use Rattle.std.specs.Prelude.{ℕ, ◌^◌, ◌≤◌, ◌<◌}
use Rattle.std.proofs.Common.{lt_of_le_of_lt, lt_of_lt_of_le, pow_mono}
use Rattle.limits.specs.Limits.{most_fields}
use Rattle.masks.specs.Bits.{Within}
use Rattle.masks.proofs.Bits.{within-le}
use Rattle.masks.specs.Masks.{mask_of-lt}
use Rattle.consistency.specs.Problem.{all_fields}
use Rattle.network.specs.declared.tables.Tables.{Tables}
use Rattle.network.specs.TripleTable.{problem_of}
use Rattle.network.specs.Network.{problem}

-- a mask of the problem's fields is small
pub fields-small : (t : Tables) (W : ℕ) → t.network.now.fields ≤ most_fields → Within W (all_fields (problem t)) → W < 2 ^ most_fields
unfolding all_fields problem_of
fields-small t W h w = lt_of_le_of_lt (within-le W _ w) (lt_of_lt_of_le (mask_of-lt t.network.now.fields _) (pow_mono h))
