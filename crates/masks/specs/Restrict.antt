-- A set restricted to the fields of a mask. Assumes nothing.
use Rattle.std.specs.Prelude.{List, ℕ}
use Rattle.masks.specs.Bits.{bit}
use Rattle.masks.specs.Sets.{only}

-- the settings of S in the fields of W
unfoldable pub restrict : ℕ → List ℕ → List ℕ
restrict W S = only (λ g u. bit W g) S
