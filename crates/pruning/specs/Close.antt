-- What closing promises, for any problem. Assumes nothing.
use Rattle.std.specs.Prelude.{◌≡◌, Bool, true, false, not, List, ℕ, length}
use Rattle.std.proofs.Common.{true≢false}
use Rattle.masks.specs.Bits.{Within}
use Rattle.consistency.specs.Problem.{Problem}
use Rattle.consistency.specs.Closing.{closing}
use Rattle.consistency.specs.Passing.{none_empty}
use Rattle.pruning.specs.Shrunk.{Shrunk}

module _ (P : Problem) where
  -- The closing of S0 over W, or that a field of W is empty in it.
  pub record Closes (W : ℕ) (S0 : List ℕ) (wiped : Bool) (touched : ℕ) (S : List ℕ) : Type 0 where
    pub sized : length S ≡ length S0
    pub wipes : wiped ≡ not (none_empty P W (closing P W S0))
    pub made : wiped ≡ false → S ≡ closing P W S0
    pub shrunk : wiped ≡ false → Shrunk S0 S touched
    pub marks : wiped ≡ false → Within touched W

  -- where a field is empty, the fields that lost settings are of no account
  pub closes-wiped : {W : ℕ} {S0 S : List ℕ} {some any : ℕ} → Closes W S0 true some S → Closes W S0 true any S
  closes-wiped c = record {
    sized = c.sized;
    wipes = c.wipes;
    made = λ e. absurd (true≢false e);
    shrunk = λ e. absurd (true≢false e);
    marks = λ e. absurd (true≢false e);
  }
