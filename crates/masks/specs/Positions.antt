-- The positions of a mask, one after the other. Assumes nothing.
use Rattle.std.specs.Prelude.{◌≡◌, ℕ, Option, None, Some, ◌<◌}
use Rattle.masks.specs.declared.positions.PositionIter.{PositionIter}
use Rattle.masks.specs.Words.{clear, Lowest}

-- v is the lowest position that is left, and goes
pub record Gives (old : PositionIter) (v : ℕ) (new : PositionIter) : Type 0 where
  pub lowest : Lowest old.left v
  pub small : v < 32
  pub rest : new.left ≡ clear old.left v

-- a position is given, or none is left
abbrev pub GivesPosition : PositionIter → Option ℕ → PositionIter → Type 0
GivesPosition old None new = (old.left ≡ 0) × (new.left ≡ 0)
GivesPosition old (Some v) new = Gives old v new
