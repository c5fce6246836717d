-- The problems that the starred cases speak of: n fields with the settings 1 and 2, and rules of kind 3 with c 1 (distance at least 1).
-- Assumes nothing.
use Rattle.std.specs.Prelude.{Bool, not, ◌&&◌, ◌||◌, [], ℕ, ◌+◌, ◌-◌, ◌%◌, eqb, ltb, leb}
use Rattle.consistency.specs.Problem.{Problem}

-- the setting at a position, in micrometres
abbrev setting : ℕ → ℕ
setting v = v + 1

abbrev distance : ℕ → ℕ → ℕ
distance p q = p - q + (q - p)

abbrev apart : ℕ → ℕ → ℕ → ℕ → Bool
apart f g v u = leb 1 (distance (setting v) (setting u))

-- n fields of which each two of the first m have a rule
abbrev pub all_different : ℕ → ℕ → Problem
all_different m n = record { fields = n; joined = λ f g. ltb f m && ltb g m && not (eqb f g); allowed = apart; sheet = []; triples = [] }

-- n fields in a ring
abbrev pub ring : ℕ → Problem
ring n = record { fields = n; joined = λ f g. eqb g ((f + 1) % n) || eqb f ((g + 1) % n); allowed = apart; sheet = []; triples = [] }
