-- A triple with one field in a neighbourhood. 02 counts it there; Definition 2' of source document 003 counts the constraints that have at
-- least two of their fields there. The offers are the same either way, since they are closed over every field:
-- proofs/TwoInside.antt.
use Rattle.std.specs.Prelude.{◌≡◌, Bool, cond, ◌&&◌, ◌||◌}
use Rattle.std.proofs.Math.Bool.{true}
use mathlib.Core.List.{List, [], ◌∷◌}
use Prim.Native.Nat.{ℕ}
use Rattle.masks.specs.Bits.{bit}
use Rattle.masks.specs.Sets.{has}
use Rattle.consistency.specs.Problem.{Triple, Problem, In, all_fields}
use Rattle.consistency.specs.Closing.{Closed}
use Rattle.consistency.specs.Passing.{PassesOver}

-- ---- the triples of which two fields are in the mask W

unfoldable pub two_in : ℕ → Triple → Bool
two_in W T = (bit W T.first && bit W T.second) || ((bit W T.first && bit W T.third) || (bit W T.second && bit W T.third))

unfoldable pub with_two_in : ℕ → List Triple → List Triple
with_two_in W [] = []
with_two_in W (T ∷ Ts) = cond (two_in W T) (T ∷ with_two_in W Ts) (with_two_in W Ts)

-- the problem of Definition 2' over W
abbrev pub two_inside : Problem → ℕ → Problem
two_inside P W = record {
  fields = P.fields;
  joined = P.joined;
  allowed = P.allowed;
  sheet = P.sheet;
  triples = with_two_in W P.triples;
}

-- partial consistency with the tests of Definition 2'
pub record TwoInsideConsistent (P : Problem) (hood : ℕ → ℕ) (selected : ℕ) (S : List ℕ) : Type 0 where
  pub shut : Closed P (all_fields P) S
  pub passing : (f v : ℕ) → In P selected f → has S f v ≡ true → PassesOver (two_inside P (hood f)) (hood f) S f v
