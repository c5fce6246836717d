-- What a passed test leaves in the fields that it is over. While all of it is there the test passes and leaves just that
-- (02, request 2): proofs/Again.antt.
use Rattle.std.specs.Prelude.{List, ℕ}
use Rattle.masks.specs.Restrict.{restrict}
use Rattle.consistency.specs.Problem.{Problem}
use Rattle.consistency.specs.Passing.{left}

module _ (P : Problem) where
  -- what the test of position v of field f over W leaves in the fields of W, and nothing of other fields
  abbrev pub left_in : ℕ → List ℕ → ℕ → ℕ → List ℕ
  left_in W S f v = restrict W (left P W S f v)
