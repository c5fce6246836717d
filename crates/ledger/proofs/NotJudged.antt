-- A number that no cause of judging a call has: none of 7 and 9 to 13. Assumes nothing.
use Rattle.std.specs.Prelude.{◌≡◌, ℕ, ◌≤◌}
use native.Mathlib.Omega.{arith}
use Rattle.limits.specs.Refusals.{UNKNOWN, NO_ORDER, ADDED_AGAIN, NOT_IN_FORCE, NO_ROOM, NOTHING_PAST}

-- k is none of 7 and 9 to 13
pub record NotJudged (k : ℕ) : Type 0 where
  pub not_7 : UNKNOWN ≡ k → ⊥
  pub not_9 : NO_ORDER ≡ k → ⊥
  pub not_10 : ADDED_AGAIN ≡ k → ⊥
  pub not_11 : NOT_IN_FORCE ≡ k → ⊥
  pub not_12 : NO_ROOM ≡ k → ⊥
  pub not_13 : NOTHING_PAST ≡ k → ⊥

pub not-judged : (k : ℕ) → (7 ≤ k → k ≤ 13 → k ≡ 8) → NotJudged k
not-judged k h = record {
  not_7 = λ z. let e = h (omega arith) (omega arith) in omega arith;
  not_9 = λ z. let e = h (omega arith) (omega arith) in omega arith;
  not_10 = λ z. let e = h (omega arith) (omega arith) in omega arith;
  not_11 = λ z. let e = h (omega arith) (omega arith) in omega arith;
  not_12 = λ z. let e = h (omega arith) (omega arith) in omega arith;
  not_13 = λ z. let e = h (omega arith) (omega arith) in omega arith;
}
