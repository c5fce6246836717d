-- The rows of a rule turned round. Assumes nothing.
use Rattle.std.specs.Prelude.{◌≡◌, refl, Bool, List, ℕ, ◌+◌, ◌*◌, ◌^◌, ◌≤◌, ◌<◌, length, get_or, set, replicate, ltb}
use Rattle.std.proofs.Common.{sym, ap, ◌∙◌, ⊎_elim, eq-or-lt_of_le, arith, length-set, get_or-set_same, get_or-set_other, ltb-true}
use Rattle.std.proofs.Common.{ltb-false}
use Rattle.std.specs.Int.Bits.{bit_and, bit_or}
use Rattle.std.proofs.lemmas.List.{length-replicate}
use Rattle.limits.specs.Limits.{most_settings}
use Rattle.masks.specs.Tests.{bool_cases}
use Rattle.masks.specs.Bits.{bit}
use Rattle.masks.proofs.Bits.{bit_of-zero, bit_high}
use Rattle.masks.specs.Masks.{mask_of, digit}
use Rattle.masks.proofs.Loops.{mask-none, mask-digit, mask-false, mask-short}
use Rattle.masks.specs.Floods.{flood}
use Rattle.masks.proofs.Floods.{flood-one}
use Rattle.masks.specs.Sets.{get_d_zeros}

-- a position v of a mask x, where t
abbrev pub with_where : ℕ → Bool → ℕ → ℕ
with_where x t v = bit_or x (digit t * 2 ^ v)

-- Position v has been added to the first u rows, where the row has their position.
pub record Turning (row v : ℕ) (T0 : List ℕ) (u : ℕ) (T : List ℕ) : Type 0 where
  pub sized : length T ≡ length T0
  pub done : (h : ℕ) → h < u → get_or T h 0 ≡ with_where (get_or T0 h 0) (bit row h) v
  pub rest : (h : ℕ) → u ≤ h → get_or T h 0 ≡ get_or T0 h 0

module _ (row v : ℕ) (T0 : List ℕ) where
  pub turning_start : Turning row v T0 0 T0
  turning_start = record { sized = refl; done = λ h l. absurd (omega arith); rest = λ h l. refl }

  pub turning_next : (u : ℕ) (T : List ℕ) → v < 32 → u < length T → Turning row v T0 u T
      → Turning row v T0 (u + 1) (set T u (bit_or (get_or T u 0) (bit_and (flood row u) (2 ^ v))))
  turning_next u T b l p = record {
    sized = length-set T u _ ∙ p.sized;
    done = λ h k. ⊎_elim
        (λ (q : h ≡ u). rw q
        (get_or-set_same T u _ 0 l ∙ ap (bit_or (get_or T u 0)) (flood-one row u v b)
        ∙ ap (λ (x : ℕ). with_where x (bit row u) v) (p.rest u (omega arith))))
        (λ q. get_or-set_other T u h _ 0 (λ z. omega arith) ∙ p.done h q) (eq-or-lt_of_le (let j : h ≤ u = omega arith in j));
    rest = λ h k. get_or-set_other T u h _ 0 (λ z. omega arith) ∙ p.rest h (omega arith);
  }

-- The turned rows of the first n rows.
pub record Columns (rows : List ℕ) (n : ℕ) (T : List ℕ) : Type 0 where
  pub sized : length T ≡ most_settings
  pub at : (u : ℕ) → u < most_settings → get_or T u 0 ≡ mask_of n (λ v. bit (get_or rows v 0) u)

-- Of a square with a side, the first k rows have been turned.
pub record Square (rows : List ℕ) (side k : ℕ) (T : List ℕ) : Type 0 where
  pub sized : length T ≡ most_settings
  pub at : (u : ℕ) → u < side → get_or T u 0 ≡ mask_of k (λ v. bit (get_or rows v 0) u)
  pub past : (u : ℕ) → side ≤ u → get_or T u 0 ≡ 0

-- Rows of a rule: none past the first n, and no position past the first w.
pub record Rows (rows : List ℕ) (n w : ℕ) : Type 0 where
  pub few : n ≤ most_settings
  pub narrow : w ≤ most_settings
  pub past : (v : ℕ) → n ≤ v → get_or rows v 0 ≡ 0
  pub low : (v : ℕ) → get_or rows v 0 < 2 ^ w

module _ (rows : List ℕ) where
  pub square_start : (side : ℕ) → Square rows side 0 (replicate most_settings 0)
  square_start side = record {
    sized = length-replicate {A = ℕ} most_settings 0;
    at = λ u l. get_d_zeros most_settings u ∙ sym (mask-none (λ v. bit (get_or rows v 0) u));
    past = λ u l. get_d_zeros most_settings u;
  }

  pub square_next : (side k row : ℕ) (T T' : List ℕ) → row ≡ get_or rows k 0 → Square rows side k T → Turning row k T side T'
      → Square rows side (k + 1) T'
  square_next side k row T T' e p t = record {
    sized = t.sized ∙ p.sized;
    at = λ u l. t.done u l ∙ rw (p.at u l, e) (mask-digit (λ v. bit (get_or rows v 0) u) k);
    past = λ u l. t.rest u l ∙ p.past u l;
  }

  -- a square that holds all of the rows
  pub square_columns : (side n w : ℕ) (T : List ℕ) → n ≤ side → w ≤ side → Rows rows n w → Square rows side side T → Columns rows n T
  square_columns side n w T i j r p = record {
    sized = p.sized;
    at = λ u l. ⊎_elim
        (λ q. p.at u (ltb-true u side q) ∙ mask-short n side _ i (λ v h. ap (λ (x : ℕ). bit x u) (r.past v h) ∙ bit_of-zero u))
        (λ q. let h = ltb-false u side q in p.past u h ∙ sym (mask-false n _ (λ v. bit_high w (get_or rows v 0) u (r.low v) (omega arith))))
        (bool_cases (ltb u side));
  }
