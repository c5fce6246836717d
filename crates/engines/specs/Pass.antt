-- One pass over the selected fields in the lent order. Assumes nothing.
use Rattle.std.specs.Prelude.{◌≡◌, Bool, true, false, List, ℕ, ◌+◌, ◌≤◌, ◌<◌, length, get_or}
use Rattle.std.proofs.Common.{sym, ap, ◌∙◌, ⊎_elim, true≢false, eq-or-lt_of_le, arith}
use Rattle.std.specs.Int.Bits.{bit_or}
use Rattle.masks.specs.Tests.{never}
use Rattle.masks.specs.Bits.{bit}
use Rattle.masks.proofs.Bits.{bit_of-zero}
use Rattle.consistency.specs.Problem.{Problem, In}
use Rattle.pruning.specs.Shrunk.{zero_or, shrunk-still}
use Rattle.closing.specs.Frame.{Live}
use Rattle.visiting.specs.Visit.{Visited}
use Rattle.engines.specs.Engine.{IsOrder, Kept, kept-start, kept_then, kept-wiped, Wiped, visit-kept, visit-wiped, FieldPasses}

module _ (P : Problem) (order hood : List ℕ) (selected : ℕ) (S0 : List ℕ) where
  -- the selected of the first p fields of the order were visited; where nothing changed, their settings pass
  pub record Passing (p touched : ℕ) (S : List ℕ) : Type 0 where
    pub kept : Kept P hood selected S0 touched S
    pub past : touched ≡ 0 → (q : ℕ) → q < p → In P selected (get_or order q 0) → FieldPasses P hood S (get_or order q 0)

  -- What a pass leaves: the same offers, and where nothing changed, every setting of a selected field passes. Or else the set is wiped out.
  pub record Passed (wiped : Bool) (touched : ℕ) (S : List ℕ) : Type 0 where
    pub sized : length S ≡ length S0
    pub kept : wiped ≡ false → Kept P hood selected S0 touched S
    pub done : wiped ≡ false → touched ≡ 0 → (f : ℕ) → In P selected f → FieldPasses P hood S f
    pub none : wiped ≡ true → Wiped P hood selected S0

  pub passing-start : Live P S0 → Passing 0 0 S0
  passing-start l = record { kept = kept-start P hood selected S0 l; past = λ z q i. absurd (omega arith) }

  pub passing_end : (p touched : ℕ) (S : List ℕ) → IsOrder P.fields order → P.fields ≤ p → Passing p touched S → Passed false touched S
  passing_end p touched S o h g = record {
    sized = g.kept.shrunk.sized;
    kept = λ _. g.kept;
    done = λ _ z f l. let x = o.every f l.0 in
        rw (sym x.2) (g.past z x.0 (let i = x.1 in omega arith) (rw x.2 l));
    none = λ e. absurd (true≢false (sym e));
  }

  -- a field that is not selected is passed over
  pub passing_skip : (p touched : ℕ) (S : List ℕ) → Passing p touched S → bit selected (get_or order p 0) ≡ false
      → Passing (p + 1) touched S
  passing_skip p touched S g n = record {
    kept = g.kept;
    past = λ z q i s. ⊎_elim (λ j. absurd (never s.1 (ap (λ (x : ℕ). bit selected (get_or order x 0)) j ∙ n))) (λ j. g.past z q j s)
        (eq-or-lt_of_le (let k : q ≤ p = omega arith in k));
  }

  module _ (p touched : ℕ) (S : List ℕ) (g : Passing p touched S) (l : In P selected (get_or order p 0)) (wiped : Bool) (changed : ℕ)
      (R : List ℕ) (v : Visited P (get_or hood (get_or order p 0) 0) (get_or order p 0) S wiped changed R) where
    pub passing-none : wiped ≡ true → (any : ℕ) → Passed true any R
    passing-none e any = record {
      sized = v.sized ∙ g.kept.shrunk.sized;
      kept = λ q. absurd (true≢false q);
      done = λ q. absurd (true≢false q);
      none = λ _. kept-wiped P hood selected g.kept (visit-wiped P hood selected (get_or order p 0) l S wiped changed R v e);
    }

    pub passing-turn : wiped ≡ false → Passing (p + 1) (bit_or touched changed) R
    passing-turn e = record {
      kept = kept_then P hood selected g.kept (visit-kept P hood selected (get_or order p 0) l S wiped changed R v e);
      past = past;
    }
      where
        past : bit_or touched changed ≡ 0 → (q : ℕ) → q < p + 1 → In P selected (get_or order q 0) → FieldPasses P hood R (get_or order q 0)
        past z q i s =
            let y = zero_or touched changed z in
            ⊎_elim (λ j. rw j (v.passed e (λ f b. absurd (never b (ap (λ (c : ℕ). bit c f) y.1 ∙ bit_of-zero f)))))
            (λ j. rw (shrunk-still (v.shrunk e) y.1) (g.past y.0 q j s))
            (eq-or-lt_of_le (let k : q ≤ p = omega arith in k))
