-- One field visited: each of its settings is tested, and removed where it fails. Assumes nothing.
use Rattle.std.specs.Prelude.{◌≡◌, Bool, List, ℕ, length, get_or}
use Rattle.std.proofs.Math.Path.{refl}
use Rattle.std.proofs.Common.{sym, ap, ◌∙◌, ⊎_elim, true≢false}
use Rattle.std.proofs.Math.Bool.{true, false}
use Rattle.std.specs.Int.Bits.{bit_and, bit_or}
use Rattle.masks.specs.Tests.{never, not_so, bool_cases, and_r, and-by, or_l, or_r}
use Rattle.masks.specs.Bits.{bit, Within}
use Rattle.masks.proofs.Bits.{bit_of-zero}
use Rattle.masks.specs.Words.{clear}
use Rattle.masks.proofs.Words.{bit-and, bit-or, clear_within, clear-gone}
use Rattle.masks.specs.Sets.{has}
use Rattle.consistency.specs.Problem.{Problem, all_fields}
use Rattle.consistency.specs.Passing.{passes_over}
use Rattle.consistency.specs.Offers.{offers, wiped_out}
use Rattle.pruning.specs.Shrunk.{or-within, Shrunk, shrunk-none, shrunk-then}
use Rattle.closing.specs.Frame.{Live, Removed, WhereTested, wiped-same, passes_same, removed_none, removed_steady, removed_live}
use Rattle.closing.specs.Frame.{removed_gone}

module _ (P : Problem) (W f : ℕ) where
  -- in W at most f changed
  abbrev pub Own : ℕ → Type 0
  Own touched = (g : ℕ) → bit touched g ≡ true → bit W g ≡ true → g ≡ f

  -- ---- the turns: the positions of `left` are still to come

  pub record Visiting (S0 : List ℕ) (left touched : ℕ) (S : List ℕ) : Type 0 where
    pub shrunk : Shrunk S0 S touched
    pub marks : Within touched (all_fields P)
    pub live : Live P S
    pub lefts : Within left (get_or S f 0)
    pub steady : WhereTested P W f (λ hood selected. offers P hood selected S ≡ offers P hood selected S0)
    pub passed : Own touched → (v : ℕ) → has S f v ≡ true → bit left v ≡ false → passes_over P W S f v ≡ true

  -- What a visit leaves: the same offers; and if in W nothing but f changed, every setting of f passes. Or else the set is wiped out.
  pub record Visited (S0 : List ℕ) (wiped : Bool) (touched : ℕ) (S : List ℕ) : Type 0 where
    pub sized : length S ≡ length S0
    pub shrunk : wiped ≡ false → Shrunk S0 S touched
    pub marks : wiped ≡ false → Within touched (all_fields P)
    pub live : wiped ≡ false → Live P S
    pub steady : wiped ≡ false → WhereTested P W f (λ hood selected. offers P hood selected S ≡ offers P hood selected S0)
    pub passed : wiped ≡ false → Own touched → (v : ℕ) → has S f v ≡ true → passes_over P W S f v ≡ true
    pub none : wiped ≡ true → WhereTested P W f (λ hood selected. wiped_out P hood selected S0 ≡ true)

  module _ (S0 : List ℕ) where
    pub visiting_start : Live P S0 → Visiting S0 (get_or S0 f 0) 0 S0
    unfolding has
    visiting_start l = record {
      shrunk = shrunk-none S0;
      marks = λ v e. absurd (never e (bit_of-zero v));
      live = l;
      lefts = λ v e. e;
      steady = λ hood selected w i. refl;
      passed = λ own v e n. absurd (never e n);
    }

    pub visiting_end : (left touched : ℕ) (S : List ℕ) → left ≡ 0 → Visiting S0 left touched S → Visited S0 false touched S
    visiting_end left touched S z p = record {
      sized = p.shrunk.sized;
      shrunk = λ _. p.shrunk;
      marks = λ _. p.marks;
      live = λ _. p.live;
      steady = λ _. p.steady;
      passed = λ _ own v e. p.passed own v e (ap (λ (x : ℕ). bit x v) z ∙ bit_of-zero v);
      none = λ e. absurd (true≢false (sym e));
    }

    module _ (left touched : ℕ) (S : List ℕ) (v : ℕ) (p : Visiting S0 left touched S) where
      pub visiting_has : bit left v ≡ true → has S f v ≡ true
      unfolding has
      visiting_has b = p.lefts v b

      -- the setting passed
      pub visiting_pass : passes_over P W S f v ≡ true → Visiting S0 (clear left v) touched S
      visiting_pass d = record {
        shrunk = p.shrunk;
        marks = p.marks;
        live = p.live;
        lefts = λ u e. p.lefts u (clear_within left v u e);
        steady = p.steady;
        passed = λ own u e n. ⊎_elim (λ q. rw (clear-gone left v u q n) d) (p.passed own u e) (bool_cases (bit left u));
      }

      module _ (d : passes_over P W S f v ≡ false) where
        -- it failed, and its removal wipes out
        pub visiting_none : (changed : ℕ) (R : List ℕ) → Removed P S f v true changed R → (any : ℕ) → Visited S0 true any R
        visiting_none changed R r any = record {
          sized = r.sized ∙ p.shrunk.sized;
          shrunk = λ e. absurd (true≢false e);
          marks = λ e. absurd (true≢false e);
          live = λ e. absurd (true≢false e);
          steady = λ e. absurd (true≢false e);
          passed = λ e. absurd (true≢false e);
          none = λ _ hood selected w i. wiped-same P hood selected S S0 (p.steady hood selected w i)
              (removed_none P W S f v d true changed R r refl hood selected w i);
        }

        -- it failed, and its removal leaves R
        pub visiting_fail : (changed : ℕ) (R : List ℕ) → Removed P S f v false changed R
            → Visiting S0 (bit_and (clear left v) (get_or R f 0)) (bit_or touched changed) R
        unfolding has
        visiting_fail changed R r =
            let s = r.shrunk refl in
            record {
              shrunk = shrunk-then p.shrunk s;
              marks = or-within touched changed (all_fields P) p.marks (r.marks refl);
              live = removed_live P W S f v d false changed R r refl p.live;
              lefts = λ u e. and_r (bit (clear left v) u) _ (sym (bit-and (clear left v) (get_or R f 0) u) ∙ e);
              steady = λ hood selected w i. removed_steady P W S f v d false changed R r refl hood selected w i
                  ∙ p.steady hood selected w i;
              passed = λ own u h n. passes_same P W S R f u h
                  (λ g i e. s.same g (not_so (bit changed g) (λ y. e (own g (or_in g y) i))))
                  (p.passed (λ g y. own g (or-old g y)) u (s.inside f u h) (was_off u h n));
            }
          where
            or_in : (g : ℕ) → bit changed g ≡ true → bit (bit_or touched changed) g ≡ true
            or_in g y = bit-or touched changed g ∙ or_r (bit touched g) _ y

            or-old : (g : ℕ) → bit touched g ≡ true → bit (bit_or touched changed) g ≡ true
            or-old g y = bit-or touched changed g ∙ or_l _ _ y

            -- a setting of R that is not to come was not to come
            was_off : (u : ℕ) → has R f u ≡ true → bit (bit_and (clear left v) (get_or R f 0)) u ≡ false → bit left u ≡ false
            was_off u h n = not_so (bit left u) (λ y. never (bit-and (clear left v) (get_or R f 0) u ∙ and-by _ _ (stays y) h) n)
              where
                stays : bit left u ≡ true → bit (clear left v) u ≡ true
                stays y = ⊎_elim (λ q. q)
                    (λ q. absurd (removed_gone P W S f v d false changed R r refl (rw (clear-gone left v u y q) at h)))
                    (bool_cases (bit (clear left v) u))
