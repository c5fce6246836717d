-- A loop that takes positions of one field from a set, one after the other, and puts each at the tail of the list. Assumes nothing.
use Rattle.std.specs.Prelude.{◌≡◌, true, List, ℕ, ◌+◌, ◌≤◌, ◌<◌, length, get_or, set}
use Rattle.std.proofs.Math.Path.{refl}
use Rattle.std.proofs.Common.{sym, ap, ◌∙◌, arith}
use Rattle.limits.specs.Limits.{most_settings}
use Rattle.masks.specs.Tests.{never}
use Rattle.masks.specs.Bits.{bit, Within}
use Rattle.masks.proofs.Bits.{bit_bound}
use Rattle.masks.specs.Words.{clear}
use Rattle.masks.proofs.Words.{clear_within, clear-same}
use Rattle.masks.specs.Sets.{has, count}
use Rattle.masks.proofs.Settings.{lose-set, lose-by}
use Rattle.removal_list.specs.Count.{Small, count-lose}
use Rattle.removal_list.specs.Moved.{number_of, Moved, moved_none, moved_then, moved-one, without, without-none, without-lose}

-- D0, L0 and t0 are the set, the list and its tail at the start, `gone` the positions of field i that are to leave
module _ (D0 L0 : List ℕ) (t0 i gone : ℕ) where
  -- the positions of `left` are still to come
  pub record Moving (left : ℕ) (D L : List ℕ) (t : ℕ) : Type 0 where
    pub moved : Moved D0 L0 t0 D L t
    pub lefts : (a : ℕ) → bit left a ≡ true → has D i a ≡ true
    pub rest : without D i left ≡ without D0 i gone

  pub moving_start : Within gone (get_or D0 i 0) → Moving gone D0 L0 t0
  unfolding has
  moving_start w = record { moved = moved_none D0 L0 t0; lefts = w; rest = refl }

  pub moving_end : (left : ℕ) (D L : List ℕ) (t : ℕ) → left ≡ 0 → Moving left D L t → Moved D0 L0 t0 D L t × (D ≡ without D0 i gone)
  moving_end left D L t z m = (m.moved, sym (without-none D i) ∙ sym (ap (without D i) z) ∙ m.rest)

  module _ (left : ℕ) (D L : List ℕ) (t a : ℕ) (m : Moving left D L t) (b : bit left a ≡ true) where
    -- a position of the set is one of a field
    pub moving_low : Small D0 → a < most_settings
    unfolding has
    moving_low s = bit_bound most_settings (get_or D0 i 0) a (s i) (m.moved.inside i a (m.lefts a b))

    -- the set still has a setting, so the list has a place
    pub moving_room : t0 + count D0 ≤ length L0 → t < length L
    moving_room r = omega (arith, m.moved.room, m.moved.long, count-lose D i a (m.lefts a b))

    pub moving_turn : Small D0 → t0 + count D0 ≤ length L0
        → Moving (clear left a) (set D i (clear (get_or D i 0) a)) (set L t (number_of i a)) (t + 1)
    moving_turn s r = rw (← lose-set D i a) (record {
      moved = moved_then m.moved (moved-one D L t i a (m.lefts a b) (moving_low s) (moving_room r));
      lefts = λ u e. lose-by D i a i u (m.lefts u (clear_within left a u e))
          (λ _ q. never e (ap (bit (clear left a)) q ∙ clear-same left a));
      rest = without-lose D i left a b ∙ m.rest;
    })
