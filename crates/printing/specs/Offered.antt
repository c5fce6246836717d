-- The settings of a field that a mask offers rise, and are those at the positions of the mask. Assumes nothing.
use Rattle.std.specs.Prelude.{◌≡◌, Bool, ltb}
use Rattle.std.proofs.Math.Path.{refl}
use Rattle.std.proofs.Math.Logic.{⊎_elim}
use Rattle.std.proofs.Math.Bool.{true, false}
use mathlib.Core.List.Memᴰ
use mathlib.Core.List.{List, [], ◌∷◌, ◌++◌, append-nil, Memᴰ}
use Prim.Native.Nat.{ℕ, zero, suc, ◌≤◌, ◌<◌}
use Rattle.std.proofs.Common.{arith, ltb-true, ltb-false}
use Rattle.masks.specs.Bits.{bit}
use Rattle.masks.specs.Pick.{pick_true, pick-false}
use Rattle.accepted.specs.Sheets.{Below, below_none, below_one}
use Rattle.accepted.specs.Parts.{Field, count_of, setting_of}
use Rattle.accepted.specs.Facts.{facts}
use Rattle.accepted.specs.Order.{settings-rise}
use Rattle.printing.specs.Text.{offer, offered}

-- each number is above all that stand before it
pub data Rising : List ℕ → Type 0 where
  rising_none : Rising []
  rising-then : {l : List ℕ} {x : ℕ} → Rising l → Below x l → Rising (l ++ x ∷ [])

below_then : {b : ℕ} {l : List ℕ} (m : List ℕ) → Below b l → Below b m → Below b (l ++ m)
below_then m below_none k = k
below_then m (below_one p t) k = below_one p (below_then m t k)

module _ (xs : List ℕ) (f : ℕ) (g : Field xs f) (mask : ℕ) where
  offer-below : (v w : ℕ) → v < w → w < count_of xs f → Below (setting_of xs f w) (offer xs f mask v)
  offer-below v w h k = go (bit mask v) refl
    where
      go : (t : Bool) → bit mask v ≡ t → Below (setting_of xs f w) (offer xs f mask v)
      go true e = rw (pick_true _ _ _ e) (below_one (settings-rise xs (facts xs g.accepted) f v w g.within h k) below_none)
      go false e = rw (pick-false _ _ _ e) below_none

  offered-below : (v w : ℕ) → v ≤ w → w < count_of xs f → Below (setting_of xs f w) (offered xs f mask v)
  unfolding offered
  offered-below zero w h k = below_none
  offered-below (suc v) w h k = below_then (offer xs f mask v) (offered-below v w (omega arith) k) (offer-below v w (omega arith) k)

  pub offered-rising : (v : ℕ) → v ≤ count_of xs f → Rising (offered xs f mask v)
  unfolding offered
  offered-rising zero h = rising_none
  offered-rising (suc v) h =
      step (offered xs f mask v) (offered-rising v (omega arith)) (offered-below v v (omega arith) (omega arith)) (bit mask v) refl
    where
      step : (l : List ℕ) → Rising l → Below (setting_of xs f v) l → (t : Bool) → bit mask v ≡ t → Rising (l ++ offer xs f mask v)
      step l r b true e = rw (pick_true _ _ _ e) (rising-then r b)
      step l r b false e = rw (pick-false _ _ _ e, append-nil) r

-- s is the setting at a position below w that the mask has
pub record OfferedAt (xs : List ℕ) (f mask w s : ℕ) : Type 0 where
  pub position : ℕ
  pub below : position < w
  pub has : bit mask position ≡ true
  pub setting : s ≡ setting_of xs f position

module _ (xs : List ℕ) (f mask : ℕ) where
  pub offered-has : (w v : ℕ) → v < w → bit mask v ≡ true → Memᴰ (setting_of xs f v) (offered xs f mask w)
  unfolding offered
  offered-has zero v h e = absurd (omega arith)
  offered-has (suc w) v h e = step (offered xs f mask w) (λ l. offered-has w v l e) (ltb v w) refl
    where
      here : v ≡ w → Memᴰ (setting_of xs f v) (offer xs f mask w)
      here z = rw (← z, pick_true _ _ _ e) (Memᴰ.head refl)

      step : (l : List ℕ) → (v < w → Memᴰ (setting_of xs f v) l) → (t : Bool) → ltb v w ≡ t
          → Memᴰ (setting_of xs f v) (l ++ offer xs f mask w)
      step l ih true q = Memᴰ.append_left (offer xs f mask w) (ih (ltb-true v w q))
      step l ih false q = Memᴰ.append_right l (here (let k = ltb-false v w q in omega arith))

  pub offered-only : (w s : ℕ) → Memᴰ s (offered xs f mask w) → OfferedAt xs f mask w s
  unfolding offered
  offered-only zero s m = absurd (Memᴰ.not-nil m)
  offered-only (suc w) s m =
      ⊎_elim
      (λ l.
      let r = offered-only w s l in
      record { position = r.position; below = omega (arith, r.below); has = r.has; setting = r.setting })
      (λ l. last (bit mask w) refl l)
      (Memᴰ.append_cases (offered xs f mask w) m)
    where
      last : (t : Bool) → bit mask w ≡ t → Memᴰ s (offer xs f mask w) → OfferedAt xs f mask (suc w) s
      last true e l =
          record { position = w; below = omega arith; has = e; setting = Memᴰ.eq_of_singleton (rw (pick_true _ _ _ e) at l) }
      last false e l = absurd (Memᴰ.not-nil (rw (pick-false _ _ _ e) at l))
