-- A turn of pruneAC over the tables: the setting at the head of the list, by its number. Assumes nothing.
use Rattle.std.specs.Prelude.{◌≡◌, Bool, true, false, List, ℕ, ◌+◌, ◌/◌, ◌^◌, ◌≤◌, ◌<◌, length}
use Rattle.std.proofs.Math.Path.{sym, ap}
use Rattle.std.proofs.Common.{◌∙◌, lt_of_le_of_lt}
use native.Mathlib.Omega.{arith}
use Rattle.std.specs.Int.Bits.{bit_and, bit_or, or_zero_r}
use Rattle.std.proofs.lemmas.Nat.{and_le_r}
use Rattle.std.proofs.Math.ListN.{get_or}
use Rattle.limits.specs.Limits.{most_fields, most_settings, list_places}
use Rattle.masks.specs.Tests.{and_l, and_r, and-by}
use Rattle.masks.specs.Bits.{bit}
use Rattle.masks.proofs.Words.{bit-and}
use Rattle.masks.specs.Sets.{has, count}
use Rattle.counter.specs.Counts.{Lowered}
use Rattle.removal_list.specs.Count.{Small}
use Rattle.removal_list.specs.Moved.{number_of}
use Rattle.consistency.specs.Problem.{Problem, In, in_all_fields}
use Rattle.network.specs.Tables.{rule_problem, Wired}
use Rattle.pruning.specs.Supports.{supports}
use Rattle.pruning.specs.Drop.{meets, meets-not, Dropped, dropped-none}
use Rattle.pruning.specs.Prune.{PruneAsks, Pruned, Pruning, places-enough, set-sized, set-small, head_setting}
use Rattle.pruning.specs.Prune.{turn-none, turn-next}
use Rattle.pruning.specs.SupportSet.{SetOf, set-has}
use Rattle.pruning.specs.Fields.{fields-small}

-- The counts towards j of the support set with number x are lowered in the first `wide` fields; `none` are those of its settings whose
-- count is 0 then, and `some` is whether one of them is in D.
pub record SetLowered (D C S : List ℕ) (x j wide : ℕ) (some : Bool) (none R : List ℕ) : Type 0 where
  pub set_of_x : List ℕ
  pub is_set : SetOf S x most_fields set_of_x
  pub lowered : Lowered C j set_of_x wide none R
  pub met : some ≡ meets wide D none

-- The same in the first n fields at least.
pub record EnoughLowered (D C S : List ℕ) (x j n : ℕ) (some : Bool) (none R : List ℕ) : Type 0 where
  pub wide : ℕ
  pub enough : n ≤ wide
  pub most : wide ≤ most_fields
  pub done : SetLowered D C S x j wide some none R

pub enough_lowered : {D C S : List ℕ} {x j wide n : ℕ} {some : Bool} {none R : List ℕ} → SetLowered D C S x j wide some none R
    → n ≤ wide → wide ≤ most_fields → EnoughLowered D C S x j n some none R
enough_lowered {wide = wide} done enough most = record { wide = wide; enough = enough; most = most; done = done }

module _ (n : ℕ) (joined forward turned : List ℕ) (wired : Wired n joined forward turned) (W : ℕ) (S D1 L1 : List ℕ) (t1 : ℕ) (C1 : List ℕ)
    (s : ℕ) (a : PruneAsks (rule_problem n joined forward turned) W S s D1 L1 t1 C1) (h changed spent : ℕ) (D L : List ℕ) (t : ℕ)
    (C : List ℕ)
    (p : Pruning (rule_problem n joined forward turned) W S D1 L1 t1 C1 s h changed spent D L t C) (k : h < t) where
  abbrev P : Problem
  P = rule_problem n joined forward turned

  -- the number of (j, b), and j
  abbrev x : ℕ
  x = get_or L h 0

  abbrev j : ℕ
  j = x / most_settings

  b : ℕ
  b = (head_setting P W S D1 L1 t1 C1 s a h changed spent D L t C p k).1

  head_is : (b < most_settings) × (get_or L h 0 ≡ number_of (get_or L h 0 / most_settings) b)
      × (has D (get_or L h 0 / most_settings) b ≡ false)
      × (In P W (get_or L h 0 / most_settings))
  unfolding b
  head_is =
      let s = head_setting P W S D1 L1 t1 C1 s a h changed spent D L t C p k in
      let l = s.2 in
      let q = s.3 in
      let e : s.0 ≡ get_or L h 0 / most_settings = omega arith in
      (l, (omega arith), ap (λ (g : ℕ). has D g s.1) (sym e) ∙ s.4, rw e at s.5)

  field-low : get_or L h 0 / most_settings < n
  unfolding rule_problem
  field-low = head_is.3.0

  -- what a turn asks
  pub head_asks : (h < list_places) × (get_or L h 0 < list_places) × (get_or L h 0 / most_settings < most_fields)
  head_asks =
      let y = (places-enough P W S D1 L1 t1 C1 s a h changed spent D L t C p).1 in
      let l = field-low in
      let f = wired.few in
      let q = head_is.1 in
      let z = head_is.0 in
      (omega arith, omega arith, omega arith)

  abbrev near : ℕ
  near = bit_and (get_or joined j 0) W

  pub drop-asks : (Small D × (bit_and (get_or joined (get_or L h 0 / most_settings) 0) W < 2 ^ most_fields) × (t + count D ≤ list_places))
      × (length D ≡ most_fields) × (length L ≡ list_places)
  drop-asks =
      let y = places-enough P W S D1 L1 t1 C1 s a h changed spent D L t C p in (
        (
          set-small P W S D1 L1 t1 C1 s a h changed spent D L t C p,
          lt_of_le_of_lt (and_le_r (get_or joined j 0) W)
              (fields-small n joined forward turned W wired.few (λ f e. (in_all_fields P f (a.on f e)).1)),
          y.1,
        ),
        set-sized P W S D1 L1 t1 C1 s a h changed spent D L t C p,
        y.0,
      )

  near-at : (f : ℕ) → bit (bit_and (get_or joined (get_or L h 0 / most_settings) 0) W) f ≡ true
      → In P W f × (P.joined f (get_or L h 0 / most_settings) ≡ true)
  unfolding rule_problem
  near-at f e =
      let q = sym (bit-and (get_or joined j 0) W f) ∙ e in
      let r = and_l _ (bit W f) q in
      (((wired.ends j f r).1, and_r (bit (get_or joined j 0) f) _ q), wired.symmetric.joins f j ∙ r)

  near_by : (f : ℕ) → In P W f → P.joined f (get_or L h 0 / most_settings) ≡ true
      → bit (bit_and (get_or joined (get_or L h 0 / most_settings) 0) W) f ≡ true
  unfolding rule_problem
  near_by f i e = bit-and (get_or joined j 0) W f ∙ and-by _ _ (wired.symmetric.joins j f ∙ e) i.1

  module _ (some : Bool) (none R : List ℕ) (enough : EnoughLowered D C S x j n some none R) where
    abbrev r : SetLowered D C S x j enough.wide some none R
    r = enough.done

    set_of : (i v : ℕ) → i < P.fields → has r.set_of_x i v ≡ supports S (get_or L h 0 / most_settings) b i v
    unfolding rule_problem
    set_of i v l = set-has S j b r.set_of_x (rw (sym head_is.1) r.is_set) i v (let f = wired.few in omega arith)

    module _ (Q K : List ℕ) (u lost : ℕ) where
      pub pruned_none : Dropped near none D L t true lost Q K u → (any : ℕ)
          → Pruned P W S D1 L1 t1 C1 true any (bit_or spent (2 ^ j)) Q K u R
      unfolding rule_problem
      pruned_none d any =
          turn-none P W S D1 L1 t1 C1 s a h changed spent D L t C p k j b head_is.0 head_is.1 head_is.2 head_is.3
          r.set_of_x set_of enough.wide enough.enough enough.most none R r.lowered near near-at near_by Q K u lost d any

      pub pruned_next : Dropped near none D L t false lost Q K u
          → Pruning P W S D1 L1 t1 C1 s (h + 1) (bit_or changed lost) (bit_or spent (2 ^ j)) Q K u R
      unfolding rule_problem
      pruned_next d =
          turn-next P W S D1 L1 t1 C1 s a h changed spent D L t C p k j b head_is.0 head_is.1 head_is.2 head_is.3
          r.set_of_x set_of enough.wide enough.enough enough.most none R r.lowered near near-at near_by Q K u lost d

    -- none of them is there
    pub pruned_same : some ≡ false → Pruning P W S D1 L1 t1 C1 s (h + 1) changed (bit_or spent (2 ^ j)) D L t R
    pruned_same e =
        rw (sym (or_zero_r changed))
        (pruned_next D L t 0
        (dropped-none near none D L t (λ f v i. meets-not enough.wide D none (sym r.met ∙ e) f v (near-field f i))))
      where
        near-field : (f : ℕ) → bit (bit_and (get_or joined (get_or L h 0 / most_settings) 0) W) f ≡ true → f < enough.wide
        near-field f i =
            let l = (wired.ends j f (and_l _ (bit W f) (sym (bit-and (get_or joined j 0) W f) ∙ i))).1 in
            let w = enough.enough in
            omega arith
