-- What 02, request 5, asks to be shown of closing, over the contracts of `initialize_ac`, `prune_ac`, `close`, `test` and `remove`. Assumes
-- nothing.
use Rattle.std.specs.Prelude.{◌≡◌, Bool, true, false, List, ℕ, ◌≤◌, ◌<◌, get_or}
use Rattle.std.proofs.Common.{sym, ◌∙◌}
use Rattle.limits.specs.Limits.{most_settings}
use Rattle.masks.specs.Sets.{has}
use Rattle.counter.specs.Counts.{count_at}
use Rattle.removal_list.specs.Moved.{number_of, Moved, moved_then}
use Rattle.consistency.specs.Problem.{Problem}
use Rattle.pruning.specs.Supports.{supports-less, partners, counts-exact}
use Rattle.pruning.specs.Prune.{PruneAsks, Pruned}
use Rattle.initializing.specs.Initialize.{Initialized}
use Rattle.closing.specs.declared.ac4.Ac4.{Ac4}
use Rattle.closing.specs.Asks.{Counted, Lists}

-- position b of field j is at one place of the list from t to u
abbrev pub EntersOnce : List ℕ → ℕ → ℕ → ℕ → ℕ → Type 0
EntersOnce L t u j b =
    (p : ℕ) × (t ≤ p) × (p < u) × (get_or L p 0 ≡ number_of j b) × ((q : ℕ) → t ≤ q → q < u → get_or L q 0 ≡ number_of j b → q ≡ p)

-- ---- each setting that a set lost entered the list a single time, and nothing else entered

module _ (D L : List ℕ) (t : ℕ) (R K : List ℕ) (u : ℕ) (m : Moved D L t R K u) where
  pub lost-enters-once : (j b : ℕ) → has D j b ≡ true → has R j b ≡ false → EntersOnce K t u j b
  lost-enters-once j b e g =
      let x = m.enters j b e g in
      (x.0, x.1, x.2, x.3, λ q l h k. m.once q x.0 l h x.1 x.2 (k ∙ sym x.3))

  pub entered_was_lost : (p : ℕ) → t ≤ p → p < u
      → (j : ℕ) × (b : ℕ) × (b < most_settings) × (get_or K p 0 ≡ number_of j b) × (has D j b ≡ true) × (has R j b ≡ false)
  entered_was_lost = m.nothing_else

-- as `close`, `test` and `remove` promise it: from the set that they are given to the set that they leave
module _ (D L R K : List ℕ) (l : Lists D L R K) where
  pub listed-once : (j b : ℕ) → has D j b ≡ true → has R j b ≡ false → EntersOnce K 0 l.0 j b
  listed-once = lost-enters-once D L 0 R K l.0 l.1

  pub listed_was_lost : (p : ℕ) → 0 ≤ p → p < l.0
      → (j : ℕ) × (b : ℕ) × (b < most_settings) × (get_or K p 0 ≡ number_of j b) × (has D j b ≡ true) × (has R j b ≡ false)
  listed_was_lost = entered_was_lost D L 0 R K l.0 l.1

module _ (P : Problem) where
  -- initializeAC, whether or not a field has nothing left
  module _ (D0 L0 : List ℕ) (wiped : Bool) (changed : ℕ) (D L : List ℕ) (t : ℕ) (S C : List ℕ)
      (i : Initialized P D0 L0 wiped changed D L t S C) where
    pub initialized_enters-once : (j b : ℕ) → has D0 j b ≡ true → has D j b ≡ false → EntersOnce L 0 t j b
    initialized_enters-once = lost-enters-once D0 L0 0 D L t i.moved

    pub initialized_nothing_else : (q : ℕ) → 0 ≤ q → q < t
        → (j : ℕ) × (b : ℕ) × (b < most_settings) × (get_or L q 0 ≡ number_of j b) × (has D0 j b ≡ true) × (has D j b ≡ false)
    initialized_nothing_else = entered_was_lost D0 L0 0 D L t i.moved

  -- pruneAC, of which `whole` is the set of all that was there or waited: the list has, from s on, each setting of it that is gone a
  -- single time, those
  -- that closing removed from t1 on, and nothing else
  module _ (W : ℕ) (S D1 L1 : List ℕ) (t1 : ℕ) (C1 : List ℕ) (s : ℕ) (a : PruneAsks P W S s D1 L1 t1 C1) (wiped : Bool) (changed spent : ℕ)
      (D L : List ℕ) (t : ℕ) (C : List ℕ) (p : Pruned P W S D1 L1 t1 C1 wiped changed spent D L t C) where
    pub pruned_enters-once : (j b : ℕ) → has a.listed.whole j b ≡ true → has D j b ≡ false → EntersOnce L s t j b
    pruned_enters-once =
        lost-enters-once a.listed.whole a.listed.before s D L t (moved_then a.listed.moved p.moved)

    pub pruned_nothing_else : (q : ℕ) → t1 ≤ q → q < t
        → (j : ℕ) × (b : ℕ) × (b < most_settings) × (get_or L q 0 ≡ number_of j b) × (has D1 j b ≡ true) × (has D j b ≡ false)
    pruned_nothing_else = entered_was_lost D1 L1 t1 D L t p.moved

    -- once the list is empty: the count of a setting that is there is the number of its allowed partners that are there
    pub pruned_counts : wiped ≡ false → (i j v : ℕ) → i < P.fields → j < P.fields → P.joined i j ≡ true → has D i v ≡ true
        → count_at C j i v ≡ partners P D i v j
    pruned_counts e =
        counts-exact P S C D (supports-less P S D1 D p.moved.inside a.supported) (p.counts e)

  -- between two tests, as `close`, `test` and `remove` leave them, the counts and their copy are exact
  pub counted-exact : (c : Ac4) (D : List ℕ) → Counted P c D → (i j a : ℕ) → i < P.fields → j < P.fields → P.joined i j ≡ true
      → has D i a ≡ true → (count_at c.counter.counts j i a ≡ partners P D i a j) × (count_at c.copy.counts j i a ≡ partners P D i a j)
  counted-exact c D x i j a l k r e =
      let y = counts-exact P c.support c.counter.counts D x.supported x.counts i j a l k r e in
      (y, rw x.copied y)
