-- A turn of initializeAC over the tables: the arcs towards one field. Assumes nothing.
use Rattle.std.specs.Prelude.{◌≡◌, refl, true, false, List, ℕ, ◌+◌, ◌^◌, ◌≤◌, ◌<◌, length, get_or}
use Rattle.std.proofs.Common.{le_refl, arith}
use Rattle.std.specs.Int.Bits.{bit_or}
use Rattle.limits.specs.Limits.{most_fields, most_settings, table_words, counter_words, support_words, list_places}
use Rattle.masks.specs.Tests.{not_so}
use Rattle.masks.specs.Bits.{bit}
use Rattle.masks.specs.Sets.{count}
use Rattle.counter.specs.Counts.{Uncounted}
use Rattle.removal_list.specs.Count.{Small}
use Rattle.consistency.specs.Problem.{Problem, in_all_fields}
use Rattle.network.specs.Tables.{rows_of, rule_problem, Wired}
use Rattle.pruning.specs.Drop.{Dropped}
use Rattle.initializing.specs.Initialize.{Recorded, Initializing, Initialized, InitializeAsks, room-enough, now-sized, now-small}
use Rattle.initializing.specs.Initialize.{initializing_start, initializing_end, initializing_none, initializing_turn}
use Rattle.initializing.specs.Record.{RecordedArcs, recorded}
use Rattle.initializing.specs.Count.{CountsMade, counted-towards}
use Rattle.pruning.specs.Fields.{fields-small}

module _ (n : ℕ) (joined forward turned : List ℕ) (wired : Wired n joined forward turned) (D0 L0 S0 C0 : List ℕ)
    (ask : InitializeAsks (rule_problem n joined forward turned) D0 L0 S0 C0) where
  abbrev P : Problem
  P = rule_problem n joined forward turned

  few : P.fields ≤ most_fields
  unfolding rule_problem
  few = wired.few

  pub initialize_start : Initializing P D0 L0 0 0 D0 L0 0 S0 C0
  initialize_start = initializing_start P D0 L0 wired.symmetric few S0 C0 ask

  module _ (k changed : ℕ) (D L : List ℕ) (t : ℕ) (S C : List ℕ) (p : Initializing P D0 L0 k changed D L t S C) where
    pub initialize_end : k ≡ n → Initialized P D0 L0 false changed D L t S C
    unfolding rule_problem
    initialize_end e = initializing_end P D0 L0 wired.symmetric few S0 C0 ask k changed D L t S C p e

    module _ (l : k < n) where
      abbrev near : ℕ
      near = get_or joined k 0

      near-low : get_or joined k 0 < 2 ^ most_fields
      unfolding rule_problem
      near-low =
          fields-small n joined forward turned near wired.few
          (λ f e. (in_all_fields (rule_problem n joined forward turned) f (wired.ends k f e).1).1)

      small : Small D
      small = now-small P D0 L0 wired.symmetric few S0 C0 ask k changed D L t S C p

      pub record-asks : ((k < most_fields) × (get_or joined k 0 < 2 ^ most_fields) × (bit (get_or joined k 0) k ≡ false)
          × (table_words ≤ length forward) × (table_words ≤ length turned)) × (length S ≡ support_words)
      record-asks = (
        (
          (let f = wired.few in omega arith),
          near-low,
          not_so (bit near k) (λ e. (wired.ends k k e).2 refl),
          wired.forwards,
          wired.turneds,
        ),
        p.long-S,
      )

      pub count-asks : ((k < most_fields) × (get_or D k 0 < 2 ^ most_settings) × (n ≤ most_fields)) × (length C ≡ counter_words)
      count-asks = (((let f = wired.few in omega arith), small k, wired.few), p.long-C)

      pub initialize_drop-asks : (Small D × (get_or joined k 0 < 2 ^ most_fields) × (t + count D ≤ list_places))
          × (length D ≡ most_fields) × (length L ≡ list_places)
      initialize_drop-asks =
          let r = room-enough P D0 L0 wired.symmetric few S0 C0 ask k changed D L t S C p in
          ((small, near-low, r.1), now-sized P D0 L0 wired.symmetric few S0 C0 ask k changed D L t S C p, r.0)

      module _ (R : List ℕ) (r : RecordedArcs (λ i. rows_of forward turned k i) k (get_or joined k 0) D S 0 R) (E : List ℕ)
          (m : CountsMade R k (get_or D k 0) n C 0 E) (none : List ℕ) (u : Uncounted E k D n none) (lost : ℕ) (Q K : List ℕ) (v : ℕ) where
        rec : Recorded P D S k R
        rec = recorded n joined forward turned wired D S small k (λ q h. p.none-S q (omega arith)) R r

        pub initialized_none : Dropped (get_or joined k 0) none D L t true lost Q K v → (any : ℕ) → Initialized P D0 L0 true any Q K v R E
        unfolding rule_problem
        initialized_none d any =
            initializing_none P D0 L0 wired.symmetric few S0 C0 ask k changed D L t S C p l R rec E
            (counted-towards P few D R S k rec C E (λ i a h. p.none-C k i a (le_refl k) h) m) n (le_refl n) none u near (λ f. refl)
            (λ f e. (wired.ends k f e).1) lost Q K v d any

        pub initialized_next : Dropped (get_or joined k 0) none D L t false lost Q K v
            → Initializing P D0 L0 (k + 1) (bit_or changed lost) Q K v R E
        unfolding rule_problem
        initialized_next d =
            initializing_turn P D0 L0 wired.symmetric few S0 C0 ask k changed D L t S C p l R rec E
            (counted-towards P few D R S k rec C E (λ i a h. p.none-C k i a (le_refl k) h) m) n (le_refl n) none u near (λ f. refl)
            (λ f e. (wired.ends k f e).1) lost Q K v d
