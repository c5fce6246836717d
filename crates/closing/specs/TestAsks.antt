-- The test of a setting and the removal of one: what their parts ask, and what they leave. Assumes nothing.
use Rattle.std.specs.Prelude.{Result, Ok, Err, ◌≡◌, Bool, true, false, not, List, ℕ, ◌+◌, ◌^◌, ◌≤◌, ◌<◌, length, get_or}
use Rattle.std.proofs.Math.Path.{refl}
use Rattle.std.proofs.Common.{sym, ap, ◌∙◌, arith, eqb-true}
use Rattle.std.specs.Int.Bits.{bit_or, bit_xor, or_zero_l}
use Rattle.std.specs.Result.{is_ok}
use Rattle.limits.specs.Limits.{most_fields, counter_words, list_places}
use Rattle.limits.specs.Refusals.{is_wiped}
use Rattle.masks.specs.Bits.{bit, Within}
use Rattle.masks.proofs.Words.{bit-one}
use Rattle.masks.specs.Sets.{has, count}
use Rattle.masks.specs.Settings.{cut, length_cut, lose, length-lose, empty}
use Rattle.masks.proofs.Settings.{cut_⊆, lose_⊆}
use Rattle.removal_list.specs.Count.{Small, count_most}
use Rattle.removal_list.specs.Moved.{Moved, moved_then, without}
use Rattle.consistency.specs.Problem.{Problem, all_fields, in_all_fields}
use Rattle.network.specs.declared.tables.Tables.{Tables}
use Rattle.network.specs.TripleTable.{problem_of}
use Rattle.network.specs.Network.{problem, rules}
use Rattle.pruning.specs.Supports.{supports-less}
use Rattle.pruning.specs.Prune.{OnlySpent, PruneAsks, Pruned}
use Rattle.revising.specs.Table.{FieldsBelow}
use Rattle.revising.specs.Narrow.{ClosedElse}
use Rattle.counter.specs.declared.Counter.{Counter}
use Rattle.closing.specs.declared.ac4.Ac4.{Ac4}
use Rattle.closing.specs.Fields.{fields-small}
use Rattle.closing.specs.Frame.{Tested, Removed, tested, cut-full}
use Rattle.closing.specs.Asks.{LiveAsks, Counted, Kept, Lists, place_bound, off-within, without-off, prune_asks, closed_else}
use Rattle.closing.specs.Asks.{cut-same, lose-same}
use Rattle.closing.specs.Asks.{lose-full, removed_closed}

-- no field was there before those of s
none_before : {before after s : ℕ} → after ≡ bit_or before s → before ≡ 0 → after ≡ s
none_before {before} {after} {s} e z = e ∙ rw z (or_zero_l s)

-- an answer that is Ok is not wiped out
pub ok_not-wiped : {A E : Type 0} (r : Result A E) → is_ok r ≡ not (is_wiped r)
ok_not-wiped (Ok x) = refl
ok_not-wiped (Err e) = refl

module _ (t : Tables) (S : List ℕ) (a : LiveAsks t S) (c : Ac4) (ct : Counted (problem t) c S) (f v : ℕ) (e : has S f v ≡ true) where
  abbrev P : Problem
  P = problem t

  -- what `move_out` asks of some settings of f
  off-asks : (off : ℕ) → Within off (get_or S f 0)
      → (Small S × (f < most_fields) × Within off (get_or S f 0) × (0 + count S ≤ list_places))
      × (length S ≡ most_fields) × (length c.list.places ≡ list_places)
  off-asks off w =
      let l = place_bound t S a f v e in
      let m = count_most S a.masks.small in
      let k = a.masks.long in
      ((a.masks.small, l.1, w, omega arith), a.masks.long, ct.places)

  -- the field is one of the sheet
  pub own_below : FieldsBelow t.network.now.fields (2 ^ f)
  own_below g b = rw (eqb-true g f (sym (bit-one f g) ∙ b)) (place_bound t S a f v e).0

  -- ---- the test: the other settings of f are cut off

  abbrev cut_off : ℕ
  cut_off = bit_xor (get_or S f 0) (get_or (cut S f v) f 0)

  pub cut-asks : (Small S × (f < most_fields) × Within (bit_xor (get_or S f 0) (get_or (cut S f v) f 0)) (get_or S f 0)
      × (0 + count S ≤ list_places)) × (length S ≡ most_fields) × (length c.list.places ≡ list_places)
  cut-asks = off-asks cut_off (off-within t S a (cut S f v) f (length_cut S f v) (cut_⊆ S f v) (cut-same t S a f v))

  module _ (R K : List ℕ) (w : ℕ) (m : Moved S c.list.places 0 R K w)
      (made : R ≡ without S f (bit_xor (get_or S f 0) (get_or (cut S f v) f 0))) where
    is_cut : R ≡ cut S f v
    is_cut = made ∙ without-off t S a (cut S f v) f (length_cut S f v) (cut_⊆ S f v) (cut-same t S a f v)

    module _ (W : ℕ) (fields : Within W (all_fields (problem t))) (in_W : bit W f ≡ true) where
      pub cut_prune_asks : PruneAsks (rules t) W c.support 0 R K w c.copy.counts
      cut_prune_asks =
          rw is_cut
          (prune_asks t S a (cut S f v) f (length_cut S f v) (cut_⊆ S f v) (cut-same t S a f v)
          c ct W fields in_W (cut-full P W S f v e a.live.full) c.copy.counts ct.copied K w (rw is_cut at m))

      -- and the triple rules ask
      pub cut_else : ClosedElse (problem t) W (2 ^ f) R
      cut_else = rw is_cut (closed_else t S a (cut S f v) f (length_cut S f v) (cut_⊆ S f v) (cut-same t S a f v) W)

      module _ (wiped : Bool) (changed spent : ℕ) (D L : List ℕ) (u : ℕ) (C : List ℕ)
          (p : Pruned P W c.support R K w c.copy.counts wiped changed spent D L u C) where
        -- what `recover` asks: no count was lowered before
        pub cut-recover-asks : {all : ℕ} → all ≡ bit_or c.copy.spent spent
            → ((all < 2 ^ most_fields) × OnlySpent all c.counter.counts C)
            × (length c.counter.counts ≡ counter_words) × (length C ≡ counter_words)
        cut-recover-asks x =
            rw (none_before x ct.spent-copy) (
              (fields-small t spent a.wired.few (λ g b. fields g (p.spends g b)), rw ct.copied at p.frame),
              ct.counts.sized,
              p.long,
            )

        pub test-passes : Tested P W S f v (not wiped) D
        test-passes = tested P W S f v wiped changed D (rw is_cut at p.closes)

        pub test-lists : Lists S c.list.places D L
        test-lists = (u, moved_then m p.moved)

        -- the counts are as they were, so is the copy, made again, and what the list holds is of no account
        pub test-counted : (b : Ac4) → Kept c b → b.copy.counts ≡ c.counter.counts → b.copy.spent ≡ 0 → b.list.places ≡ L
            → Counted P b S
        test-counted b k q z l = record {
          supported = rw k.support ct.supported;
          counts = rw (k.support, k.counter) ct.counts;
          copied = q ∙ ap (λ (x : Counter). x.counts) (sym k.counter);
          spent = ap (λ (x : Counter). x.spent) k.counter ∙ ct.spent;
          spent-copy = z;
          places = ap length l ∙ p.moved.long ∙ m.long ∙ ct.places;
        }

  -- ---- the removal: the setting itself goes

  pub lose-asks : (Small S × (f < most_fields) × Within (bit_xor (get_or S f 0) (get_or (lose S f v) f 0)) (get_or S f 0)
      × (0 + count S ≤ list_places)) × (length S ≡ most_fields) × (length c.list.places ≡ list_places)
  lose-asks = off-asks _ (off-within t S a (lose S f v) f (length-lose S f v) (lose_⊆ S f v) (lose-same t S a f v))

  module _ (left : empty (lose S f v) f ≡ false) (R K : List ℕ) (w : ℕ) (m : Moved S c.list.places 0 R K w)
      (made : R ≡ without S f (bit_xor (get_or S f 0) (get_or (lose S f v) f 0))) where
    is_lost : R ≡ lose S f v
    is_lost = made ∙ without-off t S a (lose S f v) f (length-lose S f v) (lose_⊆ S f v) (lose-same t S a f v)

    pub lose_prune_asks : PruneAsks (rules t) (all_fields (problem t)) c.support 0 R K w c.counter.counts
    unfolding problem_of
    lose_prune_asks =
        rw is_lost
        (prune_asks t S a (lose S f v) f (length-lose S f v) (lose_⊆ S f v) (lose-same t S a f v) c ct (all_fields P) (λ g i. i)
        (in_all_fields P f (a.live.on f v e)).1 (lose-full t S a f v left) c.counter.counts refl K w (rw is_lost at m))

    pub lose_else : ClosedElse (problem t) (all_fields (problem t)) (2 ^ f) R
    lose_else =
        rw is_lost (closed_else t S a (lose S f v) f (length-lose S f v) (lose_⊆ S f v) (lose-same t S a f v) (all_fields P))

    module _ (wiped : Bool) (changed spent : ℕ) (D L : List ℕ) (u : ℕ) (C : List ℕ)
        (p : Pruned P (all_fields (problem t)) c.support R K w c.counter.counts wiped changed spent D L u C) where
      pub lose-recover-asks : {all : ℕ} → all ≡ bit_or c.counter.spent spent
          → ((all < 2 ^ most_fields) × OnlySpent all C c.copy.counts) × (length C ≡ counter_words) × (length c.copy.counts ≡ counter_words)
      lose-recover-asks x = rw (none_before x ct.spent) (
        (
          fields-small t spent a.wired.few p.spends,
          record { same = λ j b q l h. ap (λ (Z : List ℕ). get_or Z q 0) ct.copied ∙ sym (p.frame.same j b q l h) },
        ),
        p.long,
        ap length ct.copied ∙ ct.counts.sized,
      )

      pub remove-closes : Removed P S f v wiped (bit_or (2 ^ f) changed) D
      remove-closes = removed_closed t S a f v e wiped changed D (rw is_lost at p.closes)

      pub remove-lists : Lists S c.list.places D L
      remove-lists = (u, moved_then m p.moved)

      -- the counts are those of the set that is left, and their copy is made again
      pub remove-counted : (b : Ac4) → b.support ≡ c.support → b.counter.counts ≡ C → b.counter.spent ≡ 0 → b.copy.counts ≡ C
          → b.copy.spent ≡ 0 → b.list.places ≡ L → wiped ≡ false → Counted P b D
      remove-counted b s g x q y l z = record {
        supported = rw s (supports-less P c.support S D (λ g w x. m.inside g w (p.moved.inside g w x)) ct.supported);
        counts = rw (s, g) (p.counts z);
        copied = q ∙ sym g;
        spent = x;
        spent-copy = y;
        places = ap length l ∙ p.moved.long ∙ m.long ∙ ct.places;
      }
