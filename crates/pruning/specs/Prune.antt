-- pruneAC of Figure 2 of source document 004: one setting from the list a turn, until the list is empty. Assumes nothing.
use Rattle.std.specs.Prelude.{◌≡◌, refl, ◌⊎◌, Bool, not, ◌&&◌, List, ℕ, ◌+◌, ◌*◌, ◌^◌, ◌≤◌, ◌<◌, eqb, ltb, length, get_or}
use Rattle.std.proofs.Common.{sym, ap, ◌∙◌, inl, inr, true≢false, arith, eqb-true, eq-eqb, ltb-true, ltb-false}
use Rattle.std.proofs.Math.Logic.{⊎_elim}
use Rattle.std.proofs.Math.Bool.{true, false, or_assoc}
use Rattle.std.specs.Int.Bits.{bit_or, or_zero_r}
use Rattle.std.proofs.lemmas.Bool.{eqb-false}
use Rattle.limits.specs.Limits.{most_fields, most_settings, counts_words, counter_words, list_places}
use Rattle.masks.specs.Tests.{never, not_so, bool_cases, eq_cases, and_l, and_r, and-by}
use Rattle.masks.specs.Bits.{bit, Within}
use Rattle.masks.proofs.Bits.{bit_of-zero, bit_ext}
use Rattle.masks.proofs.Words.{bit-one, bit-or}
use Rattle.masks.specs.Masks.{digit}
use Rattle.masks.specs.Sets.{has, ◌⊆◌, count}
use Rattle.masks.specs.Settings.{lose, length-lose, empty}
use Rattle.masks.proofs.Settings.{lose_⊆, empty-at, empty-by}
use Rattle.counter.specs.Counts.{count_at, OnlyTowards, Lowered, other-count, only-towards}
use Rattle.removal_list.specs.Count.{Small}
use Rattle.removal_list.specs.Moved.{number_of, Moved, moved_none, moved_then}
use Rattle.consistency.specs.Problem.{Problem, In}
use Rattle.consistency.specs.Closing.{closing}
use Rattle.consistency.proofs.Closing.{closing-is, closing-self, closing_between}
use Rattle.consistency.specs.Revising.{NoTriples}
use Rattle.consistency.specs.Passing.{NoneEmpty, none_empty, none_empty-at, none_empty-by}
use Rattle.pruning.specs.Shrunk.{or-not, or-within, one-within, small_⊆, Shrunk, shrunk-none, shrunk-then}
use Rattle.pruning.specs.Supports.{supports, Counts, Supports, supports-less, Positive, positive_closed, partner-counted}
use Rattle.pruning.specs.Drop.{dropped, has-dropped, Dropped}
use Rattle.pruning.specs.Close.{Closes}
use Rattle.pruning.specs.Pending.{Pending, pending-start, pending_done, pending-moved, pending-take, taken-there}
use Rattle.pruning.specs.Pending.{count-lowered, counts-take}

or_joins : (x y z : ℕ) → bit_or (bit_or x y) z ≡ bit_or x (bit_or y z)
or_joins x y z = bit_ext _ _ (λ a. rw (bit-or (bit_or x y) z a, bit-or x y a, bit-or x (bit_or y z) a, bit-or y z a)
    (or_assoc (bit x a) (bit y a) (bit z a)))

-- the fields of s were added to those of `before`, and what holds of them holds
abbrev pub Spends : (before after : ℕ) → (ℕ → Type 0) → Type 0
Spends before after holds = (s : ℕ) × (after ≡ bit_or before s) × holds s

pub spends-none : (before : ℕ) (holds : ℕ → Type 0) → holds 0 → Spends before before holds
spends-none before holds h = (0, sym (or_zero_r before), h)

pub spends-more : (before after s one : ℕ) (holds : ℕ → Type 0) → after ≡ bit_or before s → holds (bit_or s one)
    → Spends before (bit_or after one) holds
spends-more before after s one holds e h = (bit_or s one, rw e (or_joins before s one), h)

-- no word changed but those of the counts towards the fields of `spent`
pub record OnlySpent (spent : ℕ) (C R : List ℕ) : Type 0 where
  pub same : (j : ℕ) → bit spent j ≡ false → (q : ℕ) → j * counts_words ≤ q → q < j * counts_words + counts_words
      → get_or R q 0 ≡ get_or C q 0

module _ (P : Problem) (W : ℕ) (S : List ℕ) where
  -- ---- settings without a partner in field j are dropped

  module _ (j : ℕ) (x : In P W j) (near : ℕ) (near-at : (f : ℕ) → bit near f ≡ true → In P W f × (P.joined f j ≡ true)) (D none : List ℕ)
      (alone : (f a b : ℕ) → In P W f → P.joined f j ≡ true → has D f a ≡ true → has D j b ≡ true → P.allowed f j a b ≡ true
      → has none f a ≡ false) where
    -- the closing has none of them
    pub closing_in_dropped : (D1 : List ℕ) → closing P W D1 ⊆ D → closing P W D1 ⊆ dropped near none D
    closing_in_dropped D1 k f a e =
        has-dropped near none D f a
        ∙ and-by _ _ (k f a e)
        (ap not (not_so (bit near f && has none f a) (λ q. never (and_r (bit near f) _ q) (stays (near-at f (and_l _ _ q))))))
      where
        stays : In P W f × (P.joined f j ≡ true) → has none f a ≡ false
        stays y =
            let g = ((closing-is P W D1).good f a e y.0).rules j x y.1 in
            alone f a g.0 y.0 y.1 (k f a e) (k j g.0 g.1) g.2

    -- where one of them had nothing else, the closing has an empty field
    pub dropped-empty : (D1 : List ℕ) → closing P W D1 ⊆ D → (f : ℕ) × (bit near f ≡ true) × (empty (dropped near none D) f ≡ true)
        → none_empty P W (closing P W D1) ≡ false
    dropped-empty D1 k y =
        not_so (none_empty P W (closing P W D1)) (λ z.
        never (empty-by (closing P W D1) y.0 (λ v i. never (closing_in_dropped D1 k y.0 v i) (empty-at _ y.0 v y.2)))
        (none_empty-at P W (closing P W D1) z y.0 (near-at y.0 y.1).0))

  -- ---- what pruneAC is given: the list holds, from s on, what left a set of which the counts are

  pub record Listed (s : ℕ) (D L : List ℕ) (t : ℕ) (C : List ℕ) : Type 0 where
    pub whole : List ℕ
    pub before : List ℕ
    pub long : length whole ≡ most_fields
    pub small : Small whole
    pub places : length before ≡ list_places
    pub room : s + count whole ≤ list_places
    pub moved : Moved whole before s D L t
    pub counts : Counts P.fields S C whole
    pub fields : (j b : ℕ) → has whole j b ≡ true → has D j b ≡ false → bit W j ≡ true

  pub record PruneAsks (s : ℕ) (D L : List ℕ) (t : ℕ) (C : List ℕ) : Type 0 where
    pub alone : NoTriples P
    pub listed : Listed s D L t C
    pub supported : Supports P S D
    pub positive : Positive P W C D
    pub full : NoneEmpty P W D
    pub on : (f : ℕ) → bit W f ≡ true → f < P.fields
    pub few : P.fields ≤ most_fields

  module _ (D1 L1 : List ℕ) (t1 : ℕ) (C1 : List ℕ) where
    -- What pruneAC promises: the closing; what it removed entered the list, each setting a single time, and nothing else entered; and once
    -- the list is empty the counts are those of what is left.
    pub record Pruned (wiped : Bool) (changed spent : ℕ) (D L : List ℕ) (t : ℕ) (C : List ℕ) : Type 0 where
      pub closes : Closes P W D1 wiped changed D
      pub moved : Moved D1 L1 t1 D L t
      pub counts : wiped ≡ false → Counts P.fields S C D
      pub long : length C ≡ counter_words
      pub spends : Within spent W
      pub frame : OnlySpent spent C1 C

    -- ---- between two turns: the settings before h were taken

    pub record Pruning (s h changed spent : ℕ) (D L : List ℕ) (t : ℕ) (C : List ℕ) : Type 0 where
      pub counted : List ℕ
      pub sized : length counted ≡ most_fields
      pub small : Small counted
      pub pending : Pending D counted L h t
      pub from : s ≤ h
      pub low : h ≤ t
      pub moved : Moved D1 L1 t1 D L t
      pub counts : Counts P.fields S C counted
      pub positive : Positive P W C D
      pub closing-kept : closing P W D1 ⊆ D
      pub full : NoneEmpty P W D
      pub shrunk : Shrunk D1 D changed
      pub marks : Within changed W
      pub spends : Within spent W
      pub frame : OnlySpent spent C1 C

    module _ (s : ℕ) (a : PruneAsks s D1 L1 t1 C1) where
      abbrev l : Listed s D1 L1 t1 C1
      l = a.listed

      pub pruning_start : Pruning s s 0 0 D1 L1 t1 C1
      pruning_start = record {
        counted = l.whole;
        sized = l.long;
        small = l.small;
        pending = pending-start l.whole l.before s D1 L1 t1 l.moved;
        from = omega arith;
        low = l.moved.more;
        moved = moved_none D1 L1 t1;
        counts = l.counts;
        positive = a.positive;
        closing-kept = (closing-is P W D1).inside;
        full = a.full;
        shrunk = shrunk-none D1;
        marks = λ v e. absurd (never e (bit_of-zero v));
        spends = λ v e. absurd (never e (bit_of-zero v));
        frame = record { same = λ j e q x y. refl };
      }

      module _ (h changed spent : ℕ) (D L : List ℕ) (t : ℕ) (C : List ℕ) (p : Pruning s h changed spent D L t C) where
        all_moved : Moved l.whole l.before s D L t
        all_moved = moved_then l.moved p.moved

        -- there is a place for each setting, since none enters twice
        pub places-enough : (length L ≡ list_places) × (t + count D ≤ list_places)
        places-enough =
            let r = all_moved.room in let m = l.room in (all_moved.long ∙ l.places, omega arith)

        pub set-sized : length D ≡ most_fields
        set-sized = all_moved.sized ∙ l.long

        pub set-small : Small D
        set-small = small_⊆ l.whole D all_moved.inside l.small

        pub supported-now : Supports P S D
        supported-now = supports-less P S D1 D p.moved.inside a.supported

        pub pruning_end : h ≡ t → Pruned false changed spent D L t C
        pruning_end e =
            let q = pending_done D p.counted L h t p.pending e (set-sized ∙ sym p.sized) in
            let c : Counts P.fields S C D = rw q p.counts in
            let shut = positive_closed P S C D supported-now a.alone W c p.positive in
            let made : D ≡ closing P W D1 = sym (closing-self P W D shut)
            ∙ closing_between P W D1 D p.moved.sized p.closing-kept p.moved.inside in
            record {
              closes = record {
                sized = p.moved.sized;
                wipes = sym (ap not (none_empty-by P W (closing P W D1) (rw made at p.full)));
                made = λ _. made;
                shrunk = λ _. p.shrunk;
                marks = λ _. p.marks;
              };
              moved = p.moved;
              counts = λ _. c;
              long = p.counts.sized;
              spends = p.spends;
              frame = p.frame;
            }

        -- the setting at the head
        module _ (k : h < t) where
          pub head_setting : (j : ℕ) × (b : ℕ) × (b < most_settings) × (get_or L h 0 ≡ number_of j b) × (has D j b ≡ false) × (In P W j)
          unfolding has
          head_setting =
              let x = all_moved.nothing_else h p.from k in
              let w = in_W x.0 x.1 x.4 x.5 in
              (x.0, x.1, x.2, x.3, x.5, (a.on x.0 w, w))
            where
              in_W : (j b : ℕ) → has l.whole j b ≡ true → has D j b ≡ false → bit W j ≡ true
              in_W j b x y = ⊎_elim
                  (λ q. p.marks j (⊎_elim (λ z. z) (λ z. absurd (never q (ap (λ (m : ℕ). bit m b) (sym (p.shrunk.same j z)) ∙ y)))
                  (bool_cases (bit changed j))))
                  (λ q. l.fields j b x q) (bool_cases (has D1 j b))

        -- ---- a turn: (j, b) is taken, its support set's counts are one less, and what has none is dropped

        module _ (k : h < t) (j b : ℕ) (small_b : b < most_settings) (e : get_or L h 0 ≡ number_of j b) (gone : has D j b ≡ false)
            (x : In P W j) (set : List ℕ) (set_of : (i u : ℕ) → i < P.fields → has set i u ≡ supports S j b i u)
            (wide : ℕ) (w : P.fields ≤ wide) (most : wide ≤ most_fields) (none R : List ℕ) (r : Lowered C j set wide none R) where
          towards : OnlyTowards j C R
          towards = only-towards C R j wide most r.there

          abbrev rest : List ℕ
          rest = lose p.counted j b

          once : (m q : ℕ) → h ≤ m → m < t → h ≤ q → q < t → get_or L m 0 ≡ get_or L q 0 → m ≡ q
          once m q u y w z i = let f = p.from in all_moved.once m q (omega arith) y (omega arith) z i

          there : has p.counted j b ≡ true
          there = taken-there D p.counted L h t p.pending j b k small_b e gone p.small once

          taken : Pending D rest L (h + 1) t
          taken = pending-take D p.counted L h t p.pending j b k small_b e gone p.small once

          counts-now : Counts P.fields S R rest
          counts-now = counts-take P.fields S C p.counted p.counts j b x.0 small_b there a.few
              set set_of wide w most none R r

          zero-none : (i u : ℕ) → i < P.fields → has none i u ≡ true → count_at R j i u ≡ 0
          zero-none i u y z = eqb-true (count_at R j i u) 0 (and_r (has set i u) _ (sym (r.zero i u (omega arith)) ∙ z))

          spends-now : Within (bit_or spent (2 ^ j)) W
          spends-now = or-within spent (2 ^ j) W p.spends (one-within W j x.1)

          frame-now : OnlySpent (bit_or spent (2 ^ j)) C1 R
          frame-now = record {
            same = λ g y q m i.
                let n = or-not spent (2 ^ j) g y in
                towards q (apart g q m i (λ z. never (bit-one j g ∙ eq-eqb g j z) n.1)) ∙ p.frame.same g n.0 q m i;
          }
            where
              apart : (g q : ℕ) → g * counts_words ≤ q → q < g * counts_words + counts_words → (g ≡ j → ⊥)
                  → (q < j * counts_words) ⊎ (j * counts_words + counts_words ≤ q)
              apart g q m i d = ⊎_elim (λ z. let y = ltb-true g j z in inl (omega arith))
                  (λ z. let y = ltb-false g j z in inr (omega arith)) (bool_cases (ltb g j))

          module _ (near : ℕ) (near-at : (f : ℕ) → bit near f ≡ true → In P W f × (P.joined f j ≡ true))
              (near_by : (f : ℕ) → In P W f → P.joined f j ≡ true → bit near f ≡ true) (Q K : List ℕ) (u lost : ℕ) where
            -- what has a partner has a count
            alone : (f v c : ℕ) → In P W f → P.joined f j ≡ true → has D f v ≡ true → has D j c ≡ true → P.allowed f j v c ≡ true
                → has none f v ≡ false
            alone f v c y i d o q = not_so (has none f v) (λ z.
                let n = zero-none f v y.0 z in
                let m = partner-counted P S R D supported-now rest counts-now taken.kept set-small f j v c y.0 x.0 i d o q in
                omega arith)

            -- a field of W has nothing left
            pub turn-none : Dropped near none D L t true lost Q K u → (any : ℕ) → Pruned true any (bit_or spent (2 ^ j)) Q K u R
            turn-none d any = let m = moved_then p.moved d.moved in record {
              closes = record {
                sized = m.sized;
                wipes = sym (ap not (dropped-empty j x near near-at D none alone D1 p.closing-kept (d.emptied refl)));
                made = λ q. absurd (true≢false q);
                shrunk = λ q. absurd (true≢false q);
                marks = λ q. absurd (true≢false q);
              };
              moved = m;
              counts = λ q. absurd (true≢false q);
              long = counts-now.sized;
              spends = spends-now;
              frame = frame-now;
            }

            positive-now : Positive P W R (dropped near none D)
            positive-now i g v y z m n = ⊎_elim
                (λ (q : g ≡ j). rw q (here (rw q at m)))
                (λ q. rw (other-count C R j g i v towards q (let c = y.0 in let d = a.few in omega arith))
                (p.positive i g v y z m there-still))
                (eq_cases g j)
              where
                there-still : has D i v ≡ true
                there-still = and_l _ _ (sym (has-dropped near none D i v) ∙ n)

                left_out : bit near i ≡ true → has none i v ≡ false
                left_out c =
                    not_so _ (λ q. never (and_r (has D i v) _ (sym (has-dropped near none D i v) ∙ n)) (ap not (and-by _ _ c q)))

                here : P.joined i j ≡ true → 0 < count_at R j i v
                here c =
                    let o = left_out (near_by i y c) in
                    let f = count-lowered _ S C _ p.counts j b x.0 small_b there a.few set set_of wide w most none R r i v
                    y.0 in
                    let q = p.positive i j v y x c there-still in
                    ⊎_elim
                    (λ d. ⊎_elim (λ t. absurd (never (r.zero i v (let c = y.0 in omega arith) ∙ and-by _ _ d t) o))
                    (λ t. let e = eqb-false (count_at R j i v) 0 t in omega arith) (bool_cases (eqb (count_at R j i v) 0)))
                    (λ d. let e = ap digit d in omega arith) (bool_cases (has set i v))

            pub turn-next : Dropped near none D L t false lost Q K u
                → Pruning s (h + 1) (bit_or changed lost) (bit_or spent (2 ^ j)) Q K u R
            turn-next d = let made = d.made refl in record {
              counted = rest;
              sized = length-lose p.counted j b ∙ p.sized;
              small = small_⊆ p.counted rest (lose_⊆ p.counted j b) p.small;
              pending = pending-moved D rest L (h + 1) t taken Q K u (omega arith) d.moved;
              from = let y = p.from in omega arith;
              low = let y = d.moved.more in omega arith;
              moved = moved_then p.moved d.moved;
              counts = counts-now;
              positive = rw made positive-now;
              closing-kept = rw made (closing_in_dropped j x near near-at D none alone D1 p.closing-kept);
              full = λ f i. d.full refl f (p.full f i);
              shrunk = shrunk-then p.shrunk (d.shrunk refl);
              marks = or-within changed lost W p.marks (λ f i. (near-at f (d.marks refl f i)).0.1);
              spends = spends-now;
              frame = frame-now;
            }
