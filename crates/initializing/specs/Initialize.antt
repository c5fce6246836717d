-- initializeAC of Figure 2 of source document 004: the support sets and the counts towards one field after the other. Assumes nothing.
use Rattle.std.specs.Prelude.{◌≡◌, refl, ◌⊎◌, Bool, true, false, not, ◌&&◌, List, ℕ, ◌+◌, ◌*◌, ◌≤◌, ◌<◌, eqb, length, get_or}
use Rattle.std.proofs.Common.{sym, ◌∙◌, true≢false, eq-or-lt_of_le, arith}
use Rattle.std.proofs.Math.Path.{ap}
use Rattle.std.proofs.Math.Logic.{⊎_elim}
use Rattle.std.specs.Int.Bits.{bit_or}
use borrow.Author.Tests.{eqb-true, eqb-false}
use Rattle.limits.specs.Limits.{most_fields, most_settings, counter_words, support_words, list_places}
use Rattle.masks.specs.Tests.{never, not_so, bool_cases, iff_eq, and_l, and_r, and-by}
use Rattle.masks.specs.Bits.{bit, Within}
use Rattle.masks.proofs.Bits.{bit_of-zero, bit_bound}
use Rattle.masks.specs.Sets.{has, ◌⊆◌, count}
use Rattle.counter.specs.Counts.{count_at, OnlyTowards, Uncounted, other-count, counts-none}
use Rattle.removal_list.specs.Count.{Small, count_most}
use Rattle.removal_list.specs.Moved.{Moved, moved_none, moved_then}
use Rattle.consistency.specs.Problem.{Problem, Symmetric, In, all_fields, in_all_fields, all_fields_bound}
use Rattle.consistency.specs.Closing.{closing}
use Rattle.consistency.proofs.Closing.{closing-is}
use Rattle.consistency.specs.Revising.{NoTriples}
use Rattle.consistency.specs.Passing.{NoneEmpty, none_empty}
use Rattle.pruning.specs.Counting.{how_many, count_below_cong, count_below-by}
use Rattle.pruning.specs.Shrunk.{or-within, small_⊆, Shrunk, shrunk-none, shrunk-then}
use Rattle.pruning.specs.Supports.{supports}
use Rattle.pruning.specs.Drop.{has-dropped, Dropped}
use Rattle.pruning.specs.Prune.{PruneAsks, closing_in_dropped, dropped-empty}

module _ (P : Problem) where
  abbrev W : ℕ
  W = all_fields P

  -- ---- lines 4, 5 and 7 for all arcs (i, j): the support sets of the settings of j

  pub record Recorded (D S : List ℕ) (j : ℕ) (R : List ℕ) : Type 0 where
    pub sized : length R ≡ length S
    pub here : (b i a : ℕ) → b < most_settings → i < P.fields
        → supports R j b i a ≡ (P.joined j i && (has D j b && (has D i a && P.allowed j i b a)))
    pub there : (g b i a : ℕ) → (g ≡ j → ⊥) → b < most_settings → i < P.fields → supports R g b i a ≡ supports S g b i a
    pub later : (q : ℕ) → (j + 1) * most_settings * most_fields ≤ q → get_or R q 0 ≡ get_or S q 0

  -- lines 3, 4, 6 and 12 for all arcs (i, j): their counts
  pub record CountedTowards (S C : List ℕ) (j : ℕ) (R : List ℕ) : Type 0 where
    pub sized : length R ≡ length C
    pub here : (i a : ℕ) → i < P.fields → count_at R j i a ≡ how_many (λ b. supports S j b i a)
    pub there : OnlyTowards j C R

  -- ---- the arcs towards the first k fields are done

  module _ (D0 L0 : List ℕ) where
    pub record Initializing (k changed : ℕ) (D L : List ℕ) (t : ℕ) (S C : List ℕ) : Type 0 where
      pub moved : Moved D0 L0 0 D L t
      pub long-S : length S ≡ support_words
      pub long-C : length C ≡ counter_words
      pub sound : (j b i a : ℕ) → j < k → b < most_settings → i < P.fields → supports S j b i a ≡ true
          → (has D0 j b ≡ true) × (P.allowed i j a b ≡ true)
      pub complete : (j b i a : ℕ) → j < k → i < P.fields → has D j b ≡ true → has D i a ≡ true → P.joined i j ≡ true
          → P.allowed i j a b ≡ true → supports S j b i a ≡ true
      pub none-S : (q : ℕ) → k * most_settings * most_fields ≤ q → get_or S q 0 ≡ 0
      pub none-C : (j i a : ℕ) → k ≤ j → i < P.fields → count_at C j i a ≡ 0
      pub counts : (j i a : ℕ) → j < k → i < P.fields → count_at C j i a ≡ how_many (λ b. supports S j b i a)
      pub positive : (i j a : ℕ) → i < P.fields → j < k → P.joined i j ≡ true → has D i a ≡ true → 0 < count_at C j i a
      pub closing-kept : closing P (all_fields P) D0 ⊆ D
      pub full : NoneEmpty P (all_fields P) D
      pub shrunk : Shrunk D0 D changed
      pub marks : Within changed (all_fields P)

    -- What initializeAC leaves to pruneAC, or that a field has nothing left. What it removed entered the list.
    pub record Initialized (wiped : Bool) (changed : ℕ) (D L : List ℕ) (t : ℕ) (S C : List ℕ) : Type 0 where
      pub moved : Moved D0 L0 0 D L t
      pub wipes : wiped ≡ true → none_empty P (all_fields P) (closing P (all_fields P) D0) ≡ false
      pub asks : wiped ≡ false → PruneAsks P (all_fields P) S 0 D L t C
      pub closing-kept : wiped ≡ false → closing P (all_fields P) D0 ⊆ D
      pub shrunk : wiped ≡ false → Shrunk D0 D changed
      pub marks : wiped ≡ false → Within changed (all_fields P)

    pub record InitializeAsks (S C : List ℕ) : Type 0 where
      pub alone : NoTriples P
      pub long : length D0 ≡ most_fields
      pub small : Small D0
      pub places : length L0 ≡ list_places
      pub long-S : length S ≡ support_words
      pub long-C : length C ≡ counter_words
      pub empty-S : (q : ℕ) → get_or S q 0 ≡ 0
      pub zero-C : (q : ℕ) → get_or C q 0 ≡ 0
      pub full : NoneEmpty P (all_fields P) D0

    module _ (symmetric : Symmetric P) (few : P.fields ≤ most_fields) (S0 C0 : List ℕ) (ask : InitializeAsks S0 C0) where
      pub initializing_start : Initializing 0 0 D0 L0 0 S0 C0
      initializing_start = record {
        moved = moved_none D0 L0 0;
        long-S = ask.long-S;
        long-C = ask.long-C;
        sound = λ j b i a l. absurd (omega arith);
        complete = λ j b i a l. absurd (omega arith);
        none-S = λ q _. ask.empty-S q;
        none-C = λ j i a _ _. counts-none C0 ask.zero-C j i a;
        counts = λ j i a l. absurd (omega arith);
        positive = λ i j a l k. absurd (omega arith);
        closing-kept = (closing-is P W D0).inside;
        full = ask.full;
        shrunk = shrunk-none D0;
        marks = λ v e. absurd (never e (bit_of-zero v));
      }

      module _ (k changed : ℕ) (D L : List ℕ) (t : ℕ) (S C : List ℕ) (p : Initializing k changed D L t S C) where
        -- there is a place for each setting, since none enters twice
        pub room-enough : (length L ≡ list_places) × (t + count D ≤ list_places)
        room-enough =
            let r = p.moved.room in
            let m = count_most D0 ask.small in
            let n = ask.long in
            (p.moved.long ∙ ask.places, omega arith)

        pub now-sized : length D ≡ most_fields
        now-sized = p.moved.sized ∙ ask.long

        pub now-small : Small D
        now-small = small_⊆ D0 D p.moved.inside ask.small

        pub initializing_end : k ≡ P.fields → Initialized false changed D L t S C
        initializing_end e = record {
          moved = p.moved;
          wipes = λ q. absurd (true≢false (sym q));
          asks = λ _. record {
            alone = ask.alone;
            listed = record {
              whole = D0;
              before = L0;
              long = ask.long;
              small = ask.small;
              places = ask.places;
              room = let m = count_most D0 ask.small in let n = ask.long in omega arith;
              moved = p.moved;
              counts = record {
                sized = p.long-C;
                each = λ j i a l m. p.counts j i a (rw e l) m ∙ count_below_cong most_settings _ _ (λ b h. iff_eq _ _
                    (λ x. and-by _ _ (p.sound j b i a (rw e l) h m x).0 x) (λ x. and_r (has D0 j b) _ x));
              };
              fields = λ j b x y. p.marks j (⊎_elim (λ z. z) (λ z. absurd (never x (same j b z ∙ y))) (bool_cases (bit changed j)));
            };
            supported = record {
              sized = p.long-S;
              sound = λ j b i a l h m x. (p.sound j b i a (rw e l) h m x).1;
              complete = λ j b i a l m. p.complete j b i a (rw e l) m;
            };
            positive = λ i j a x y. p.positive i j a x.0 (rw e y.0);
            full = p.full;
            on = all_fields_bound P;
            few = few;
          };
          closing-kept = λ _. p.closing-kept;
          shrunk = λ _. p.shrunk;
          marks = λ _. p.marks;
        }
          where
            same : (j b : ℕ) → bit changed j ≡ false → has D0 j b ≡ has D j b
            same j b z = unfold has in ap (λ (x : ℕ). bit x b) (sym (p.shrunk.same j z))

        -- ---- the arcs towards field k

        module _ (l : k < P.fields) (R : List ℕ) (r : Recorded D S k R) (E : List ℕ) (c : CountedTowards R C k E)
            (wide : ℕ) (w : P.fields ≤ wide) (none : List ℕ) (u : Uncounted E k D wide none)
            (near : ℕ) (near-is : (f : ℕ) → bit near f ≡ P.joined k f) (ends : (f : ℕ) → P.joined k f ≡ true → f < P.fields)
            (lost : ℕ) (Q K : List ℕ) (v : ℕ) where
          near-at : (f : ℕ) → bit near f ≡ true → In P W f × (P.joined f k ≡ true)
          near-at f e =
              let j : P.joined k f ≡ true = sym (near-is f) ∙ e in
              (in_all_fields P f (ends f j), symmetric.joins f k ∙ j)

          -- what has a partner is in the support set of the partner, and counted
          counted : (f a b : ℕ) → f < P.fields → P.joined f k ≡ true → has D f a ≡ true → has D k b ≡ true → P.allowed f k a b ≡ true
              → supports R k b f a ≡ true
          unfolding has
          counted f a b h j e x y =
              r.here b f a (bit_bound most_settings (get_or D k 0) b (now-small k) x) h
              ∙ and-by _ _ (symmetric.joins k f ∙ j) (and-by _ _ x (and-by _ _ e (symmetric.allows k f b a ∙ y)))

          alone : (f a b : ℕ) → In P W f → P.joined f k ≡ true → has D f a ≡ true → has D k b ≡ true → P.allowed f k a b ≡ true
              → has none f a ≡ false
          unfolding has
          alone f a b h j e x y = not_so (has none f a) (λ z.
              let o = eqb-true (count_at E k f a) 0 (and_r (has D f a) _ (sym (u.zero f a (let i = h.0 in omega arith)) ∙ z)) in
              let m = count_below-by most_settings (λ b. supports R k b f a) b (bit_bound most_settings (get_or D k 0) b (now-small k) x)
              (counted f a b h.0 j e x y) in
              let s = c.here f a h.0 in
              omega arith)

          pub initializing_none : Dropped near none D L t true lost Q K v → (any : ℕ) → Initialized true any Q K v R E
          initializing_none d any = record {
            moved = moved_then p.moved d.moved;
            wipes = λ _. dropped-empty P W R k (in_all_fields P k l) near near-at D none alone D0 p.closing-kept (d.emptied refl);
            asks = λ q. absurd (true≢false q);
            closing-kept = λ q. absurd (true≢false q);
            shrunk = λ q. absurd (true≢false q);
            marks = λ q. absurd (true≢false q);
          }

          before : (j : ℕ) → j < k + 1 → (j ≡ k) ⊎ (j < k)
          before j h = eq-or-lt_of_le (let i : j ≤ k = omega arith in i)

          sound-next : (j b i a : ℕ) → j < k + 1 → b < most_settings → i < P.fields → supports R j b i a ≡ true
              → (has D0 j b ≡ true) × (P.allowed i j a b ≡ true)
          sound-next j b i a h m n e = ⊎_elim
              (λ (q : j ≡ k). rw q (here (rw q at e)))
              (λ q. p.sound j b i a q m n (sym (r.there j b i a (λ z. omega arith) m n) ∙ e)) (before j h)
            where
              here : supports R k b i a ≡ true → (has D0 k b ≡ true) × (P.allowed i k a b ≡ true)
              here x =
                  let y = and_r (P.joined k i) _ (sym (r.here b i a m n) ∙ x) in
                  (p.moved.inside k b (and_l _ _ y), symmetric.allows i k a b ∙ and_r (has D i a) _ (and_r (has D k b) _ y))

          module _ (d : Dropped near none D L t false lost Q K v) where
            there : (f a : ℕ) → has Q f a ≡ true → has D f a ≡ true
            there f a e = d.moved.inside f a e

            complete-next : (j b i a : ℕ) → j < k + 1 → i < P.fields → has Q j b ≡ true → has Q i a ≡ true → P.joined i j ≡ true
                → P.allowed i j a b ≡ true → supports R j b i a ≡ true
            unfolding has
            complete-next j b i a h m x y e f = ⊎_elim
                (λ (q : j ≡ k). rw q (counted i a b m (rw q at e) (there i a y) (rw q at (there j b x)) (rw q at f)))
                (λ q. r.there j b i a (λ z. omega arith) (bit_bound most_settings (get_or D j 0) b (now-small j) (there j b x)) m
                ∙ p.complete j b i a q m (there j b x) (there i a y) e f)
                (before j h)

            counts-next : (j i a : ℕ) → j < k + 1 → i < P.fields → count_at E j i a ≡ how_many (λ b. supports R j b i a)
            counts-next j i a h m = ⊎_elim
                (λ (q : j ≡ k). rw q (c.here i a m))
                (λ q. other-count C E k j i a c.there (λ z. omega arith) (omega arith) ∙ p.counts j i a q m
                ∙ count_below_cong most_settings _ _ (λ b z. sym (r.there j b i a (λ z. omega arith) z m)))
                (before j h)

            positive-next : (i j a : ℕ) → i < P.fields → j < k + 1 → P.joined i j ≡ true → has Q i a ≡ true → 0 < count_at E j i a
            positive-next i j a m h e x = ⊎_elim
                (λ (q : j ≡ k). rw q (here (rw q at e)))
                (λ q. rw (other-count C E k j i a c.there (λ z. omega arith) (omega arith)) (p.positive i j a m q e (there i a x)))
                (before j h)
              where
                here : P.joined i k ≡ true → 0 < count_at E k i a
                here g =
                    let z = sym (has-dropped near none D i a) ∙ (rw (d.made refl) at x) in
                    let o = not_so (has none i a) (λ y.
                    never (and_r (has D i a) _ z) (ap not (and-by _ _ (near-is i ∙ symmetric.joins k i ∙ g) y))) in
                    ⊎_elim
                    (λ y. absurd (never (u.zero i a (omega arith) ∙ and-by _ _ (there i a x) y) o))
                    (λ y. let f = eqb-false (count_at E k i a) 0 y in omega arith) (bool_cases (eqb (count_at E k i a) 0))

            pub initializing_turn : Initializing (k + 1) (bit_or changed lost) Q K v R E
            initializing_turn = record {
              moved = moved_then p.moved d.moved;
              long-S = r.sized ∙ p.long-S;
              long-C = c.sized ∙ p.long-C;
              sound = sound-next;
              complete = complete-next;
              none-S = λ q h. r.later q h ∙ p.none-S q (omega arith);
              none-C = λ j i a h m. other-count C E k j i a c.there (λ z. omega arith) (omega arith) ∙ p.none-C j i a (omega arith) m;
              counts = counts-next;
              positive = positive-next;
              closing-kept = rw (d.made refl)
                  (closing_in_dropped P W R k (in_all_fields P k l) near near-at D none alone D0 p.closing-kept);
              full = λ f i. d.full refl f (p.full f i);
              shrunk = shrunk-then p.shrunk (d.shrunk refl);
              marks = or-within changed lost W p.marks (λ f i. (near-at f (d.marks refl f i)).0.1);
            }
