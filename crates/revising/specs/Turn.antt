-- A turn: a set is revised under one triple rule, and the removal list is emptied again. Assumes nothing.
use Rattle.std.specs.Prelude.{Result, Ok, Err, ◌≡◌, refl, Bool, true, false, not, List, ℕ, ◌+◌, ◌≤◌, ◌<◌, length}
use Rattle.std.proofs.Common.{sym, ap, ◌∙◌, ⊎_elim, true≢false, arith}
use Rattle.std.proofs.lemmas.Bool.{not-true}
use Rattle.limits.specs.Limits.{most_fields, counter_words, list_places}
use Rattle.masks.specs.Tests.{never, not_so, bool_cases}
use Rattle.masks.specs.Bits.{bit, Within}
use Rattle.masks.proofs.Bits.{bit_of-zero}
use Rattle.masks.specs.Sets.{has-mask, ◌⊆◌, count}
use Rattle.masks.specs.Settings.{empty}
use Rattle.removal_list.specs.Count.{Small}
use Rattle.removal_list.specs.Moved.{Moved, moved_then}
use Rattle.consistency.specs.Problem.{Problem, triple_at, TripleIn}
use Rattle.consistency.specs.Closing.{Closed, closing}
use Rattle.consistency.proofs.Closing.{closing-is, closing_between}
use Rattle.consistency.specs.Passing.{NoneEmpty, none_empty, none_empty-at, none_empty-by, none_empty_mono}
use Rattle.consistency.specs.Revising.{rules_only, rules-alone, none_empty-rules, ClosedUnder, revised}
use Rattle.consistency.proofs.Revising.{closing_in_rules}
use Rattle.consistency.proofs.Revising.{revised_closed, closing_in_revised, revised-empty}
use Rattle.pruning.specs.Shrunk.{small_⊆, Shrunk}
use Rattle.pruning.specs.Supports.{Counts, Supports, supports-less, closed_positive}
use Rattle.pruning.specs.Drop.{dropped, Dropped}
use Rattle.pruning.specs.Prune.{OnlySpent, PruneAsks, Pruned}
use Rattle.revising.specs.declared.narrow.AfterTurn.{AfterTurn}

-- the fields that a revision took settings from, and those that lost some after it, where no field has nothing left
abbrev pub lost_in : {E : Type 0} → Result AfterTurn E → ℕ
lost_in (Ok r) = r.lost
lost_in (Err e) = 0

abbrev pub changed_in : {E : Type 0} → Result AfterTurn E → ℕ
changed_in (Ok r) = r.changed
changed_in (Err e) = 0

module _ (P : Problem) (W : ℕ) (S : List ℕ) where
  -- The removal list is empty: the set is closed by the rules over two fields, and the counts are those of it.
  pub record Emptied (D L : List ℕ) (t : ℕ) (C : List ℕ) : Type 0 where
    pub supported : Supports (rules_only P) S D
    pub counts : Counts P.fields S C D
    pub shut : Closed (rules_only P) W D
    pub full : NoneEmpty P W D
    pub sized : length D ≡ most_fields
    pub small : Small D
    pub places : length L ≡ list_places
    pub room : t + count D ≤ list_places

  -- What a turn for triple rule k leaves of a set D whose list is empty, `lost` being the fields that the revision took settings from
  -- and `changed` those that pruneAC did.
  pub record Turned (k : ℕ) (D L : List ℕ) (t : ℕ) (C : List ℕ) (wiped : Bool) (lost changed spent : ℕ) (R K : List ℕ) (u : ℕ)
      (E : List ℕ) : Type 0 where
    pub moved : Moved D L t R K u
    pub none : wiped ≡ true → none_empty P W (closing P W D) ≡ false
    pub kept : wiped ≡ false → closing P W D ⊆ R
    pub emptied : wiped ≡ false → Emptied R K u E
    pub middle : List ℕ
    pub before : wiped ≡ false → Shrunk D middle lost
    pub after : wiped ≡ false → Shrunk middle R changed
    pub under : ClosedUnder P W (triple_at P k) middle
    pub marks-lost : wiped ≡ false → Within lost W
    pub marks-changed : wiped ≡ false → Within changed W
    pub spends : Within spent W
    pub frame : OnlySpent spent C E
    pub long : length E ≡ counter_words

  -- where a field has nothing left, the fields that lost settings are of no account
  pub turned-wiped : {k : ℕ} {D L : List ℕ} {t : ℕ} {C : List ℕ} {some others spent : ℕ} {R K : List ℕ} {u : ℕ} {E : List ℕ}
      → Turned k D L t C true some others spent R K u E → (any more : ℕ) → Turned k D L t C true any more spent R K u E
  turned-wiped d any more = record {
    moved = d.moved;
    none = d.none;
    kept = d.kept;
    emptied = d.emptied;
    middle = d.middle;
    before = λ q. absurd (true≢false q);
    after = λ q. absurd (true≢false q);
    under = d.under;
    marks-lost = λ q. absurd (true≢false q);
    marks-changed = λ q. absurd (true≢false q);
    spends = d.spends;
    frame = d.frame;
    long = d.long;
  }

  module _ (on : (f : ℕ) → bit W f ≡ true → f < P.fields) (few : P.fields ≤ most_fields) where
    -- the closing of a set is inside what pruneAC leaves of a part that has it
    closing_pruned : (D Q : List ℕ) → length Q ≡ length D → closing P W D ⊆ Q → Q ⊆ D → closing P W D ⊆ closing (rules_only P) W Q
    closing_pruned D Q e k h f v i =
        closing_in_rules P W Q f v (rw (closing_between P W D Q e k h) i)

    -- a field that has nothing left in it has nothing left in the closing
    pub closing-none : (D Q : List ℕ) → length Q ≡ length D → closing P W D ⊆ Q → Q ⊆ D
        → none_empty (rules_only P) W (closing (rules_only P) W Q) ≡ false → none_empty P W (closing P W D) ≡ false
    closing-none D Q e k h z = not_so (none_empty P W (closing P W D)) (λ n.
        never (none_empty-rules P W _ ∙ none_empty-by P W _ (none_empty_mono P W (closing P W D) (closing (rules_only P) W Q)
        (closing_pruned D Q e k h) (none_empty-at P W (closing P W D) n))) z)

    module _ (D1 L1 : List ℕ) (t1 : ℕ) (C1 D : List ℕ) where
      -- what pruneAC leaves, where no field of W is empty
      pub emptied-by : (changed spent : ℕ) (L : List ℕ) (t : ℕ) (C : List ℕ) → Pruned (rules_only P)
          W S D1 L1 t1 C1 false changed spent D L t C
          → Supports (rules_only P) S D1 → length D1 ≡ most_fields → Small D1 → length L1 ≡ list_places → t1 + count D1 ≤ list_places
          → Emptied D L t C
      emptied-by changed spent L t C p s n m l r = record {
        supported = supports-less (rules_only P) S D1 D p.moved.inside s;
        counts = p.counts refl;
        shut = rw (p.closes.made refl) (closing-is (rules_only P) W D1).good;
        full = rw (p.closes.made refl) (none_empty-at P W _ (sym (none_empty-rules P W _) ∙ not-false _ (sym p.closes.wipes)));
        sized = p.moved.sized ∙ n;
        small = small_⊆ D1 D p.moved.inside m;
        places = p.moved.long ∙ l;
        room = let q = p.moved.room in omega arith;
      }
        where
          not-false : (b : Bool) → not b ≡ false → b ≡ true
          not-false true e = refl
          not-false false e = absurd (true≢false e)

    -- ---- a turn for triple rule k, from a set D whose list is empty

    module _ (k : ℕ) (l : k < length P.triples) (i : TripleIn P (triple_at P k)) (D L : List ℕ) (t : ℕ) (C : List ℕ)
        (e : Emptied D L t C) where
      abbrev revision : List ℕ
      revision = revised P W (triple_at P k) D

      in_revision : closing P W D ⊆ revised P W (triple_at P k) D
      in_revision = closing_in_revised P W k l D D (closing-is P W D).inside on

      module _ (near : ℕ) (inside : Within near W) (none : List ℕ) (made : dropped near none D ≡ revised P W (triple_at P k) D)
          (lost : ℕ) (Q K : List ℕ) (u : ℕ) where
        -- the revision leaves a field nothing
        pub turned_none : Dropped near none D L t true lost Q K u → (any more : ℕ) → Turned k D L t C true any more 0 Q K u C
        turned_none d any more = record {
          moved = d.moved;
          none = λ _. let y = d.emptied refl in not_so (none_empty P W (closing P W D)) (λ n.
              never (revised-empty P W k l D D (closing-is P W D).inside on y.0 (ap (λ (X : List ℕ). empty X y.0) (sym made) ∙ y.2))
              (none_empty-at P W (closing P W D) n y.0 (on y.0 (inside y.0 y.1), inside y.0 y.1)));
          kept = λ q. absurd (true≢false q);
          emptied = λ q. absurd (true≢false q);
          middle = revision;
          before = λ q. absurd (true≢false q);
          after = λ q. absurd (true≢false q);
          under = revised_closed P W (triple_at P k) D i;
          marks-lost = λ q. absurd (true≢false q);
          marks-changed = λ q. absurd (true≢false q);
          spends = λ v q. absurd (never q (bit_of-zero v));
          frame = record { same = λ j z q x y. refl };
          long = e.counts.sized;
        }

        module _ (d : Dropped near none D L t false lost Q K u) where
          pub is-revision : Q ≡ revised P W (triple_at P k) D
          is-revision = d.made refl ∙ made

          -- what pruneAC asks then
          pub turn-asks : PruneAsks (rules_only P) W S t Q K u C
          turn-asks = record {
            alone = rules-alone P;
            listed = record {
              whole = D;
              before = L;
              long = e.sized;
              small = e.small;
              places = e.places;
              room = e.room;
              moved = d.moved;
              counts = e.counts;
              fields = λ j b x y. inside j (d.marks refl j (⊎_elim (λ q. q)
                  (λ q. absurd (never (has-mask Q D j b ((d.shrunk refl).same j q) ∙ x) y)) (bool_cases (bit lost j))));
            };
            supported = supports-less (rules_only P) S D Q d.moved.inside e.supported;
            positive = λ a b v x y r h.
                closed_positive (rules_only P) S C D e.supported W e.counts e.small e.shut a b v x y r (d.moved.inside a v h);
            full = λ f x. d.full refl f (e.full f x);
            on = on;
            few = few;
          }

          pub turned_by : (wiped : Bool) (changed spent : ℕ) (R M : List ℕ) (w : ℕ) (E : List ℕ)
              → Pruned (rules_only P) W S Q K u C wiped changed spent R M w E → Turned k D L t C wiped lost changed spent R M w E
          turned_by wiped changed spent R M w E p = record {
            moved = moved_then d.moved p.moved;
            none = λ q. closing-none D Q d.moved.sized in_q d.moved.inside
                (not-true _ (sym p.closes.wipes ∙ q));
            kept = λ q. rw (p.closes.made q) (closing_pruned D Q d.moved.sized in_q d.moved.inside);
            emptied = λ q. emptied-by Q K u C R changed spent M w E (rw q at p)
                (supports-less (rules_only P) S D Q d.moved.inside e.supported) (d.moved.sized ∙ e.sized)
                (small_⊆ D Q d.moved.inside e.small) (d.moved.long ∙ e.places)
                (let a = d.moved.room in let b = e.room in omega arith);
            middle = Q;
            before = λ _. d.shrunk refl;
            after = p.closes.shrunk;
            under = rw is-revision (revised_closed P W (triple_at P k) D i);
            marks-lost = λ _ f b. inside f (d.marks refl f b);
            marks-changed = p.closes.marks;
            spends = p.spends;
            frame = p.frame;
            long = p.long;
          }
            where
              in_q : closing P W D ⊆ Q
              in_q = rw is-revision in_revision
