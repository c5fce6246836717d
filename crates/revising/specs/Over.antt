-- Turns over the tables. Assumes nothing.
use Rattle.std.specs.Prelude.{◌≡◌, refl, Bool, true, false, List, ℕ, ◌+◌, ◌*◌, ◌^◌, ◌≤◌, ◌<◌, length}
use Rattle.std.proofs.Common.{sym, ap, ◌∙◌, ⊎_elim, lt_of_lt_of_le, arith, pow_mono}
use Rattle.std.proofs.Math.Nat.{lt_of_le_of_lt}
use Rattle.std.specs.Int.Bits.{bit_or, or_zero_r}
use Rattle.limits.specs.Limits.{most_fields, most_triples, list_places}
use Rattle.masks.specs.Tests.{never, not_so, and_r, or_at}
use Rattle.masks.specs.Bits.{bit, Within}
use Rattle.masks.proofs.Bits.{bit_of-zero, bit_ext, within-le}
use Rattle.masks.specs.Masks.{mask_of, mask_of-lt}
use Rattle.masks.proofs.Masks.{mask_of_in}
use Rattle.masks.specs.Words.{clear}
use Rattle.masks.proofs.Words.{bit-or}
use Rattle.masks.specs.Sets.{count}
use Rattle.removal_list.specs.Count.{Small}
use Rattle.consistency.specs.Problem.{Triple, has_field, Problem, triple_at, TriplesIn, all_fields, all_fields_bound}
use Rattle.consistency.specs.Revising.{rules_only, revised}
use Rattle.network.specs.declared.tables.Tables.{Tables}
use Rattle.network.specs.TripleTable.{triple_count, triple_in, problem_of, rules-of, count-triples, triple-is, triples_in}
use Rattle.network.specs.Network.{problem, rules, WiredTables, Tripled}
use Rattle.pruning.specs.Shrunk.{small_⊆}
use Rattle.pruning.specs.Drop.{dropped, Dropped}
use Rattle.pruning.specs.Prune.{PruneAsks, Pruned}
use Rattle.revising.specs.Table.{FieldsBelow, Touching}
use Rattle.revising.specs.Revise.{Revision, dropped-revised}
use Rattle.revising.specs.Turn.{Emptied, emptied-by, Turned, turned_none, turn-asks, turned_by}
use Rattle.revising.specs.Narrow.{Touches, ClosedElse, Waiting, Narrowing, narrowed_none, narrowing_start, waiting_by, narrowed_then}
use Rattle.revising.specs.Narrow.{narrowing_end, narrowing_none, narrowing_turn, narrowing_less}

module _ (tables : Tables) (wired : WiredTables tables) (x : Tripled tables) (W : ℕ)
    (fields : Within W (all_fields (problem tables))) where
  abbrev P : Problem
  P = problem tables

  abbrev n : ℕ
  n = tables.network.now.fields

  abbrev joined : List ℕ
  joined = tables.network.now.joined

  abbrev forward : List ℕ
  forward = tables.forward.now

  abbrev turned : List ℕ
  turned = tables.turned.now

  abbrev T : List ℕ
  T = tables.triples.now

  -- the problem's rules over two fields are those of the tables, and its triple rules those of the table
  same_rules : rules_only (problem tables) ≡ rules tables
  same_rules = rules-of n joined forward turned T

  how-many : length (problem tables).triples ≡ triple_count T
  how-many = count-triples n joined forward turned T

  is-triple : (k : ℕ) → k < triple_count T → triple_at (problem tables) k ≡ triple_in T k
  is-triple = triple-is n joined forward turned T

  in_sheet : TriplesIn (problem tables)
  in_sheet = triples_in n joined forward turned T x

  pub on-fields : (f : ℕ) → bit W f ≡ true → f < (problem tables).fields
  on-fields f b = all_fields_bound P f (fields f b)

  pub few-fields : (problem tables).fields ≤ most_fields
  unfolding problem_of
  few-fields = wired.few

  pub small-fields : W < 2 ^ most_fields
  unfolding all_fields problem_of
  small-fields = lt_of_le_of_lt (within-le W _ fields) (lt_of_lt_of_le (mask_of-lt n _) (pow_mono wired.few))

  -- the fields of W are among the first n
  pub below-fields : (m : ℕ) → Within m W → FieldsBelow tables.network.now.fields m
  unfolding problem_of
  below-fields m w f b = on-fields f (w f b)

  -- the triple rules that are touched, as the problem has them
  pub touches_of : (changed some : ℕ) → Touching tables.triples.now changed 0 some → Touches P W changed some
  touches_of changed some y f t b l h =
      let k : t < triple_count tables.triples.now = (let e = how-many in omega arith) in
      y.by f t (bit_of-zero f) b k (ap (λ (R : Triple). has_field R f) (sym (is-triple t k)) ∙ h)

  pub touched-low : (changed some : ℕ) → Touching tables.triples.now changed 0 some → (k : ℕ) → bit some k ≡ true → k < length P.triples
  touched-low changed some y k e = let l = (y.at k e).0 in let c = how-many in omega arith

  -- nothing is touched where no field is named
  pub touched_nothing : (some : ℕ) → Touching tables.triples.now 0 0 some → some ≡ 0
  touched_nothing some y = bit_ext some 0 (λ t. not_so (bit some t) (λ e. never (y.at t e).1.1 (bit_of-zero _)) ∙ sym (bit_of-zero t))

  module _ (S : List ℕ) (t : ℕ) (l : t < triple_count tables.triples.now) (D L : List ℕ) (tail : ℕ) (C : List ℕ)
      (e : Emptied (problem tables) W S D L tail C) (near : ℕ) (none : List ℕ) (r : Revision tables.triples.now t W D near none) where
    near-inside : Within near W
    near-inside f b = and_r (has_field (triple_in T t) f) _ (sym (r.near-is f) ∙ b)

    in_list : t < length P.triples
    in_list = let c = how-many in omega arith

    made : dropped near none D ≡ revised P W (triple_at P t) D
    made = dropped-revised n T x t l wired.few joined forward turned W D near none r
        ∙ ap (λ (R : Triple). revised P W R D) (sym (is-triple t l))

    pub drop-asks : (Small D × (near < 2 ^ most_fields) × (tail + count D ≤ list_places))
        × (length D ≡ most_fields) × (length L ≡ list_places)
    drop-asks = ((e.small, lt_of_le_of_lt (within-le near W near-inside) small-fields, e.room), e.sized, e.places)

    module _ (lost : ℕ) (Q K : List ℕ) (u : ℕ) where
      pub turn-none : Dropped near none D L tail true lost Q K u → Turned (problem tables)
          W S t D L tail C true 0 0 0 Q K u C
      turn-none d =
          turned_none P W S on-fields few-fields t in_list (in_sheet t in_list)
          D L tail C e near near-inside none
          made lost Q K u d 0 0

      module _ (d : Dropped near none D L tail false lost Q K u) where
        pub prune_asks : PruneAsks (rules tables) W S tail Q K u C
        prune_asks =
            rw (sym (same_rules))
            (turn-asks P W S on-fields few-fields t in_list (in_sheet t in_list)
            D L tail C e near near-inside none
            made lost Q K u d)

        pub turn-by : (wiped : Bool) (changed spent : ℕ) (R M : List ℕ) (w : ℕ) (E : List ℕ)
            → Pruned (rules tables) W S Q K u C wiped changed spent R M w E
            → Turned (problem tables) W S t D L tail C wiped lost changed spent R M w E
        turn-by wiped changed spent R M w E p =
            turned_by P W S on-fields few-fields t in_list (in_sheet t in_list)
            D L tail C e near near-inside none
            made lost Q K u d wiped changed spent R M w E (rw (sym (same_rules)) at p)

  -- ---- turns until no triple rule waits

  -- a mask of triple rules is small
  few-triples : (m : ℕ) → ((k : ℕ) → bit m k ≡ true → k < length (problem tables).triples) → m < 2 ^ most_triples
  few-triples m low =
      let c = how-many in
      let f = x.few in
      lt_of_le_of_lt (within-le m (mask_of most_triples (λ k. true))
      (λ k e. mask_of_in most_triples (λ k. true) k (let l = low k e in omega arith))) (mask_of-lt most_triples (λ k. true))

  module _ (S D1 L1 : List ℕ) (t1 : ℕ) (C1 : List ℕ) (waits changed spent : ℕ) (D L : List ℕ) (t : ℕ) (C : List ℕ)
      (p : Narrowing (problem tables) W S D1 L1 t1 C1 waits changed spent D L t C) where
    pub waits-low : (k : ℕ) → bit waits k ≡ true → k < triple_count tables.triples.now
    waits-low k e = let l = p.low k e in let c = how-many in omega arith

    pub all_end : waits ≡ 0 → Pruned (problem tables) W S D1 L1 t1 C1 false changed spent D L t C
    all_end = narrowing_end P W S D1 L1 t1 C1 on-fields few-fields waits changed spent D L t C p

    module _ (k lost more turn : ℕ) (R K : List ℕ) (u : ℕ) (E : List ℕ) where
      pub all_none : Turned (problem tables) W S k D L t C true lost more turn R K u E → (any : ℕ)
          → Pruned (problem tables) W S D1 L1 t1 C1 true any (bit_or spent turn) R K u E
      all_none = narrowing_none P W S D1 L1 t1 C1 on-fields few-fields waits changed spent D L t C p k lost more turn R K u E

      module _ (d : Turned (problem tables) W S k D L t C false lost more turn R K u E) where
        pub lost-below : FieldsBelow tables.network.now.fields lost
        lost-below = below-fields lost (d.marks-lost refl)

        pub more-below : FieldsBelow tables.network.now.fields more
        more-below = below-fields more (d.marks-changed refl)

        module _ (a b : ℕ) (y : Touching tables.triples.now lost 0 a) (z : Touching tables.triples.now more 0 b) where
          pub all_turn : Narrowing (problem tables) W S D1 L1 t1 C1 (bit_or (clear (bit_or waits a) k) b)
              (bit_or changed (bit_or lost more)) (bit_or spent turn) R K u E
          all_turn =
              narrowing_turn P W S D1 L1 t1 C1 on-fields few-fields waits changed spent D L t C p k lost more turn R K u E d a b
              (touches_of lost a y) (touches_of more b z) (touched-low lost a y) (touched-low more b z)

          pub all_less : bit waits k ≡ true
              → count R * 2 ^ most_triples + bit_or (clear (bit_or waits a) k) b < count D * 2 ^ most_triples + waits
          all_less h =
              narrowing_less P W S D1 L1 t1 C1 on-fields few-fields waits changed spent D L t C p k lost more turn R K u E d a b
              (touches_of lost a y) (touches_of more b z) (touched-low lost a y) (touched-low more b z)
              (λ q. touched_nothing a (rw q at y)) (λ q. touched_nothing b (rw q at z)) h (few-triples _ all_turn.low)

  -- ---- closing: pruneAC first, then the triple rules that wait

  module _ (S D1 L1 : List ℕ) (t1 : ℕ) (C1 : List ℕ) (a : PruneAsks (rules tables) W S 0 D1 L1 t1 C1)
      (fields1 : ℕ) (below : FieldsBelow tables.network.now.fields fields1) (else : ClosedElse (problem tables) W fields1 D1) where
    by_rules : (wiped : Bool) (changed spent : ℕ) (D L : List ℕ) (t : ℕ) (C : List ℕ)
        → Pruned (rules tables) W S D1 L1 t1 C1 wiped changed spent D L t C
        → Pruned (rules_only P) W S D1 L1 t1 C1 wiped changed spent D L t C
    by_rules wiped changed spent D L t C p = rw (sym (same_rules)) at p

    pub first-none : (changed spent : ℕ) (D L : List ℕ) (t : ℕ) (C : List ℕ)
        → Pruned (rules tables) W S D1 L1 t1 C1 true changed spent D L t C
        → Pruned (problem tables) W S D1 L1 t1 C1 true changed spent D L t C
    first-none changed spent D L t C p =
        narrowed_none P W S D1 L1 t1 C1 on-fields few-fields changed spent D L t C (by_rules true changed spent D L t C p)

    module _ (changed spent : ℕ) (D L : List ℕ) (t : ℕ) (C : List ℕ)
        (p : Pruned (rules tables) W S D1 L1 t1 C1 false changed spent D L t C) where
      pub touched-below : FieldsBelow tables.network.now.fields (bit_or fields1 changed)
      touched-below f b = ⊎_elim (below f) (λ q. below-fields changed (p.closes.marks refl) f q)
          (or_at (bit fields1 f) (bit changed f) (sym (bit-or fields1 changed f) ∙ b))

      pub first-emptied : Emptied (problem tables) W S D L t C
      first-emptied =
          let l = a.listed in
          emptied-by P W S on-fields few-fields D1 L1 t1 C1 D changed spent L t C (by_rules false changed spent D L t C p)
          (rw (sym (same_rules)) at a.supported) (l.moved.sized ∙ l.long)
          (small_⊆ l.whole D1 l.moved.inside l.small) (l.moved.long ∙ l.places)
          (let r = l.room in let q = l.moved.room in omega arith)

      module _ (some : ℕ) (y : Touching tables.triples.now (bit_or fields1 changed) 0 some) where
        pub first_waiting : Waiting (problem tables) W some D
        first_waiting =
            waiting_by P W S D1 L1 t1 C1 on-fields few-fields changed spent D L t C
            (by_rules false changed spent D L t C p) fields1 some else
            (touches_of (bit_or fields1 changed) some y) (touched-low (bit_or fields1 changed) some y)

        pub narrow-then : (wiped : Bool) (more rest : ℕ) (Q K : List ℕ) (u : ℕ) (E : List ℕ)
            → Pruned (problem tables) W S D L t C wiped more rest Q K u E
            → Pruned (problem tables) W S D1 L1 t1 C1 wiped (bit_or changed more) (bit_or spent rest) Q K u E
        narrow-then =
            narrowed_then P W S D1 L1 t1 C1 on-fields few-fields changed spent D L t C (by_rules false changed spent D L t C p)

        -- none waits
        pub first_end : some ≡ 0 → Pruned (problem tables) W S D1 L1 t1 C1 false changed spent D L t C
        first_end z =
            rw (sym (or_zero_r changed), sym (or_zero_r spent))
            (narrow-then false 0 0 D L t C (narrowing_end P W S D L t C on-fields few-fields some 0 0 D L t C
            (narrowing_start P W S D L t C on-fields few-fields some first-emptied first_waiting) z))
