-- Closing by the rules over two fields and the triple rules: turns for the triple rules that wait, until none does. Assumes nothing.
use Rattle.std.specs.Prelude.{◌≡◌, refl, ◌⊎◌, Bool, true, false, not, List, ℕ, ◌+◌, ◌*◌, ◌^◌, ◌≤◌, ◌<◌, length}
use Rattle.std.proofs.Common.{sym, ap, ◌∙◌, ⊎_elim, true≢false, arith}
use Rattle.std.specs.Int.Bits.{bit_or, or_zero_r}
use Rattle.std.proofs.lemmas.Bool.{not-true}
use Rattle.limits.specs.Limits.{most_fields, most_triples}
use Rattle.masks.specs.Tests.{never, not_so, eq_cases, or_at}
use Rattle.masks.specs.Bits.{bit, Within}
use Rattle.masks.proofs.Bits.{bit_of-zero}
use Rattle.masks.specs.Words.{clear}
use Rattle.masks.proofs.Words.{bit-or, clear-other, clear_within, clear-lt}
use Rattle.masks.specs.Sets.{◌⊆◌, count}
use Rattle.removal_list.specs.Moved.{Moved, moved_none, moved_then}
use Rattle.consistency.specs.Problem.{has_field, Problem, triple_at}
use Rattle.consistency.specs.Closing.{closing}
use Rattle.consistency.proofs.Closing.{closing-is, closing-self, closing_between}
use Rattle.consistency.specs.Passing.{none_empty, none_empty-by}
use Rattle.consistency.specs.Revising.{rules_only, ClosedUnder, closed_both, closed_under-same}
use Rattle.consistency.proofs.Revising.{closing_of_rules}
use Rattle.pruning.specs.Shrunk.{or-not, zero_or, or-within, Shrunk, shrunk-none, shrunk-then, shrunk-still, shrunk_fewer}
use Rattle.pruning.specs.Close.{closes-wiped}
use Rattle.pruning.specs.Prune.{OnlySpent, Pruned}
use Rattle.revising.specs.Turn.{Emptied, closing-none, Turned}

-- the counts towards more fields may have changed
spent_then : {a b : ℕ} {C D E : List ℕ} → OnlySpent a C D → OnlySpent b D E → OnlySpent (bit_or a b) C E
spent_then {a} {b} x y = record {
  same = λ j e q l h. let n = or-not a b j e in y.same j n.1 q l h ∙ x.same j n.0 q l h;
}

-- where a field has nothing left, the fields that lost settings are of no account
pub pruned_wiped : {P : Problem} {W : ℕ} {S D1 L1 : List ℕ} {t1 : ℕ} {C1 : List ℕ} {some any spent : ℕ} {D L : List ℕ} {t : ℕ}
    {C : List ℕ} → Pruned P W S D1 L1 t1 C1 true some spent D L t C → Pruned P W S D1 L1 t1 C1 true any spent D L t C
pruned_wiped {P} p = record {
  closes = closes-wiped P p.closes;
  moved = p.moved;
  counts = p.counts;
  long = p.long;
  spends = p.spends;
  frame = p.frame;
}

module _ (P : Problem) (W : ℕ) where
  or_cases : (a b v : ℕ) → bit (bit_or a b) v ≡ true → (bit a v ≡ true) ⊎ (bit b v ≡ true)
  or_cases a b v e = or_at (bit a v) (bit b v) (sym (bit-or a b v) ∙ e)

  -- `some` has every triple rule with a field of `fields`
  abbrev pub Touches : ℕ → ℕ → Type 0
  Touches fields some = (f t : ℕ) → bit fields f ≡ true → t < length P.triples → has_field (triple_at P t) f ≡ true → bit some t ≡ true

  -- the set is closed under every triple rule without a field of `fields`
  abbrev pub ClosedElse : ℕ → List ℕ → Type 0
  ClosedElse fields D = (t : ℕ) → t < length P.triples → ((f : ℕ) → has_field (triple_at P t) f ≡ true → bit fields f ≡ false)
      → ClosedUnder P W (triple_at P t) D

  -- a triple rule that is not touched has none of the fields
  untouched : (fields some t : ℕ) → Touches fields some → t < length P.triples → bit some t ≡ false
      → (f : ℕ) → has_field (triple_at P t) f ≡ true → bit fields f ≡ false
  untouched fields some t x l e f h = not_so (bit fields f) (λ q. never (x f t q l h) e)

  -- and stays closed under where only these change
  still-under : (fields some t : ℕ) → Touches fields some → t < length P.triples → bit some t ≡ false → (D R : List ℕ)
      → Shrunk D R fields → ClosedUnder P W (triple_at P t) D → ClosedUnder P W (triple_at P t) R
  still-under fields some t x l e D R s =
      closed_under-same P W (triple_at P t) D R (λ g h. s.same g (untouched fields some t x l e g h))

  -- the triple rules of `waits` are still to come, and the set is closed under each other one
  pub record Waiting (waits : ℕ) (D : List ℕ) : Type 0 where
    pub low : (k : ℕ) → bit waits k ≡ true → k < length P.triples
    pub under : (k : ℕ) → k < length P.triples → bit waits k ≡ false → ClosedUnder P W (triple_at P k) D

  module _ (S D1 L1 : List ℕ) (t1 : ℕ) (C1 : List ℕ) where
    -- Between two turns.
    pub record Narrowing (waits changed spent : ℕ) (D L : List ℕ) (t : ℕ) (C : List ℕ) : Type 0 where
      pub emptied : Emptied P W S D L t C
      pub moved : Moved D1 L1 t1 D L t
      pub kept : closing P W D1 ⊆ D
      pub shrunk : Shrunk D1 D changed
      pub marks : Within changed W
      pub spends : Within spent W
      pub frame : OnlySpent spent C1 C
      pub low : (k : ℕ) → bit waits k ≡ true → k < length P.triples
      pub under : (k : ℕ) → k < length P.triples → bit waits k ≡ false → ClosedUnder P W (triple_at P k) D

    module _ (on : (f : ℕ) → bit W f ≡ true → f < P.fields) (few : P.fields ≤ most_fields) where
      -- pruneAC found that a field has nothing left
      pub narrowed_none : (changed spent : ℕ) (D L : List ℕ) (t : ℕ) (C : List ℕ)
          → Pruned (rules_only P) W S D1 L1 t1 C1 true changed spent D L t C → Pruned P W S D1 L1 t1 C1 true changed spent D L t C
      narrowed_none changed spent D L t C p = record {
        closes = record {
          sized = p.closes.sized;
          wipes = sym (ap not (closing-none P W S on few D1 D1 refl (closing-is P W D1).inside (λ f v i. i)
              (not-true _ (sym p.closes.wipes))));
          made = λ q. absurd (true≢false q);
          shrunk = λ q. absurd (true≢false q);
          marks = λ q. absurd (true≢false q);
        };
        moved = p.moved;
        counts = λ q. absurd (true≢false q);
        long = p.long;
        spends = p.spends;
        frame = p.frame;
      }

      -- the first turn
      pub narrowing_start : (waits : ℕ) → Emptied P W S D1 L1 t1 C1 → Waiting waits D1 → Narrowing waits 0 0 D1 L1 t1 C1
      narrowing_start waits e w = record {
        emptied = e;
        moved = moved_none D1 L1 t1;
        kept = (closing-is P W D1).inside;
        shrunk = shrunk-none D1;
        marks = λ v q. absurd (never q (bit_of-zero v));
        spends = λ v q. absurd (never q (bit_of-zero v));
        frame = record { same = λ j q x y z. refl };
        low = w.low;
        under = w.under;
      }

      -- ---- after pruneAC: the triple rules that wait are those with a field of `fields`, or with one that it changed

      module _ (changed spent : ℕ) (D L : List ℕ) (t : ℕ) (C : List ℕ)
          (p : Pruned (rules_only P) W S D1 L1 t1 C1 false changed spent D L t C) where
        pub waiting_by : (fields some : ℕ) → ClosedElse fields D1 → Touches (bit_or fields changed) some
            → ((k : ℕ) → bit some k ≡ true → k < length P.triples) → Waiting some D
        waiting_by fields some u x low = record {
          low = low;
          under = λ k h e.
              let not-these = untouched (bit_or fields changed) some k x h e in
              closed_under-same P W (triple_at P k) D1 D (λ g i. (p.closes.shrunk refl).same g (or-not fields changed g (not-these g i)).1)
              (u k h (λ f i. (or-not fields changed f (not-these f i)).0));
        }

        -- and what closing leaves after it is the closing
        pub narrowed_then : (wiped : Bool) (more rest : ℕ) (Q K : List ℕ) (u : ℕ) (E : List ℕ)
            → Pruned P W S D L t C wiped more rest Q K u E
            → Pruned P W S D1 L1 t1 C1 wiped (bit_or changed more) (bit_or spent rest) Q K u E
        narrowed_then wiped more rest Q K u E q =
            let same : closing P W D ≡ closing P W D1 = ap (closing P W) (p.closes.made refl) ∙ closing_of_rules P W D1 in
            record {
              closes = record {
                sized = q.closes.sized ∙ p.moved.sized;
                wipes = q.closes.wipes ∙ ap (λ (X : List ℕ). not (none_empty P W X)) same;
                made = λ e. q.closes.made e ∙ same;
                shrunk = λ e. shrunk-then (p.closes.shrunk refl) (q.closes.shrunk e);
                marks = λ e. or-within changed more W (p.closes.marks refl) (q.closes.marks e);
              };
              moved = moved_then p.moved q.moved;
              counts = q.counts;
              long = q.long;
              spends = or-within spent rest W p.spends q.spends;
              frame = spent_then p.frame q.frame;
            }

      module _ (waits changed spent : ℕ) (D L : List ℕ) (t : ℕ) (C : List ℕ) (p : Narrowing waits changed spent D L t C) where
        -- the closing is that of what is left
        same-closing : closing P W D ≡ closing P W D1
        same-closing = closing_between P W D1 D p.moved.sized p.kept p.moved.inside

        -- no triple rule waits: the set is closed
        pub narrowing_end : waits ≡ 0 → Pruned P W S D1 L1 t1 C1 false changed spent D L t C
        narrowing_end z =
            let shut = closed_both P W D p.emptied.shut
            (λ k h. p.under k h (ap (λ (m : ℕ). bit m k) z ∙ bit_of-zero k)) in
            let made : D ≡ closing P W D1 = sym (closing-self P W D shut) ∙ same-closing in
            record {
              closes = record {
                sized = p.moved.sized;
                wipes = sym (ap not (none_empty-by P W (closing P W D1) (rw made at p.emptied.full)));
                made = λ _. made;
                shrunk = λ _. p.shrunk;
                marks = λ _. p.marks;
              };
              moved = p.moved;
              counts = λ _. p.emptied.counts;
              long = p.emptied.counts.sized;
              spends = p.spends;
              frame = p.frame;
            }

        module _ (k : ℕ) (lost more turn : ℕ) (R K : List ℕ) (u : ℕ) (E : List ℕ) where
          -- a turn found that a field has nothing left
          pub narrowing_none : Turned P W S k D L t C true lost more turn R K u E → (any : ℕ)
              → Pruned P W S D1 L1 t1 C1 true any (bit_or spent turn) R K u E
          narrowing_none d any = let m = moved_then p.moved d.moved in record {
            closes = record {
              sized = m.sized;
              wipes = sym (ap not (ap (none_empty P W) (sym same-closing) ∙ d.none refl));
              made = λ q. absurd (true≢false q);
              shrunk = λ q. absurd (true≢false q);
              marks = λ q. absurd (true≢false q);
            };
            moved = m;
            counts = λ q. absurd (true≢false q);
            long = d.long;
            spends = or-within spent turn W p.spends d.spends;
            frame = spent_then p.frame d.frame;
          }

          module _ (d : Turned P W S k D L t C false lost more turn R K u E) (by-lost by-more : ℕ)
              (x : Touches lost by-lost) (y : Touches more by-more) (low-lost : (j : ℕ) → bit by-lost j ≡ true → j < length P.triples)
              (low-more : (j : ℕ) → bit by-more j ≡ true → j < length P.triples) where
            abbrev next : ℕ
            next = bit_or (clear (bit_or waits by-lost) k) by-more

            low-next : (j : ℕ) → bit (bit_or (clear (bit_or waits by-lost) k) by-more) j ≡ true → j < length P.triples
            low-next j e = ⊎_elim
                (λ q. ⊎_elim (p.low j) (low-lost j) (or_cases waits by-lost j (clear_within (bit_or waits by-lost) k j q)))
                (low-more j) (or_cases (clear (bit_or waits by-lost) k) by-more j e)

            under_next : (j : ℕ) → j < length P.triples → bit (bit_or (clear (bit_or waits by-lost) k) by-more) j ≡ false
                → ClosedUnder P W (triple_at P j) R
            under_next j h e =
                let n = or-not (clear (bit_or waits by-lost) k) by-more j e in
                still-under more by-more j y h n.1 d.middle R (d.after refl) (⊎_elim
                (λ (q : j ≡ k). rw q d.under)
                (λ q. let m = or-not waits by-lost j (sym (clear-other (bit_or waits by-lost) k j q) ∙ n.0) in
                still-under lost by-lost j x h m.1 D d.middle (d.before refl) (p.under j h m.0))
                (eq_cases j k))

            pub narrowing_turn : Narrowing (bit_or (clear (bit_or waits by-lost) k) by-more) (bit_or changed (bit_or lost more))
                (bit_or spent turn) R K u E
            narrowing_turn = record {
              emptied = d.emptied refl;
              moved = moved_then p.moved d.moved;
              kept = λ f v i. d.kept refl f v (rw (sym same-closing) at i);
              shrunk = shrunk-then p.shrunk (shrunk-then (d.before refl) (d.after refl));
              marks = or-within changed (bit_or lost more) W p.marks (or-within lost more W (d.marks-lost refl) (d.marks-changed refl));
              spends = or-within spent turn W p.spends d.spends;
              frame = spent_then p.frame d.frame;
              low = low-next;
              under = under_next;
            }

            -- more has gone, or fewer wait
            pub narrowing_less : (nothing : lost ≡ 0 → by-lost ≡ 0) → (more ≡ 0 → by-more ≡ 0) → bit waits k ≡ true
                → bit_or (clear (bit_or waits by-lost) k) by-more < 2 ^ most_triples
                → count R * 2 ^ most_triples + bit_or (clear (bit_or waits by-lost) k) by-more < count D * 2 ^ most_triples + waits
            narrowing_less z y b small = ⊎_elim
                (λ (q : bit_or lost more ≡ 0).
                let n = zero_or lost more q in
                let same : R ≡ D = shrunk-still (shrunk-then (d.before refl) (d.after refl)) q in
                let fewer = clear-lt waits k b in
                rw (same, z n.0, y n.1, or_zero_r, or_zero_r) (omega arith))
                (λ q. let c = shrunk_fewer (shrunk-then (d.before refl) (d.after refl)) q in omega arith)
                (eq_cases (bit_or lost more) 0)
