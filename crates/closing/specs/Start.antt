-- Closing at the start of an engine: initializeAC, then pruneAC. Assumes nothing.
use Rattle.std.specs.Prelude.{◌≡◌, Bool, true, false, not, List, ℕ, ◌<◌, length}
use Rattle.std.proofs.Math.Path.{refl}
use Rattle.std.proofs.Common.{sym, ap, ◌∙◌, true≢false}
use Rattle.std.specs.Int.Bits.{bit_or}
use Rattle.masks.specs.Tests.{never, not_so}
use Rattle.masks.specs.Bits.{bit}
use Rattle.masks.specs.Sets.{◌⊆◌}
use Rattle.consistency.specs.Problem.{has_first, Problem, triple_at, field_below, all_fields, in_all_fields, all_fields_bound}
use Rattle.consistency.specs.Closing.{closing}
use Rattle.consistency.proofs.Closing.{closing_between}
use Rattle.consistency.specs.Passing.{none_empty, none_empty-at, none_empty-by, none_empty_mono}
use Rattle.consistency.specs.Revising.{rules_only}
use Rattle.consistency.proofs.Revising.{closing_in_rules}
use Rattle.network.specs.declared.tables.Tables.{Tables}
use Rattle.network.specs.Tables.{rule_problem}
use Rattle.network.specs.TripleTable.{problem_of, rules-of, no_triples, triples_in}
use Rattle.network.specs.Network.{problem, rules}
use Rattle.pruning.specs.Shrunk.{or-within, shrunk-then}
use Rattle.pruning.specs.Supports.{supports-less}
use Rattle.pruning.specs.Close.{Closes, closes-wiped}
use Rattle.pruning.specs.Prune.{PruneAsks, Pruned}
use Rattle.revising.specs.Table.{FieldsBelow}
use Rattle.revising.specs.Narrow.{ClosedElse}
use Rattle.initializing.specs.Initialize.{InitializeAsks, Initialized}
use Rattle.closing.specs.declared.ac4.Ac4.{Ac4}
use Rattle.closing.specs.Asks.{CloseAsks, Counted, rules-supports}

module _ (t : Tables) (S : List ℕ) (c : Ac4) (a : CloseAsks t S c) where
  abbrev P : Problem
  P = problem t

  abbrev W : ℕ
  W = all_fields P

  -- its rules over two fields, which initializeAC closes by
  abbrev R2 : Problem
  R2 = rules t

  on : (f : ℕ) → bit (all_fields (problem t)) f ≡ true → f < (problem t).fields
  on = all_fields_bound P

  same-fields : all_fields (rules t) ≡ all_fields (problem t)
  unfolding problem_of rule_problem all_fields
  same-fields = refl

  -- the rules of the problem are those of the tables
  same_rules : rules_only (problem t) ≡ rules t
  same_rules = rules-of t.network.now.fields t.network.now.joined t.forward.now t.turned.now t.triples.now

  pub initialize_asks : InitializeAsks (rules t) S c.list.places c.support c.counter.counts
  initialize_asks = record {
    alone = no_triples t.network.now.fields t.network.now.joined t.forward.now t.turned.now;
    long = a.masks.long;
    small = a.masks.small;
    places = a.blank.places;
    long-S = a.blank.long-support;
    long-C = a.blank.long_counter;
    empty-S = a.blank.no_support;
    zero-C = a.blank.no_count;
    full = λ g i. a.full g (in_all_fields P g (unfold rule_problem in (unfold problem_of in i.0)));
  }

  pub all-below : FieldsBelow t.network.now.fields (all_fields (problem t))
  unfolding problem_of
  all-below = on

  inner : (X : List ℕ) → closing P W X ⊆ closing R2 W X
  inner X = rw (sym same_rules) (closing_in_rules P W X)

  module _ (changed : ℕ) (D L : List ℕ) (w : ℕ) (R E : List ℕ) where
    -- a field has nothing left
    pub started_none : Initialized (rules t) S c.list.places true changed D L w R E → (any : ℕ)
        → Closes P (all_fields P) S true any D
    started_none i any = record {
      sized = i.moved.sized;
      wipes = sym (ap not (empties (rw same-fields at (i.wipes refl))));
      made = λ q. absurd (true≢false q);
      shrunk = λ q. absurd (true≢false q);
      marks = λ q. absurd (true≢false q);
    }
      where
        empties : none_empty R2 W (closing R2 W S) ≡ false → none_empty P W (closing P W S) ≡ false
        empties z = not_so (none_empty P W (closing P W S)) (λ q. never
            (none_empty-by R2 W _ (λ g x. none_empty_mono P W (closing P W S) (closing R2 W S) (inner S)
            (none_empty-at P W (closing P W S) q) g (unfold problem_of in (unfold rule_problem in x)))) z)

    module _ (i : Initialized (rules t) S c.list.places false changed D L w R E) where
      -- what the triple rules ask: all of them wait
      pub started_else : ClosedElse P (all_fields P) (all_fields P) D
      started_else k l out = absurd (never
          (in_all_fields P (triple_at P k).first (field_below P (triple_at P k)
          (triples_in t.network.now.fields t.network.now.joined t.forward.now t.turned.now t.triples.now a.table k l) _
          (has_first (triple_at P k)))).1
          (out (triple_at P k).first (has_first (triple_at P k))))

      pub started-asks : PruneAsks (rules t) (all_fields P) R 0 D L w E
      started-asks = rw (sym same-fields) (i.asks refl)

      module _ (wiped : Bool) (more spent : ℕ) (Q K : List ℕ) (u : ℕ) (C : List ℕ)
          (p : Pruned P (all_fields P) R D L w E wiped more spent Q K u C) where
        kept : closing P (all_fields P) S ⊆ D
        kept f v e = (rw same-fields at (i.closing-kept refl)) f v (inner S f v e)

        same : closing P (all_fields P) D ≡ closing P (all_fields P) S
        same = closing_between P W S D i.moved.sized kept i.moved.inside

        pub started-closes : Closes P (all_fields P) S wiped (bit_or changed more) Q
        started-closes =
            let c = p.closes in
            record {
              sized = c.sized ∙ i.moved.sized;
              wipes = c.wipes ∙ ap (λ (X : List ℕ). not (none_empty P W X)) same;
              made = λ e. c.made e ∙ same;
              shrunk = λ e. shrunk-then (i.shrunk refl) (c.shrunk e);
              marks = λ e. or-within changed more W (rw same-fields at (i.marks refl)) (c.marks e);
            }

        pub started-wiped : wiped ≡ true → (any : ℕ) → Closes P (all_fields P) S true any Q
        started-wiped e any = closes-wiped P (rw e at started-closes)

        -- with these counts as their copy, and none of them lowered since
        pub started-counted : (b : Ac4) → b.support ≡ R → b.counter.counts ≡ C → b.list.places ≡ K → b.copy.counts ≡ C
            → b.counter.spent ≡ 0 → b.copy.spent ≡ 0 → wiped ≡ false → Counted P b Q
        started-counted b e g k z x y q = record {
          supported = rw e (supports-less P R D Q p.moved.inside
              (rules-supports P R D (rw (sym same_rules) at (i.asks refl).supported)));
          counts = rw (e, g) (p.counts q);
          copied = z ∙ sym g;
          spent = x;
          spent-copy = y;
          places = ap length k ∙ p.moved.long ∙ i.moved.long ∙ a.blank.places;
        }
