-- A malformed session, as code finds it. Assumes nothing.
use Rattle.std.specs.Prelude.{◌≡◌, refl, Bool, ◌&&◌, ◌||◌, List, ℕ, ◌+◌, ◌-◌, ◌^◌, ◌≤◌, ◌<◌, eqb, ltb, leb, length}
use Rattle.std.proofs.Math.Path.{sym, ap}
use Rattle.std.proofs.Common.{◌∙◌, arith, below_more}
use Rattle.std.proofs.Math.Logic.{⊎_elim}
use Rattle.std.proofs.Math.Bool.{true, false, not}
use Rattle.std.specs.Int.Bits.{bit_and}
use Rattle.std.proofs.Math.ListN.{get_or, get_or-eq_default}
use borrow.Author.Tests.{eqb-true, eq-eqb, ltb-true, ltb-false, lt-ltb, le-ltb, leb-true, leb-false, not-true}
use Rattle.limits.specs.Limits.{most_fields, most_events}
use Rattle.masks.specs.Tests.{never, not_so, bool_cases, iff_eq, and_l, and_r, and-by, all_below, all_below-at, all_below-by}
use Rattle.masks.specs.Bits.{bit}
use Rattle.masks.proofs.Bits.{bit_of-zero, bit_ext, bit_bound, lt_of_bits, bit_nonzero}
use Rattle.masks.specs.Masks.{keep_bits}
use Rattle.masks.proofs.Masks.{bit-keep_bits, some_bit-at, some_bit-by}
use Rattle.masks.proofs.Words.{bit-and-not}
use Rattle.masks.specs.Sets.{has}
use Rattle.accepted.specs.declared.outline.Outline.{Outline}
use Rattle.ledger.specs.declared.Decision.{Decision}
use Rattle.ledger.specs.declared.Decision.TheVariants.{Choice, Strike}
use Rattle.ledger.specs.declared.Change.{Change}
use Rattle.ledger.specs.declared.Change.TheVariants.{Adds, Withdraws, Neither}
use Rattle.ledger.specs.declared.Event.{Event}
use Rattle.ledger.specs.Ledger.{change_of, same_decision, in_force, with}
use Rattle.ledger.specs.Ledger.{without}
use Rattle.ledger.specs.Ledger.{applied, reverted, on_sheet, all_on_sheet, revertible, reversible, no_selection, malformed}
use Rattle.ledger.specs.Laws.{Alike}
use Rattle.ledger.proofs.Laws.{in_force-with, in_force-without, all_on_at, all_on_by, alike-reversible}
use Rattle.session.specs.declared.Session.{Session}
use Rattle.session.specs.declared.decisions.Decisions.{Decisions}
use Rattle.session.specs.Decisions.{held_in, gained, lost, applied_in, reverted_in, Found, Long, reverted-long, Low, LowChange}
use Rattle.session.specs.Decisions.{Within, WithinChange, within-low}
use Rattle.session.specs.Decisions.{held-gained, held-lost}
use Rattle.session.specs.View.{decisions_of, in_force_of, no_event, past, length-past, past-latest, view}

-- ---- a decision on the sheet

-- whether a decision is on the sheet; one that is lies within the masks
pub record OnSheet (o : Outline) (x : Decision) (r : Bool) : Type 0 where
  pub is : r ≡ on_sheet o x
  pub low : r ≡ true → Within x

pub on-choice : (o : Outline) (f v : ℕ) → on_sheet o (Choice f v) ≡ has o.full f v
unfolding on_sheet
on-choice o f v = refl

pub on-strike : (o : Outline) (f v : ℕ) → on_sheet o (Strike f v) ≡ has o.full f v
unfolding on_sheet
on-strike o f v = refl

pub found-choice : (o : Outline) (f v : ℕ) (r : Bool) → Found o.full f v r → OnSheet o (Choice f v) r
found-choice o f v r k = record { is = k.is ∙ sym (on-choice o f v); low = k.low }

pub found-strike : (o : Outline) (f v : ℕ) (r : Bool) → Found o.full f v r → OnSheet o (Strike f v) r
found-strike o f v r k = record { is = k.is ∙ sym (on-strike o f v); low = k.low }

-- ---- masks on the sheet

-- the positions of a mask that are none of the field's
abbrev pub strangers : ℕ → ℕ → ℕ
strangers all m = keep_bits m (λ v. not (bit all v))

unfoldable pub masks_on_sheet : List ℕ → List ℕ → Bool
masks_on_sheet full ms = all_below most_fields (λ f. eqb (strangers (get_or full f 0) (get_or ms f 0)) 0)

-- as code spells it
pub strangers-code : (all m : ℕ) → all < 2 ^ 32 → m < 2 ^ 32 → bit_and m (2 ^ 32 - 1 - all) ≡ strangers all m
strangers-code all m a b = bit_ext _ _ (λ v. bit-and-not 32 m all v b a ∙ sym (bit-keep_bits m (λ v. not (bit all v)) v))

module _ (full ms : List ℕ) where
  -- the first f masks are on the sheet
  abbrev pub Inside : ℕ → Type 0
  Inside f = (g : ℕ) → g < f → strangers (get_or full g 0) (get_or ms g 0) ≡ 0

  pub inside-next : (f : ℕ) → Inside f → strangers (get_or full f 0) (get_or ms f 0) ≡ 0 → Inside (f + 1)
  inside-next f h e = below_more (λ g. strangers (get_or full g 0) (get_or ms g 0) ≡ 0) f h e

  pub masks-off : (f : ℕ) → f < most_fields → (strangers (get_or full f 0) (get_or ms f 0) ≡ 0 → ⊥) → false ≡ masks_on_sheet full ms
  unfolding masks_on_sheet
  masks-off f h k = sym (not_so _ (λ e. k (eqb-true _ 0 (all_below-at most_fields _ e f h))))

  pub masks-on : Inside most_fields → true ≡ masks_on_sheet full ms
  unfolding masks_on_sheet
  masks-on h = sym (all_below-by most_fields _ (λ f l. eq-eqb _ 0 (h f l)))

  pub masks-at : length ms ≡ most_fields → masks_on_sheet full ms ≡ true → (f v : ℕ) → has ms f v ≡ true → has full f v ≡ true
  unfolding masks_on_sheet has
  masks-at n e f v b = ⊎_elim
      (λ q. inside (eqb-true _ 0 (all_below-at most_fields _ e f (ltb-true f most_fields q))))
      (λ q.
      let none : get_or ms f 0 ≡ 0 = get_or-eq_default ms 0 (let l = ltb-false f most_fields q in omega arith) in
      absurd (never b (ap (λ (x : ℕ). bit x v) none ∙ bit_of-zero v)))
      (bool_cases (ltb f most_fields))
    where
      inside : strangers (get_or full f 0) (get_or ms f 0) ≡ 0 → bit (get_or full f 0) v ≡ true
      inside z = ⊎_elim (λ q. q)
          (λ q. absurd (bit_nonzero (strangers (get_or full f 0) (get_or ms f 0)) v
          (bit-keep_bits (get_or ms f 0) (λ v. not (bit (get_or full f 0) v)) v ∙ and-by _ _ b (ap not q)) z))
          (bool_cases (bit (get_or full f 0) v))

  pub masks-by : ((f v : ℕ) → has ms f v ≡ true → has full f v ≡ true) → masks_on_sheet full ms ≡ true
  unfolding masks_on_sheet has
  masks-by h = all_below-by most_fields _ (λ f l. eq-eqb _ 0 (bit_ext _ 0 (λ v. not_so _ (λ e.
      let b = sym (bit-keep_bits (get_or ms f 0) (λ v. not (bit (get_or full f 0) v)) v) ∙ e in
      never (and_r (bit (get_or ms f 0) v) _ b) (ap not (h f v (and_l _ _ b)))) ∙ sym (bit_of-zero v))))

module _ (o : Outline) (d : Decisions) (l : Long d) where
  -- all decisions are on the sheet where both sets of masks are
  pub all_on : all_on_sheet o (decisions_of d) ≡ (masks_on_sheet o.full d.choices && masks_on_sheet o.full d.strikes)
  unfolding on_sheet
  all_on = iff_eq _ _
      (λ h. and-by _ _
      (masks-by o.full d.choices (λ f v b. all_on_at o (decisions_of d) h (Choice f v) (in_force_of d (Choice f v) ∙ b)))
      (masks-by o.full d.strikes (λ f v b. all_on_at o (decisions_of d) h (Strike f v) (in_force_of d (Strike f v) ∙ b))))
      (λ h. all_on_by o (decisions_of d) (λ e q.
      by e (sym (in_force_of d e) ∙ q) (and_l _ _ h) (and_r (masks_on_sheet o.full d.choices) _ h)))
    where
      by : (e : Decision) → held_in d e ≡ true → masks_on_sheet o.full d.choices ≡ true
          → masks_on_sheet o.full d.strikes ≡ true → on_sheet o e ≡ true
      by (Choice f v) b p q = unfold on_sheet in masks-at o.full d.choices l.choices p f v b
      by (Strike f v) b p q = unfold on_sheet in masks-at o.full d.strikes l.strikes q f v b

-- ---- a change of the masks is that of the decisions

module _ (d : Decisions) (l : Long d) where
  alike-lost : (x : Decision) → Low x → Alike (without x (decisions_of d)) (decisions_of (lost d x))
  alike-lost x h e = in_force-without x (decisions_of d) e ∙ ap (λ (b : Bool). b && not (same_decision x e)) (in_force_of d e)
      ∙ sym (held-lost d l x h e) ∙ sym (in_force_of (lost d x) e)

  alike-gained : (x : Decision) → Low x → Alike (with x (decisions_of d)) (decisions_of (gained d x))
  alike-gained x h e = in_force-with x (decisions_of d) e ∙ ap (λ (b : Bool). same_decision x e || b) (in_force_of d e)
      ∙ sym (held-gained d l x h e) ∙ sym (in_force_of (gained d x) e)

  pub alike-applied_in : (k : Change) → LowChange k → Alike (applied k (decisions_of d)) (decisions_of (applied_in k d))
  alike-applied_in (Adds x) h = alike-gained x h
  alike-applied_in (Withdraws x) h = alike-lost x h
  alike-applied_in Neither h = λ e. refl

  pub alike-reverted_in : (k : Change) → LowChange k → Alike (reverted k (decisions_of d)) (decisions_of (reverted_in k d))
  alike-reverted_in (Adds x) h = alike-lost x h
  alike-reverted_in (Withdraws x) h = alike-gained x h
  alike-reverted_in Neither h = λ e. refl

-- ---- the events, from the latest on

-- whether a change can be reversed; if so, its decision lies within the masks
pub record CanRevert (o : Outline) (d : Decisions) (k : Change) (r : Bool) : Type 0 where
  pub is : r ≡ revertible o k (decisions_of d)
  pub low : r ≡ true → WithinChange k

module _ (o : Outline) (d : Decisions) (x : Decision) (on : Bool) (s : OnSheet o x on) (y : on ≡ true) (held : Bool)
    (h : held ≡ held_in d x) where
  here : (b : Bool) → b ≡ (on_sheet o x && b)
  here b = sym (ap (λ (t : Bool). t && b) (sym s.is ∙ y))

  pub revert_addition : CanRevert o d (Adds x) held
  revert_addition = record { is = h ∙ sym (in_force_of d x) ∙ here (in_force (decisions_of d) x); low = λ _. s.low y }

  pub revert_withdrawal : CanRevert o d (Withdraws x) (not held)
  revert_withdrawal = record { is = ap not (h ∙ sym (in_force_of d x)) ∙ here (not (in_force (decisions_of d) x)); low = λ _. s.low y }

-- The first k events are still to be reversed.
pub record Reversing (o : Outline) (start : Decisions) (es : List Event) (count : ℕ) (d : Decisions) (k : ℕ) : Type 0 where
  pub few : k ≤ most_events
  pub long : Long d
  pub rest : reversible o (past es count) (decisions_of start) ≡ reversible o (past es k) (decisions_of d)

module _ (o : Outline) (start : Decisions) (es : List Event) (count : ℕ) where
  pub reversing_start : Long start → count ≤ most_events → Reversing o start es count start count
  reversing_start l h = record { few = h; long = l; rest = refl }

  module _ (d : Decisions) (k : ℕ) (h : 0 < k) (p : Reversing o start es count d k) where
    abbrev e : Event
    e = get_or es (k - 1) no_event

    latest : (b : Bool) → revertible o (change_of e) (decisions_of d) ≡ b
        → reversible o (past es count) (decisions_of start)
        ≡ (b && reversible o (past es (k - 1)) (reverted (change_of e) (decisions_of d)))
    unfolding reversible
    latest b q =
        p.rest ∙ rw (past-latest es k h)
        (ap (λ (t : Bool). t && reversible o (past es (k - 1)) (reverted (change_of e) (decisions_of d))) q)

    module _ (can : Bool) (r : CanRevert o d (change_of e) can) where
      pub reversing_stuck : can ≡ false → false ≡ reversible o (past es count) (decisions_of start)
      reversing_stuck n = sym (latest false (sym r.is ∙ n))

      pub reversing_next : can ≡ true → Reversing o start es count (reverted_in (change_of e) d) (k - 1)
      reversing_next y = record {
        few = let f = p.few in omega arith;
        long = reverted-long (change_of e) d p.long;
        rest = latest true (sym r.is ∙ y)
            ∙ alike-reversible o (past es (k - 1)) _ _
            (alike-reverted_in d p.long (change_of e) (within-low (change_of e) (r.low y)));
      }

  pub reversing_end : (d : Decisions) (k : ℕ) → k ≡ 0 → Reversing o start es count d k
      → true ≡ reversible o (past es count) (decisions_of start)
  reversing_end d k z p = sym (p.rest ∙ rw z (unfold past reversible in refl))

-- ---- the selected fields

-- a mask below 2 ^ n names no field at or past n
pub no_selection-code : (o : Outline) (selected : ℕ) → (eqb selected 0 || leb (2 ^ o.fields) selected) ≡ no_selection o selected
unfolding no_selection
no_selection-code o selected = ap (λ (b : Bool). eqb selected 0 || b) (iff_eq _ _
    (λ e. ⊎_elim (λ q. q) (λ q.
    let few : selected < 2 ^ o.fields = lt_of_bits o.fields selected (λ f l. not_so (bit selected f) (λ b.
    never (some_bit-by selected (λ g. not (ltb g o.fields)) f b (ap not (le-ltb f o.fields l))) q)) in
    absurd (let z = leb-true (2 ^ o.fields) selected e in omega arith)) (bool_cases _))
    (λ e. let x = some_bit-at selected (λ g. not (ltb g o.fields)) e in
    ⊎_elim (λ q. q) (λ q.
    let low = bit_bound o.fields selected x.0 (leb-false (2 ^ o.fields) selected q) x.1 in
    absurd (never (lt-ltb x.0 o.fields low) (not-true (ltb x.0 o.fields) x.2))) (bool_cases _)))

-- ---- all of it

module _ (o : Outline) (s : Session) (l : Long s.decisions) where
  pub ill-choices : false ≡ masks_on_sheet o.full s.decisions.choices → true ≡ malformed o (view s)
  unfolding malformed view
  ill-choices e = sym (rw (all_on o s.decisions l, sym e))

  pub ill-strikes : true ≡ masks_on_sheet o.full s.decisions.choices
      → false ≡ masks_on_sheet o.full s.decisions.strikes → true ≡ malformed o (view s)
  unfolding malformed view
  ill-strikes a e = sym (rw (all_on o s.decisions l, sym a, sym e))

  module _ (a : true ≡ masks_on_sheet o.full s.decisions.choices) (b : true ≡ masks_on_sheet o.full s.decisions.strikes) where
    pub ill-count : most_events < s.count → true ≡ malformed o (view s)
    unfolding malformed view
    ill-count h = sym (rw (all_on o s.decisions l, sym a, sym b, length-past s.events s.count, lt-ltb most_events s.count h))

    module _ (h : s.count ≤ most_events) where
      -- what the events and the selected fields decide
      late : malformed o (view s)
          ≡ (not (reversible o (past s.events s.count) (decisions_of s.decisions)) || no_selection o s.selected)
      unfolding malformed view
      late = rw (all_on o s.decisions l, sym a, sym b, length-past s.events s.count, le-ltb most_events s.count h)

      pub ill-events : false ≡ reversible o (past s.events s.count) (decisions_of s.decisions) → true ≡ malformed o (view s)
      ill-events e = sym (late ∙ rw (sym e))

      pub ill_selection : (r : Bool) → true ≡ reversible o (past s.events s.count) (decisions_of s.decisions)
          → r ≡ no_selection o s.selected → r ≡ malformed o (view s)
      ill_selection r e q = q ∙ sym (late ∙ rw (sym e))
