-- What holds of the ledger, beside demand 3. Assumes nothing.
use Rattle.std.specs.Prelude.{◌≡◌, Bool, ◌&&◌, List, ◌++◌, ℕ, ◌<◌, length}
use Rattle.std.proofs.Math.Path.{refl, sym, ap, ap₂}
use Rattle.std.proofs.Common.{◌∙◌, ⊎_elim}
use Rattle.std.proofs.Math.Bool.{true, false, not, and-false}
use native.Mathlib.Omega.{arith}
use Rattle.std.proofs.Math.Dec.{eqb}
use borrow.Author.Tests.{eqb-true, eq-eqb, ne_eqb, lt-ltb}
use Rattle.masks.specs.Tests.{never, not_so, and_l, and_r, and-by, or_l, or_r, or_at, some_below, some_below-at}
use Rattle.masks.specs.Tests.{some_below-by}
use Rattle.masks.specs.Bits.{bit}
use Rattle.masks.specs.Masks.{keep_bits}
use Rattle.masks.proofs.Masks.{bit-keep_bits, some_bit-at, some_bit-by}
use Rattle.masks.specs.Sets.{has}
use Rattle.masks.specs.Pick.{pick}
use Rattle.consistency.proofs.SetUps as setUps
use Rattle.consistency.specs.Problem.{length-triples, listed-triple, Problem, triple_at, SetUp}
use Rattle.consistency.specs.Neighbourhood.{neighbourhood}
use Rattle.sheet.specs.Sources.{Accepted, numbers, of_bytes}
use Rattle.accepted.specs.declared.outline.Outline.{Outline}
use Rattle.accepted.specs.Lists.{get_d_tabulate}
use Rattle.accepted.specs.Parts.{fields_of, count_of, reach_of, rules_of, rule_allows, triples_of, triple_first}
use Rattle.accepted.specs.Parts.{triple_second}
use Rattle.accepted.specs.Parts.{triple_third}
use Rattle.accepted.specs.Facts.{facts}
use Rattle.accepted.specs.Outline.{outline_of, full-has}
use Rattle.network.specs.SheetProblem.{runs, runs-at, pairs, joins, allows_pair, sheet_triple, sheet_problem, sheet-triples}
use Rattle.ledger.specs.declared.Decision.{Decision}
use Rattle.ledger.specs.declared.Decision.TheVariants.{Choice, Strike}
use Rattle.ledger.specs.declared.Event.{Event}
use Rattle.ledger.specs.declared.Call.{Call}
use Rattle.ledger.specs.declared.Call.TheVariants.{Open, Show, Decide, Back, CoilOn}
use Rattle.ledger.specs.Ledger.{change_of, Ledger, same_decision, in_force, without, backed, step, settings}
use Rattle.ledger.specs.Ledger.{other_chosen, starts, start_set, offers_of, wiped, Given, Cause, first, space_short, space_causes}
use Rattle.ledger.specs.Ledger.{sheet_causes, session_causes, engine_causes, place_causes, order_causes, step_causes, offers_causes, judged}
use Rattle.ledger.specs.Ledger.{causes, number}
use Rattle.ledger.specs.Causes.{first_++, first_skip}
use Rattle.ledger.specs.Theorems.{Obeys, Admitted}
use Rattle.ledger.specs.Laws.{SameLedger}
use Rattle.ledger.proofs.Laws.{decision-at, in_force-without, alike-offers}
use Rattle.ledger.proofs.Judging.{none-applies, space-numbered, sheet-numbered, session-numbered, early-numbered}
use Rattle.ledger.proofs.Sound.{and-true, applied_back}

-- ---- the start set, in 01's three cases

not_back : (b : Bool) → not b ≡ true → b ≡ false
not_back true e = sym e
not_back false e = refl

module _ (o : Outline) (ds : List Decision) (f : ℕ) where
  other_at : (v : ℕ) → other_chosen o ds f v ≡ true
      → (u : ℕ) × (has o.full f u ≡ true) × (in_force ds (Choice f u) ≡ true) × (eqb u v ≡ false)
  unfolding other_chosen has
  other_at v e =
      let x = some_bit-at (settings o f) (λ u. in_force ds (Choice f u) && not (eqb u v)) e in
      (x.0, x.1, and_l _ _ x.2, not_back _ (and_r (in_force ds (Choice f x.0)) _ x.2))

  other-by : (v u : ℕ) → has o.full f u ≡ true → in_force ds (Choice f u) ≡ true → eqb u v ≡ false → other_chosen o ds f v ≡ true
  unfolding other_chosen has
  other-by v u h c n = some_bit-by (settings o f) (λ u. in_force ds (Choice f u) && not (eqb u v)) u h (and-by _ _ c (ap not n))

  -- no choice: all that are not struck
  pub start-free : ((u : ℕ) → has o.full f u ≡ true → in_force ds (Choice f u) ≡ false)
      → (v : ℕ) → starts o ds f v ≡ not (in_force ds (Strike f v))
  unfolding starts
  start-free n v =
      let none = not_so (other_chosen o ds f v) (λ e. let x = other_at v e in never x.2 (n x.0 x.1)) in
      rw none (and-true (not (in_force ds (Strike f v))))

  -- one choice: only the chosen one, if it is not struck
  pub start-one : (w : ℕ) → has o.full f w ≡ true → in_force ds (Choice f w) ≡ true
      → ((u : ℕ) → has o.full f u ≡ true → in_force ds (Choice f u) ≡ true → u ≡ w)
      → (v : ℕ) → starts o ds f v ≡ (not (in_force ds (Strike f v)) && eqb w v)
  unfolding starts
  start-one w h c only v = ap (λ (b : Bool). not (in_force ds (Strike f v)) && b) (go (eqb w v) refl)
    where
      go : (b : Bool) → eqb w v ≡ b → not (other_chosen o ds f v) ≡ b
      go true e = ap not (not_so (other_chosen o ds f v) (λ s.
          let x = other_at v s in
          never (eq-eqb x.0 v (only x.0 x.1 x.2 ∙ eqb-true w v e)) x.3))
      go false e = ap not (other-by v w h c e)

  -- two or more: none
  pub start_none : (u w : ℕ) → has o.full f u ≡ true → has o.full f w ≡ true → (u ≡ w → ⊥) → in_force ds (Choice f u) ≡ true
      → in_force ds (Choice f w) ≡ true → (v : ℕ) → starts o ds f v ≡ false
  unfolding starts
  start_none u w h l n c d v = rw (some (eqb u v) refl) (and-false (not (in_force ds (Strike f v))))
    where
      some : (b : Bool) → eqb u v ≡ b → other_chosen o ds f v ≡ true
      some true e = other-by v w l d (ne_eqb w v (λ q. n (eqb-true u v e ∙ sym q)))
      some false e = other-by v u h c e

-- ---- every setting of a complete set_up that obeys the decisions is offered

module _ (xs : List ℕ) (accepted : Accepted xs) (ds : List Decision) (a : ℕ → ℕ) (o : Obeys xs ds a) where
  on-sheet : (f : ℕ) → f < fields_of xs → has (outline_of xs).full f (a f) ≡ true
  on-sheet f h = full-has xs f (a f) ∙ and-by _ _ (lt-ltb f _ h) (lt-ltb (a f) _ (o.on f h))

  starts_so : (f : ℕ) → f < fields_of xs → starts (outline_of xs) ds f (a f) ≡ true
  unfolding starts
  starts_so f h = and-by _ _ (ap not (o.unstruck f h)) (ap not (not_so (other_chosen (outline_of xs) ds f (a f)) (λ s.
      let x = other_at (outline_of xs) ds f (a f) s in never (eq-eqb x.0 (a f) (o.chosen f x.0 h x.2)) x.3)))

  inside : (f : ℕ) → f < fields_of xs → has (start_set (outline_of xs) ds) f (a f) ≡ true
  unfolding has start_set
  inside f h =
      let n : f < (outline_of xs).fields = unfold outline_of in h in
      ap (λ (m : ℕ). bit m (a f))
      (get_d_tabulate (outline_of xs).fields (λ f. keep_bits (settings (outline_of xs) f) (starts (outline_of xs) ds f)) f n)
      ∙ bit-keep_bits (settings (outline_of xs) f) (starts (outline_of xs) ds f) (a f)
      ∙ and-by _ _ (on-sheet f h) (starts_so f h)

  -- where a rule joins two fields, it allows their settings
  both : (f g r : ℕ) → f < fields_of xs → g < fields_of xs → r < rules_of xs → runs xs f g r ≡ true → pairs xs f g (a f) (a g) r ≡ true
  unfolding pairs
  both f g r h k l q =
      let e = runs-at xs f g r q in
      let allows = ap₂ (λ (x y : ℕ). rule_allows xs r (a x) (a y)) (sym e.0) (sym e.1) ∙ o.allowed r l in
      and-by _ _ (lt-ltb (a f) (count_of xs f) (o.on f h)) (and-by _ _ (lt-ltb (a g) (count_of xs g) (o.on g k)) allows)

  agrees : (f g : ℕ) → f < fields_of xs → g < fields_of xs → some_below (rules_of xs) (joins xs f g) ≡ true
      → some_below (rules_of xs) (allows_pair xs f g (a f) (a g)) ≡ true
  agrees f g h k e =
      let x = some_below-at (rules_of xs) (joins xs f g) e in
      some_below-by (rules_of xs) (allows_pair xs f g (a f) (a g)) x.0 x.1 (⊎_elim
      (λ q. or_l _ _ (and-by _ _ q (both f g x.0 h k x.1 q)))
      (λ q. or_r (runs xs f g x.0 && pairs xs f g (a f) (a g) x.0) _ (and-by _ _ q (both g f x.0 k h x.1 q)))
      (or_at (runs xs f g x.0) (runs xs g f x.0) x.2))

  -- each triple rule allows its three
  fits : (t : ℕ) → t < length (sheet_problem xs).triples
      → (triple_at (sheet_problem xs) t).fits (a (triple_at (sheet_problem xs) t).first) (a (triple_at (sheet_problem xs) t).second)
      (a (triple_at (sheet_problem xs) t).third) ≡ true
  unfolding sheet_problem sheet_triple
  fits t l =
      let n = length-triples (triples_of xs) (sheet_triple xs) in
      let h : t < triples_of xs = omega arith in
      let fs = facts xs accepted in
      let x = fs.triple-apart t h in
      let y = fs.triple-above t h in
      let z = fs.triple-within t h in
      rw (listed-triple (triples_of xs) (sheet_triple xs) t h)
      (and-by _ _ (lt-ltb _ _ (o.on (triple_first xs t) (omega arith)))
      (and-by _ _ (lt-ltb _ _ (o.on (triple_second xs t) (omega arith)))
      (and-by _ _ (lt-ltb _ _ (o.on (triple_third xs t) z)) (o.even t h))))

  set_up : SetUp (sheet_problem xs) (start_set (outline_of xs) ds) a
  set_up = record {
    inside = λ f h. inside f (field f h);
    listed = λ f h. unfold sheet_problem in on-sheet f (field f h);
    agrees = λ f g h k. unfold sheet_problem in agrees f g (field f h) (field g k);
    fit = fits;
  }
    where
      field : (f : ℕ) → f < (sheet_problem xs).fields → f < fields_of xs
      field f h = unfold sheet_problem in h

  abbrev P : Problem
  P = sheet_problem xs

  -- whatever is selected
  pub set_up_kept : (es : List Event) (selected f : ℕ) → f < fields_of xs
      → has (offers_of xs (record { decisions = ds; events = es; selected = selected })) f (a f) ≡ true
  set_up_kept es selected f h = unfold offers_of in
      setUps.set_up_offered P (sheet-triples xs accepted) (start_set (outline_of xs) ds) a set_up (neighbourhood P (reach_of xs)) selected f
      (unfold sheet_problem in h)

  -- so it is not refused as wiped out
  pub set_up_shown : (es : List Event) (selected : ℕ) → wiped xs (record { decisions = ds; events = es; selected = selected }) ≡ false
  set_up_shown es selected = unfold wiped in
      setUps.set_up_not-wiped P (sheet-triples xs accepted) (start_set (outline_of xs) ds) a set_up (neighbourhood P (reach_of xs)) selected

-- ---- a withdrawn decision leaves the page as if it had never been made

-- `m` has the decisions that would be in force had d never been made: the others of l, and not d. The same fields are selected.
module _ (xs : List ℕ) (d : Decision) (l m : Ledger)
    (others : (e : Decision) → same_decision d e ≡ false → in_force l.decisions e ≡ in_force m.decisions e)
    (n : in_force m.decisions d ≡ false) (s : l.selected ≡ m.selected) where
  pub withdrawn_leaves : (es : List Event)
      → offers_of xs (record { decisions = without d l.decisions; events = es; selected = l.selected }) ≡ offers_of xs m
  withdrawn_leaves es =
      alike-offers (record { decisions = without d l.decisions; events = es; selected = l.selected }) m xs
      (λ e. in_force-without d l.decisions e ∙ go e (same_decision d e) refl) s
    where
      go : (e : Decision) (b : Bool) → same_decision d e ≡ b → (in_force l.decisions e && not b) ≡ in_force m.decisions e
      go e true q = and-false (in_force l.decisions e) ∙ sym (ap (in_force m.decisions) (sym (decision-at d e q)) ∙ n)
      go e false q = and-true (in_force l.decisions e) ∙ others e q

-- ---- back undoes the latest accepted change exactly

pub back_undoes : (g : Given) (e : Event) (l : Ledger) → number g (Decide e) l ≡ 0 → SameLedger (step Back (step (Decide e) l)) l
unfolding step backed
back_undoes g e l z =
    let v = none-applies g (Decide e) l z in
    record { held = applied_back (change_of e) l.decisions v.of_step.0 v.of_step.1.0; past = refl; selected = refl }

-- ---- engine and order alter nothing

-- the same, with another engine and another order
abbrev pub lending : Given → ℕ → List ℕ → Given
lending g engine order = record { sheet = g.sheet; engine = engine; order = order; offers = g.offers; rows = g.rows; memory = g.memory }

admitted_0 : Admitted 0
admitted_0 = record { not_7 = λ z. omega arith; not_9 = λ z. omega arith }

-- the causes of the decision that a call names, where none of them decides
place-skipped : (o : Outline) (c : Call) (rest : List Cause) → Admitted (first (place_causes o c ++ rest))
    → first (place_causes o c ++ rest) ≡ first rest
place-skipped o (Open selected) rest t = refl
place-skipped o Show rest t = refl
place-skipped o (Decide e) rest t = first_skip (place_causes o (Decide e)) rest (t.not_7, tt)
place-skipped o Back rest t = refl
place-skipped o CoilOn rest t = refl

module _ (o : Outline) (c : Call) (engine : ℕ) (order : List ℕ) (l : Ledger) where
  -- the causes after those of the place, of the engine, and of the session
  abbrev late : List Cause
  late = order_causes o order ++ step_causes c l

  abbrev placed : List Cause
  placed = place_causes o c ++ late

  abbrev rest : List Cause
  rest = engine_causes engine ++ placed

  skipped : Admitted (first rest) → first rest ≡ first (step_causes c l)
  skipped t =
      let a = first_skip (engine_causes engine) placed (t.not_7, tt) in
      let b = place-skipped o c late (rw a at t) in
      let d = rw b at (rw a at t) in
      a ∙ b ∙ first_skip (order_causes o order) (step_causes c l) (d.not_9, tt)

  -- where no cause of engine, decision or order decides, those of the session and the step do
  judged_else : Admitted (first (judged o c engine order l)) → first (judged o c engine order l)
      ≡ pick (eqb (first (session_causes o c l)) 0) (first (step_causes c l)) (first (session_causes o c l))
  unfolding judged
  judged_else t = whole ∙ go (eqb (first (session_causes o c l)) 0) (rw whole at t)
    where
      whole : first (session_causes o c l ++ rest)
          ≡ pick (eqb (first (session_causes o c l)) 0) (first rest) (first (session_causes o c l))
      whole = first_++ (session_causes o c l) _ (session-numbered o c engine order l)

      go : (s : Bool) → Admitted (pick s (first rest) (first (session_causes o c l)))
          → pick s (first rest) (first (session_causes o c l)) ≡ pick s (first (step_causes c l)) (first (session_causes o c l))
      go true t = unfold pick in skipped (unfold pick in t)
      go false t = unfold pick in refl

module _ (g : Given) (c : Call) (l : Ledger) where
  abbrev xs : List ℕ
  xs = numbers (of_bytes g.sheet)

  abbrev early : List Cause
  early = judged (outline_of xs) c g.engine g.order l

  -- the stages of a number, each deciding where those before it have no cause that applies
  number-stages : number g c l
      ≡ pick (eqb (first (space_causes g)) 0)
      (pick (eqb (first (sheet_causes g.sheet)) 0)
      (pick (eqb (first early) 0) (first (offers_causes xs (step c l))) (first early))
      (first (sheet_causes g.sheet)))
      (first (space_causes g))
  unfolding number causes
  number-stages = rw (
    first_++ (space_causes g) _ (space-numbered g c l),
    first_++ (sheet_causes g.sheet) _ (sheet-numbered g c l),
    first_++ early _ (early-numbered g c l),
  )

-- Whatever engine and order a call is given, if it is not refused for them: the same number.
pub engine-and-order : (g : Given) (engine : ℕ) (order : List ℕ) (c : Call) (l : Ledger)
    → Admitted (number g c l) → Admitted (number (lending g engine order) c l)
    → number g c l ≡ number (lending g engine order) c l
unfolding space_short
engine-and-order g engine order c l s t =
    let a = number-stages g c l in
    let b = number-stages (lending g engine order) c l in
    let o = outline_of (numbers (of_bytes g.sheet)) in
    let p = first (space_causes g) in
    let q = first (sheet_causes g.sheet) in
    a ∙ go (eqb p 0) (eqb q 0) p q _ _ _
    (λ x y. judged_else o c g.engine g.order l x ∙ sym (judged_else o c engine order l y)) (rw a at s) (rw b at t) ∙ sym b
  where
    found : (k r : ℕ) → Admitted (pick (eqb k 0) r k) → Admitted k
    found k r t = by (eqb k 0) refl t
      where
        by : (b : Bool) → eqb k 0 ≡ b → Admitted (pick b r k) → Admitted k
        by true e t = rw (eqb-true k 0 e) admitted_0
        by false e t = unfold pick in t

    go : (a b : Bool) (p q r j k : ℕ) → (Admitted j → Admitted k → j ≡ k)
        → Admitted (pick a (pick b (pick (eqb j 0) r j) q) p) → Admitted (pick a (pick b (pick (eqb k 0) r k) q) p)
        → pick a (pick b (pick (eqb j 0) r j) q) p ≡ pick a (pick b (pick (eqb k 0) r k) q) p
    go false b p q r j k h s t = unfold pick in refl
    go true false p q r j k h s t = unfold pick in refl
    go true true p q r j k h s t =
        ap (λ (n : ℕ). pick true (pick true (pick (eqb n 0) r n) q) p) (h (found j r (unfold pick in s)) (found k r (unfold pick in t)))
