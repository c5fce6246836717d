-- The causes stage by stage: which stage decides a number, and what holds where no cause applies. Assumes nothing.
use Rattle.std.specs.Prelude.{◌≡◌, refl, Bool, true, false, not, ◌||◌, List, ◌++◌, ℕ, ◌≤◌, ◌<◌, ltb, length}
use Rattle.std.proofs.Common.{sym, ap, ◌∙◌, eqb-true, eq-eqb, ne_eqb, ltb-false, le-ltb}
use native.Mathlib.Omega.{arith}
use Rattle.limits.specs.Limits.{most_events}
use Rattle.limits.specs.Refusals.{TOO_SHORT}
use Rattle.limits.specs.Refusals.{WIPED_OUT, MALFORMED, NO_SELECTION}
use Rattle.masks.specs.Tests.{never}
use Rattle.sheet.specs.Sources.{refusal, numbers, of_bytes}
use Rattle.accepted.specs.declared.outline.Outline.{Outline}
use Rattle.accepted.specs.Outline.{outline_of}
use Rattle.accepted.specs.Refused.{refusal-few}
use Rattle.ledger.specs.declared.Call.{Call}
use Rattle.ledger.specs.declared.Call.TheVariants.{Open, Show, Decide, Back, CoilOn}
use Rattle.ledger.specs.Ledger.{Ledger, Given, Cause, first, step, space_short, space_causes, sheet_causes, all_on_sheet}
use Rattle.ledger.specs.Ledger.{no_selection, reversible, malformed, is_order, session_causes, engine_causes, place_causes, order_causes}
use Rattle.ledger.specs.Ledger.{step_causes, offers_causes, judged, causes, number}
use Rattle.ledger.specs.Causes.{None, Avoids, Numbered, avoids_++, first_end, first-applies, first_next, first-none, first-here}
use Rattle.ledger.specs.Causes.{first-there, first-both, first_avoids}
use Rattle.ledger.proofs.NotJudged.{NotJudged, not-judged}

pub or_left : (a b : Bool) → (a || b) ≡ false → a ≡ false
or_left true b e = e
or_left false b e = refl

pub or_right : (a b : Bool) → (a || b) ≡ false → b ≡ false
or_right true b e = absurd (never refl e)
or_right false b e = e

pub not_back : (b : Bool) → not b ≡ false → b ≡ true
not_back true e = refl
not_back false e = sym e

-- ---- a number k that no cause of a stage has

not-judged_0 : NotJudged 0
not-judged_0 = not-judged 0 (λ a b. omega arith)

-- k is not 15 where the ledger is malformed, and not 18 where the call is open
pub record NotOfSession (k : ℕ) (o : Outline) (c : Call) (l : Ledger) : Type 0 where
  pub not_15 : malformed o l ≡ true → MALFORMED ≡ k → ⊥
  pub not_18 : (selected : ℕ) → c ≡ Open selected → NO_SELECTION ≡ k → ⊥

session_avoids : (k : ℕ) (o : Outline) (c : Call) (l : Ledger) → NotOfSession k o c l → Avoids k (session_causes o c l)
session_avoids k o (Open selected) l n = (λ _. n.not_18 selected refl, tt)
session_avoids k o Show l n = (n.not_15, tt)
session_avoids k o (Decide e) l n = (n.not_15, tt)
session_avoids k o Back l n = (n.not_15, tt)
session_avoids k o CoilOn l n = (n.not_15, tt)

not_of_session_0 : (o : Outline) (c : Call) (l : Ledger) → NotOfSession 0 o c l
not_of_session_0 o c l = record { not_15 = λ _ z. omega arith; not_18 = λ _ _ z. omega arith }

engine_avoids : (k engine : ℕ) → NotJudged k → Avoids k (engine_causes engine)
engine_avoids k engine n = (λ _. n.not_7, tt)

place_avoids : (k : ℕ) (o : Outline) (c : Call) → NotJudged k → Avoids k (place_causes o c)
place_avoids k o (Open selected) n = tt
place_avoids k o Show n = tt
place_avoids k o (Decide e) n = (λ _. n.not_7, tt)
place_avoids k o Back n = tt
place_avoids k o CoilOn n = tt

order_avoids : (k : ℕ) (o : Outline) (order : List ℕ) → NotJudged k → Avoids k (order_causes o order)
order_avoids k o order n = (λ _. n.not_9, tt)

step_avoids : (k : ℕ) (c : Call) (l : Ledger) → NotJudged k → Avoids k (step_causes c l)
step_avoids k (Open selected) l n = tt
step_avoids k Show l n = tt
step_avoids k (Decide e) l n = (λ _. n.not_10, (λ _. n.not_11, (λ _. n.not_12, tt)))
step_avoids k Back l n = (λ _. n.not_13, tt)
step_avoids k CoilOn l n = tt

-- ---- 15 or 18, 7 and 9 to 13

module _ (o : Outline) (c : Call) (engine : ℕ) (order : List ℕ) (l : Ledger) where
  abbrev found : ℕ
  found = first (judged o c engine order l)

  -- the stages after the place, and after the engine
  abbrev late : List Cause
  late = order_causes o order ++ step_causes c l

  abbrev placed : List Cause
  placed = place_causes o c ++ late

  pub session-numbered : Numbered (session_causes o c l)
  session-numbered = session_avoids 0 o c l (not_of_session_0 o c l)

  engine-numbered : Numbered (engine_causes engine)
  engine-numbered = engine_avoids 0 engine not-judged_0

  place-numbered : Numbered (place_causes o c)
  place-numbered = place_avoids 0 o c not-judged_0

  order-numbered : Numbered (order_causes o order)
  order-numbered = order_avoids 0 o order not-judged_0

  step-numbered : Numbered (step_causes c l)
  step-numbered = step_avoids 0 c l not-judged_0

  judged_avoids : (k : ℕ) → NotOfSession k o c l → NotJudged k → Avoids k (judged o c engine order l)
  unfolding judged
  judged_avoids k m n =
      avoids_++ k (session_causes o c l) (engine_causes engine ++ placed) (session_avoids k o c l m)
      (avoids_++ k (engine_causes engine) placed (engine_avoids k engine n)
      (avoids_++ k (place_causes o c) late (place_avoids k o c n)
      (avoids_++ k (order_causes o order) (step_causes c l) (order_avoids k o order n) (step_avoids k c l n))))

  judged-numbered : Numbered (judged o c engine order l)
  judged-numbered = judged_avoids 0 (not_of_session_0 o c l) not-judged_0

  -- Each stage decides where those before it have no cause that applies.
  pub judged-session : (k : ℕ) → (k ≡ 0 → ⊥) → k ≡ first (session_causes o c l) → k ≡ found
  unfolding judged
  judged-session k n e = first-here (session_causes o c l) _ session-numbered k n e

  module _ (s : first (session_causes o c l) ≡ 0) where
    after-session : {k : ℕ} → k ≡ first (engine_causes engine ++ placed) → k ≡ found
    unfolding judged
    after-session e = first-there (session_causes o c l) _ session-numbered s e

    pub judged-engine : (k : ℕ) → (k ≡ 0 → ⊥) → k ≡ first (engine_causes engine) → k ≡ found
    judged-engine k n e = after-session (first-here (engine_causes engine) _ engine-numbered k n e)

    module _ (g : first (engine_causes engine) ≡ 0) where
      after-engine : {k : ℕ} → k ≡ first placed → k ≡ found
      after-engine e = after-session (first-there (engine_causes engine) _ engine-numbered g e)

      pub judged-place : (k : ℕ) → (k ≡ 0 → ⊥) → k ≡ first (place_causes o c) → k ≡ found
      judged-place k n e = after-engine (first-here (place_causes o c) _ place-numbered k n e)

      module _ (p : first (place_causes o c) ≡ 0) where
        after-place : {k : ℕ} → k ≡ first late → k ≡ found
        after-place e = after-engine (first-there (place_causes o c) _ place-numbered p e)

        pub judged-order : (k : ℕ) → (k ≡ 0 → ⊥) → k ≡ first (order_causes o order) → k ≡ found
        judged-order k n e = after-place (first-here (order_causes o order) _ order-numbered k n e)

        pub judged-step : first (order_causes o order) ≡ 0 → {k : ℕ} → k ≡ first (step_causes c l) → k ≡ found
        judged-step r e = after-place (first-there (order_causes o order) _ order-numbered r e)

  -- no cause of any stage applies
  pub record Clear : Type 0 where
    pub of_session : None (session_causes o c l)
    pub of_engine : None (engine_causes engine)
    pub of_place : None (place_causes o c)
    pub of_order : None (order_causes o order)
    pub of_step : None (step_causes c l)

  pub clear : found ≡ 0 → Clear
  unfolding judged
  clear e =
      let a = first-both (session_causes o c l) _ session-numbered e in
      let b = first-both (engine_causes engine) _ engine-numbered a.1 in
      let d = first-both (place_causes o c) _ place-numbered b.1 in
      let f = first-both (order_causes o order) _ order-numbered d.1 in
      record {
        of_session = first-none (session_causes o c l) session-numbered a.0;
        of_engine = first-none (engine_causes engine) engine-numbered b.0;
        of_place = first-none (place_causes o c) place-numbered d.0;
        of_order = first-none (order_causes o order) order-numbered f.0;
        of_step = first-none (step_causes c l) step-numbered f.1;
      }

  pub clear-order : Clear → is_order o.fields order ≡ true
  clear-order v = not_back _ v.of_order.0

-- ---- the number of a call

module _ (g : Given) (c : Call) (l : Ledger) where
  abbrev xs : List ℕ
  xs = numbers (of_bytes g.sheet)

  abbrev early : List Cause
  early = judged (outline_of xs) c g.engine g.order l

  pub space-numbered : Numbered (space_causes g)
  space-numbered = (λ _ z. omega arith, tt)

  pub sheet-numbered : Numbered (sheet_causes g.sheet)
  sheet-numbered = (λ e z. never e (ap not (eq-eqb (refusal (of_bytes g.sheet)) 0 z)), tt)

  pub early-numbered : Numbered early
  early-numbered = judged-numbered (outline_of xs) c g.engine g.order l

  -- 6
  pub number_short : space_short g ≡ true → TOO_SHORT ≡ number g c l
  unfolding number causes
  number_short e = first-here (space_causes g) _ space-numbered TOO_SHORT (λ z. omega arith) (first-applies _ _ _ e)

  module _ (s : space_short g ≡ false) where
    after-space : {k : ℕ} → k ≡ first (sheet_causes g.sheet ++ (early ++ offers_causes xs (step c l))) → k ≡ number g c l
    unfolding number causes
    after-space e = first-there (space_causes g) _ space-numbered (sym (first_next _ _ _ s first_end)) e

    -- 1 to 5
    pub number-sheet : (k : ℕ) → (k ≡ 0 → ⊥) → k ≡ refusal (of_bytes g.sheet) → k ≡ number g c l
    number-sheet k n e = after-space (first-here (sheet_causes g.sheet) _ sheet-numbered k n
        (e ∙ first-applies _ _ _ (ap not (ne_eqb (refusal (of_bytes g.sheet)) 0 (λ z. n (e ∙ z))))))

    module _ (r : refusal (of_bytes g.sheet) ≡ 0) where
      after-sheet : {k : ℕ} → k ≡ first (early ++ offers_causes xs (step c l)) → k ≡ number g c l
      after-sheet e = after-space (first-there (sheet_causes g.sheet) _ sheet-numbered
          (sym (first_next _ _ _ (ap not (eq-eqb (refusal (of_bytes g.sheet)) 0 r)) first_end)) e)

      -- 15 or 18, 7 and 9 to 13
      pub number-judged : (k : ℕ) → (k ≡ 0 → ⊥) → k ≡ first early → k ≡ number g c l
      number-judged k n e = after-sheet (first-here early _ early-numbered k n e)

      -- 14, or none
      pub number-offers : first early ≡ 0 → {k : ℕ} → k ≡ first (offers_causes xs (step c l)) → k ≡ number g c l
      number-offers z e = after-sheet (first-there early _ early-numbered z e)

  -- A number past 6 that is none of 7 and 9 to 14 is not given; nor is 15, where the ledger is not malformed, nor 18 by a call but open.
  pub number_avoids : (k : ℕ) → 6 < k → (WIPED_OUT ≡ k → ⊥) → NotOfSession k (outline_of xs) c l
      → (7 ≤ k → k ≤ 13 → k ≡ 8) → number g c l ≡ k → ⊥
  unfolding number causes
  number_avoids k h w m n = first_avoids k (causes g c l) (λ z. omega arith) (
    λ _ z. omega arith,
    (
      λ _ z. let few = refusal-few (of_bytes g.sheet) in omega arith,
      avoids_++ k early (offers_causes xs (step c l))
          (judged_avoids (outline_of xs) c g.engine g.order l k m (not-judged k n)) (λ _. w, tt),
    ),
  )

  -- where the number is 0 no cause applies
  module _ (e : number g c l ≡ 0) where
    after-spaces : first (sheet_causes g.sheet ++ (early ++ offers_causes xs (step c l))) ≡ 0
    unfolding number causes
    after-spaces = (first-both (space_causes g) _ space-numbered e).1

    after-sheets : (first (sheet_causes g.sheet) ≡ 0) × (first (early ++ offers_causes xs (step c l)) ≡ 0)
    after-sheets = first-both (sheet_causes g.sheet) _ sheet-numbered after-spaces

    pub sheet-accepted : refusal (of_bytes g.sheet) ≡ 0
    sheet-accepted = eqb-true _ 0 (not_back _ (first-none (sheet_causes g.sheet) sheet-numbered after-sheets.0).0)

    pub none-applies : Clear (outline_of xs) c g.engine g.order l
    none-applies = clear (outline_of xs) c g.engine g.order l (first-both early _ early-numbered after-sheets.1).0

-- ---- a ledger that is not malformed

pub record WellFormed (o : Outline) (l : Ledger) : Type 0 where
  pub on : all_on_sheet o l.decisions ≡ true
  pub few : length l.events ≤ most_events
  pub reverses : reversible o l.events l.decisions ≡ true
  pub selects : no_selection o l.selected ≡ false

pub well_formed : (o : Outline) (l : Ledger) → malformed o l ≡ false → WellFormed o l
unfolding malformed
well_formed o l e =
    let a = or_right (not (all_on_sheet o l.decisions)) _ e in
    let b = or_right (ltb most_events (length l.events)) _ a in
    record {
      on = not_back _ (or_left _ _ e);
      few = ltb-false most_events _ (or_left _ _ a);
      reverses = not_back _ (or_left _ _ b);
      selects = or_right (not (reversible o l.events l.decisions)) _ b;
    }

pub formed-by : (o : Outline) (l : Ledger) → WellFormed o l → malformed o l ≡ false
unfolding malformed
formed-by o l w = rw (w.on, le-ltb most_events (length l.events) w.few, w.reverses, w.selects)
