-- An answer, put together from its parts. Assumes nothing.
use Rattle.std.specs.Prelude.{◌≡◌, refl, Bool, true, false, ◌||◌, List, ℕ, ◌≤◌, ltb, length}
use Rattle.std.proofs.Math.Path.{sym}
use Rattle.std.proofs.Common.{◌∙◌, arith}
use borrow.Author.Tests.{eq-eqb, ne_eqb, ltb-false}
use Rattle.limits.specs.Limits.{most_numbers, offers_words, rows_words, memory_words}
use Rattle.limits.specs.Refusals.{TOO_SHORT, WIPED_OUT}
use Rattle.masks.specs.Tests.{never}
use Rattle.masks.specs.Pick.{pick_true, pick-false}
use Rattle.sheet.specs.Sources.{refusal, numbers, of_bytes}
use Rattle.accepted.specs.Accept.{bytes-accepted}
use Rattle.accepted.specs.Outline.{outline_of}
use Rattle.ledger.specs.declared.Call.{Call}
use Rattle.ledger.specs.Ledger.{Given, Cause, step, wiped, space_short, no_selection, number, first, judged, is_order}
use Rattle.ledger.specs.Causes.{first_end, first-applies, first_next}
use Rattle.ledger.specs.Laws.{SameLedger}
use Rattle.ledger.proofs.Laws.{alike-wiped, alike-offers}
use Rattle.ledger.proofs.Judging.{or_left, or_right, clear, clear-order, number_short, number-sheet, number-judged, number-offers}
use Rattle.session.specs.declared.Session.{Session}
use Rattle.session.specs.View.{view, Sized}
use Rattle.session.specs.Steps.{stepped, StepAsks}
use Rattle.answering.specs.Answer.{Spaces, given, refused, accepted, result, Answers}
use Rattle.answering.specs.Settle.{Settled}
use Rattle.answering.specs.TakesStep.{step-asks, shows-step, selects-step}

-- too short, by lengths
abbrev pub short_by : (offers rows memory : ℕ) → Bool
short_by offers rows memory = ltb offers offers_words || (ltb rows rows_words || ltb memory memory_words)

-- enough room, for the longest sheet too
pub record Roomy (offers rows memory : ℕ) : Type 0 where
  pub offers-room : offers_words ≤ offers
  pub rows-room : rows_words ≤ rows
  pub memory-room : memory_words ≤ memory
  pub sheet-room : most_numbers ≤ memory

pub roomy : (offers rows memory : ℕ) → short_by offers rows memory ≡ false → Roomy offers rows memory
roomy offers rows memory e =
    let b = or_right (ltb offers offers_words) _ e in
    let h = ltb-false memory memory_words (or_right (ltb rows rows_words) _ b) in
    record {
      offers-room = ltb-false offers offers_words (or_left _ _ e);
      rows-room = ltb-false rows rows_words (or_left _ _ b);
      memory-room = h;
      sheet-room = omega arith;
    }

module _ (c : Call) (s : Session) (d : Sized s) (sheet : List ℕ) (engine : ℕ) (order : List ℕ) (lent : Spaces) where
  abbrev g : Given
  g = given sheet engine order lent

  abbrev ys : List ℕ
  ys = numbers (of_bytes sheet)

  abbrev found : List Cause
  found = judged (outline_of ys) c engine order (view s)

  result-refused : (k : ℕ) → (k ≡ 0 → ⊥) → k ≡ number g c (view s) → refused k s lent.offers ≡ result g c s lent.offers
  unfolding result
  result-refused k n e = rw (sym e, ne_eqb k 0 n) (sym (pick-false _ _ _ refl))

  result-accepted : number g c (view s) ≡ 0 → accepted ys c s lent.offers ≡ result g c s lent.offers
  unfolding result
  result-accepted k = sym (pick_true _ _ _ (eq-eqb _ 0 k))

  -- by 6
  pub answers-short : true ≡ short_by (length lent.offers) (length lent.rows) (length lent.memory)
      → Answers c s sheet engine order lent TOO_SHORT s lent
  answers-short e = record {
    sized = d;
    answers = result-refused TOO_SHORT (λ z. omega arith) (number_short g c (view s) (unfold space_short in sym e));
    rows-kept = λ _. refl;
    memory_kept = λ _. refl;
  }

  module _ (e : false ≡ short_by (length lent.offers) (length lent.rows) (length lent.memory)) where
    long : space_short g ≡ false
    long = unfold space_short in sym e

    -- whatever the work spaces then hold
    answers_by : (k : ℕ) (t : Session) (left : Spaces)
        → record { number = k; session = t; offers = left.offers } ≡ result g c s lent.offers
        → Answers c s sheet engine order lent k t left
    answers_by k t left q = record {
      sized = d;
      answers = q;
      rows-kept = λ t. absurd (never t long);
      memory_kept = λ t. absurd (never t long);
    }

    -- by 1 to 5
    pub answers-sheet : (k : ℕ) (left : Spaces) → left.offers ≡ lent.offers → (k ≡ 0 → ⊥) → k ≡ refusal (of_bytes sheet)
        → Answers c s sheet engine order lent k s left
    answers-sheet k left o n q = answers_by k s left (rw o (result-refused k n (number-sheet g c (view s) long k n q)))

    module _ (z : refusal (of_bytes sheet) ≡ 0) where
      -- by 15 or 18, 7 and 9 to 13
      pub answers-judged : (k : ℕ) (left : Spaces) → left.offers ≡ lent.offers → (k ≡ 0 → ⊥) → k ≡ first found
          → Answers c s sheet engine order lent k s left
      answers-judged k left o n q = answers_by k s left (rw o (result-refused k n (number-judged g c (view s) long z k n q)))

      -- by 14, or by none
      module _ (v : first found ≡ 0) where
        pub takes_step : StepAsks c s
        takes_step = step-asks ys (bytes-accepted sheet z) engine order s c (clear (outline_of ys) c engine order (view s) v)

        pub selects : no_selection (outline_of ys) (stepped c s).selected ≡ false
        selects = selects-step ys (bytes-accepted sheet z) engine order s c (clear (outline_of ys) c engine order (view s) v)

        pub is-order : is_order (outline_of ys).fields order ≡ true
        is-order = clear-order (outline_of ys) c engine order (view s) (clear (outline_of ys) c engine order (view s) v)

        module _ (t : Session) (q : t ≡ stepped c s) (w : Bool) (left : Spaces)
            (p : Settled ys (view t) lent.offers w left.offers) where
          same_step : SameLedger (view t) (step c (view s))
          same_step = rw q (shows-step ys (bytes-accepted sheet z) engine order s c d (clear (outline_of ys) c engine order (view s) v))

          wipes : w ≡ wiped ys (step c (view s))
          wipes = p.wipes ∙ alike-wiped (view t) (step c (view s)) ys same_step.held same_step.selected

          pub answers-wiped : w ≡ true → Answers c s sheet engine order lent WIPED_OUT s left
          answers-wiped y = answers_by WIPED_OUT s left (rw (p.offers ∙ pick_true _ _ _ y)
              (result-refused WIPED_OUT (λ q. omega arith) (number-offers g c (view s) long z v (first-applies _ _ _ (sym wipes ∙ y)))))

          pub answers-accepted : w ≡ false → Answers c s sheet engine order lent 0 t left
          answers-accepted n =
              answers_by 0 t left
              (rw (p.offers ∙ pick-false _ _ _ n, alike-offers (view t) (step c (view s)) ys same_step.held same_step.selected, q)
              (result-accepted (sym (number-offers g c (view s) long z v (first_next _ _ _ (sym wipes ∙ n) first_end)))))
