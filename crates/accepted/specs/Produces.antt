-- What reading or writing gives back, whatever room it is lent. Assumes nothing.
use Rattle.std.specs.Prelude.{◌≡◌, refl, Bool, List, ℕ, eqb, leb, length, take}
use Rattle.std.proofs.Math.Path.{sym}
use Rattle.std.proofs.Common.{ap, ◌∙◌, arith, take_at, eqb-true, ne_eqb}
use Rattle.std.proofs.Math.Bool.{true, false}
use Rattle.std.proofs.lemmas.Bool.{eqb-false}
use Rattle.masks.specs.Pick.{pick, pick-false}
use Rattle.limits.specs.Refusals.{TOO_SHORT}
use Rattle.sheet.specs.Sources.{Produced, Gives, produced, giving, refusing}
use Rattle.sheet.specs.declared.answer.Answer.{Answer}

-- The ends of a call: the values are given, the output is too short for them, or the source is refused.
data End (number : ℕ) (values before : List ℕ) (r : Answer) (after : List ℕ) : Type 0 where
  given : number ≡ 0 → Gives (giving values before) r after → End number values before r after
  short : Gives (refusing TOO_SHORT before) r after → End number values before r after
  refused : (number ≡ 0 → ⊥) → Gives (refusing number before) r after → End number values before r after

-- Where the answer is 0, the source is not refused and its values stand at the front of the output.
pub record Front (number : ℕ) (values : List ℕ) (r : Answer) (after : List ℕ) : Type 0 where
  pub unrefused : number ≡ 0
  pub values-first : take r.length after ≡ values

module _ (number : ℕ) (values before : List ℕ) (r : Answer) (after : List ℕ) where
  -- over an output that may be too short
  abbrev fitted : Produced
  fitted = pick (leb (length values) (length before)) (giving values before) (refusing TOO_SHORT before)

  with-room : (b : Bool) → number ≡ 0 → Gives (pick b (giving values before) (refusing TOO_SHORT before)) r after
      → End number values before r after
  unfolding pick
  with-room true n g = given n g
  with-room false n g = short g

  by_number : (b : Bool) → eqb number 0 ≡ b → Gives (pick b fitted (refusing number before)) r after → End number values before r after
  unfolding pick
  by_number true e g = with-room (leb (length values) (length before)) (eqb-true number 0 e) g
  by_number false e g = refused (eqb-false number 0 e) g

  end_of : Gives (produced number values before) r after → End number values before r after
  end_of g = by_number (eqb number 0) refl g

  -- the number that is answered
  answers : (o : Produced) → Gives o r after → r.number ≡ o.answer.number
  answers o g = ap (λ (a : Answer). a.number) g.answers

  pub front_of : r.number ≡ 0 → Gives (produced number values before) r after → Front number values r after
  unfolding pick
  front_of z g = by (end_of g)
    where
      by : End number values before r after → Front number values r after
      by (given n h) = record {
        unrefused = n;
        values-first = rw (h.outputs, h.answers) (take_at values _ (length values) refl);
      }
      by (short h) = absurd (omega (arith, sym (answers _ h) ∙ z))
      by (refused n h) = absurd (n (sym (answers _ h) ∙ z))

  -- Where the answer is another number than 0 and that of a short output, the source is refused by it.
  pub refused-by : (r.number ≡ 0 → ⊥) → (r.number ≡ TOO_SHORT → ⊥) → Gives (produced number values before) r after → number ≡ r.number
  refused-by p q g = by (end_of g)
    where
      by : End number values before r after → number ≡ r.number
      by (given n h) = absurd (p (answers _ h))
      by (short h) = absurd (q (answers _ h))
      by (refused n h) = sym (answers _ h)

-- A source that is refused by a number gives that refusal.
pub refuses : (number : ℕ) (values before : List ℕ) → (number ≡ 0 → ⊥) → produced number values before ≡ refusing number before
refuses number values before n = pick-false _ _ _ (ne_eqb number 0 n)
