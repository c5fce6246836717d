-- What reading a sheet's bytes to a list with room for the longest sheet gives back. Assumes nothing.
use Rattle.std.specs.Prelude.{◌≡◌, refl, Bool, true, false, List, ℕ, ◌≤◌, eqb, length, take}
use Rattle.std.proofs.Common.{sym, ◌∙◌, arith, length-append, take_at, eq-eqb, eqb-true}
use Rattle.std.proofs.Math.Path.{ap}
use Rattle.masks.specs.Pick.{pick, pick_true, pick-false}
use Rattle.limits.specs.Limits.{most_numbers}
use Rattle.sheet.specs.Sources.{refusal, numbers, of_bytes, Accepted, Gives, Produced, giving, refusing, reading}
use Rattle.sheet.specs.declared.answer.Answer.{Answer}
use Rattle.accepted.specs.Accept.{bytes-accepted}
use Rattle.accepted.specs.Theorems.{enough-room}

module _ (sheet list : List ℕ) (room : most_numbers ≤ length list) (r : Answer) (front : List ℕ)
    (g : Gives (reading sheet list) r front) where
  abbrev xs : List ℕ
  xs = numbers (of_bytes sheet)

  read_is : (t : Bool) → eqb (refusal (of_bytes sheet)) 0 ≡ t
      → reading sheet list ≡ pick t (giving xs list) (refusing (refusal (of_bytes sheet)) list)
  read_is t e = enough-room sheet list room ∙ ap (λ (b : Bool). pick b (giving xs list) (refusing (refusal (of_bytes sheet)) list)) e

  -- the sheet is refused by 1 to 5
  module _ (n : r.number ≡ 0 → ⊥) where
    not-read : eqb (refusal (of_bytes sheet)) 0 ≡ false
    not-read = go (eqb (refusal (of_bytes sheet)) 0) refl
      where
        go : (t : Bool) → eqb (refusal (of_bytes sheet)) 0 ≡ t → eqb (refusal (of_bytes sheet)) 0 ≡ false
        go true e =
            absurd
            (n (ap (λ (a : Answer). a.number) (g.answers ∙ ap (λ (o : Produced). o.answer) (read_is true e ∙ pick_true _ _ _ refl))))
        go false e = e

    given : reading sheet list ≡ refusing (refusal (of_bytes sheet)) list
    given = read_is false not-read ∙ pick-false _ _ _ refl

    pub read-refused : (r.number ≡ refusal (of_bytes sheet)) × (eqb (refusal (of_bytes sheet)) 0 ≡ false)
    read-refused = (ap (λ (a : Answer). a.number) (g.answers ∙ ap (λ (o : Produced). o.answer) given), not-read)

    pub read_none : r.length ≡ 0
    read_none = ap (λ (a : Answer). a.length) (g.answers ∙ ap (λ (o : Produced). o.answer) given) ∙ pick-false _ _ _ not-read

  -- the sheet is read
  module _ (z : r.number ≡ 0) where
    pub read-accepted : refusal (of_bytes sheet) ≡ 0
    read-accepted = go (eqb (refusal (of_bytes sheet)) 0) refl
      where
        go : (t : Bool) → eqb (refusal (of_bytes sheet)) 0 ≡ t → refusal (of_bytes sheet) ≡ 0
        go true e = eqb-true _ 0 e
        go false e =
            sym (ap (λ (a : Answer). a.number) (g.answers ∙ ap (λ (o : Produced). o.answer) (read_is false e ∙ pick-false _ _ _ refl)))
            ∙ z

    gave : reading sheet list ≡ giving xs list
    gave = read_is true (eq-eqb _ 0 read-accepted) ∙ pick_true _ _ _ refl

    count-is : r.length ≡ length xs
    unfolding pick
    count-is = ap (λ (a : Answer). a.length) (g.answers ∙ ap (λ (o : Produced). o.answer) gave)

    -- the sheet's numbers stand at the front of the list
    pub read-front : take r.length front ≡ xs
    read-front = rw (g.outputs ∙ ap (λ (o : Produced). o.output) gave) (take_at xs _ r.length (sym count-is))

    pub read-ends : r.length ≤ length front
    read-ends = rw (g.outputs ∙ ap (λ (o : Produced). o.output) gave) (simp length-append (omega (arith, count-is)))

    pub front-accepted : Accepted (take r.length front)
    front-accepted = rw read-front (bytes-accepted sheet read-accepted)
