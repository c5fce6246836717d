-- The refusals of a source are 1 to 5. Assumes nothing.
use Rattle.std.specs.Prelude.{Bool, true, false, List, [], ◌∷◌, ℕ, ◌≤◌, Result, Ok, Err}
use Rattle.std.proofs.Common.{arith}
use Rattle.masks.specs.Pick.{pick}
use Rattle.limits.specs.Refusals.{number, number_of}
use Rattle.limits.specs.declared.refusals.Refusal.{Refusal}
use Rattle.grammar.specs.Grammar.{advance, ranged, ordered, start, no_counts, ends_before, at_end}
use Rattle.grammar.specs.declared.grammar.Expected.{Expected}
use Rattle.grammar.specs.declared.grammar.Expected.TheVariants.{Fields, Count, Setting, Reach, Rules, First, Second, Kind, Mask, Amount}
use Rattle.grammar.specs.declared.grammar.Expected.TheVariants.{Triples, TripleFirst, TripleSecond, TripleThird, TripleAmount}
use Rattle.grammar.specs.declared.grammar.State.{State}
use Rattle.grammar.specs.declared.grammar.State.TheVariants.{Wants, Complete}
use Rattle.sheet.specs.Sources.{Item, num, cut, ill, meets, led, refusal_from, refusal}

meets-few : (st : State) (f : ℕ → Expected → ℕ) → ((n : ℕ) (e : Expected) → f n e ≤ 5) → meets st f ≤ 5
meets-few (Wants n e) f h = h n e
meets-few Complete f h = omega arith

led-few : (r : Result State Refusal) (f : State → ℕ) → number_of r ≤ 5 → ((t : State) → f t ≤ 5) → led r f number ≤ 5
led-few (Ok t) f p h = h t
led-few (Err r) f p h = p

-- a number is out of its range or out of order
ranged-few : (t : Bool) (r : Result State Refusal) → number_of r ≤ 5 → number_of (ranged t r) ≤ 5
unfolding pick
ranged-few true r h = h
ranged-few false r h = omega arith

ordered-few : (t : Bool) (r : Result State Refusal) → number_of r ≤ 5 → number_of (ordered t r) ≤ 5
unfolding pick
ordered-few true r h = h
ordered-few false r h = omega arith

advance-few : (n : ℕ) (e : Expected) (ds : List ℕ) (x : ℕ) → number_of (advance n e ds x).0 ≤ 5
unfolding advance
advance-few n Fields ds x = ranged-few _ _ (omega arith)
advance-few n (Count f) ds x = ranged-few _ _ (omega arith)
advance-few n (Setting f more floor) ds x = ranged-few _ _ (ordered-few _ _ (omega arith))
advance-few n Reach ds x = ranged-few _ _ (omega arith)
advance-few n Rules ds x = ranged-few _ _ (omega arith)
advance-few n (First rules floor) ds x = ranged-few _ _ (omega arith)
advance-few n (Second rules floor i) ds x = ranged-few _ _ (ordered-few _ _ (omega arith))
advance-few n (Kind rules i j) ds x = ranged-few _ _ (omega arith)
advance-few n (Mask rules floor j more) ds x = ranged-few _ _ (omega arith)
advance-few n (Amount rules floor) ds x = ranged-few _ _ (omega arith)
advance-few n Triples ds x = ranged-few _ _ (omega arith)
advance-few n (TripleFirst triples floor) ds x = ranged-few _ _ (omega arith)
advance-few n (TripleSecond triples floor i) ds x = ranged-few _ _ (ordered-few _ _ (omega arith))
advance-few n (TripleThird triples floor i j) ds x = ranged-few _ _ (ordered-few _ _ (omega arith))
advance-few n (TripleAmount triples floor) ds x = ranged-few _ _ (omega arith)

before-few : (e : Expected) → number_of (ends_before e) ≤ 5
before-few Fields = omega arith
before-few (Count f) = omega arith
before-few (Setting f more floor) = omega arith
before-few Reach = omega arith
before-few Rules = omega arith
before-few (First rules floor) = omega arith
before-few (Second rules floor i) = omega arith
before-few (Kind rules i j) = omega arith
before-few (Mask rules floor j more) = omega arith
before-few (Amount rules floor) = omega arith
before-few Triples = omega arith
before-few (TripleFirst triples floor) = omega arith
before-few (TripleSecond triples floor i) = omega arith
before-few (TripleThird triples floor i j) = omega arith
before-few (TripleAmount triples floor) = omega arith

end_few : (st : State) → number_of (at_end st) ≤ 5
end_few (Wants n e) = before-few e
end_few Complete = omega arith

refusal_from-few : (st : State) (ds : List ℕ) (is : List Item) → refusal_from st ds is ≤ 5
unfolding refusal_from
refusal_from-few st ds [] = end_few st
refusal_from-few st ds (num x ∷ is) =
    meets-few st _ (λ n e. led-few (advance n e ds x).0 _ (advance-few n e ds x) (λ t. refusal_from-few t (advance n e ds x).1 is))
refusal_from-few st ds (cut ∷ is) = meets-few st _ (λ n e. omega arith)
refusal_from-few st ds (ill ∷ is) = meets-few st _ (λ n e. omega arith)

pub refusal-few : (is : List Item) → refusal is ≤ 5
refusal-few is = refusal_from-few start no_counts is
