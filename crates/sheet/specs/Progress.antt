-- The turns of a loop that judges a source, and what its answer makes of a call. Assumes nothing.
use Rattle.std.specs.Prelude.{◌≡◌, refl, false, ℕ, ◌+◌, ◌≤◌, ◌<◌, ◌⊎◌, eqb, drop, get_or, Result, Ok, Err}
use Rattle.std.proofs.Math.Path.{sym, ap, ap₂}
use Rattle.std.proofs.Common.{◌∙◌, ⊎_elim, add-one, arith, length-set, drop_of_length-le, drop-cons}
use mathlib.Core.List.{List, [], ◌∷◌, ◌++◌}
use Rattle.std.proofs.Math.ListN.{length, length-append}
use Rattle.std.proofs.lemmas.List.Edits.{sets}
use borrow.Author.Tests.{le-leb, lt-leb, eq-eqb, ne_eqb}
use Rattle.masks.specs.Pick.{pick, pick_true, pick-false}
use Rattle.groups.specs.Storing.{sets_front}
use Rattle.groups.specs.Groups.{encode}
use Rattle.limits.specs.Refusals.{SURPLUS, TOO_SHORT, number, number_of}
use Rattle.limits.specs.declared.refusals.Refusal.{Refusal}
use Rattle.limits.specs.declared.refusals.Refusal.TheVariants.{EndsInside, IllFormed, Surplus, TooShort}
use Rattle.grammar.specs.Grammar.{advance, at_end}
use Rattle.grammar.specs.declared.grammar.Expected.{Expected}
use Rattle.grammar.specs.declared.grammar.Expected.TheVariants.{Fields, Count, Setting, Reach, Rules, First, Second, Kind, Mask, Amount}
use Rattle.grammar.specs.declared.grammar.Expected.TheVariants.{Triples, TripleFirst, TripleSecond, TripleThird, TripleAmount}
use Rattle.grammar.specs.declared.grammar.State.{State}
use Rattle.grammar.specs.declared.grammar.State.TheVariants.{Wants, Complete}
use Rattle.sheet.specs.Sources.{Item, num, cut, ill, fault, led, refusal_from, refusal, numbers, of_numbers, bytes_of, answered, answer_of}
use Rattle.sheet.specs.Sources.{checked, Produced, produced, refusing, giving, Gives}
use Rattle.sheet.specs.declared.answer.Answer.{Answer}

-- ---- a turn

-- After some items of `all`, with `is` to come: the state, the counts, and how many of the values there are, with `rest` to come.
pub record Going (st : State) (ds : List ℕ) (is all : List Item) (count : ℕ) (rest values : List ℕ) : Type 0 where
  pub judged : refusal_from st ds is ≡ refusal all
  pub size : count + length rest ≡ length values

-- a refusal has a number
pub number-some : (r : Refusal) → 0 < number r
number-some EndsInside = omega arith
number-some r = omega arith

-- after the last triple, where an item follows
pub surplus : (ds : List ℕ) (is : List Item) → 0 < length is → refusal_from Complete ds is ≡ SURPLUS
unfolding refusal_from
surplus ds [] p = absurd (omega arith)
surplus ds (num x ∷ is) p = refl
surplus ds (cut ∷ is) p = refl
surplus ds (ill ∷ is) p = refl

-- where a number is expected and none stands
faulty : (n : ℕ) (e : Expected) (ds : List ℕ) (r : Refusal) → (r ≡ EndsInside) ⊎ (r ≡ IllFormed)
    → refusal_from (Wants n e) ds (fault r ∷ []) ≡ number r
unfolding refusal_from
faulty n e ds r h = ⊎_elim (λ q. rw q refl) (λ q. rw q refl) h

module _ {st : State} {ds : List ℕ} {is all : List Item} {count : ℕ} {rest values : List ℕ} where
  -- a number that is expected, and leads on
  pub going_on : (n : ℕ) (e : Expected) (x : ℕ) (t : State) (js : List Item) (part rest' : List ℕ) → st ≡ Wants n e
      → (advance n e ds x).0 ≡ Ok t → is ≡ num x ∷ js → rest ≡ part ++ rest'
      → Going st ds is all count rest values → Going t (advance n e ds x).1 js all (count + length part) rest' values
  unfolding refusal_from
  going_on n e x t js part rest' p a q r g = record {
    judged =
        sym (ap (λ (l : Result State Refusal). led l (λ u. refusal_from u (advance n e ds x).1 js) number) a)
        ∙ sym (ap₂ (λ (s : State) (l : List Item). refusal_from s ds l) p q) ∙ g.judged;
    size = omega (arith, ap length r, length-append part rest', g.size);
  }

  -- the end, where the source may end
  pub going_end : is ≡ [] → rest ≡ [] → at_end st ≡ Ok tt → Going st ds is all count rest values
      → answer_of (Ok count) ≡ checked all values
  unfolding refusal_from
  going_end p q h g = ap₂ answered (sym (ap number_of h) ∙ sym (ap (refusal_from st ds) p) ∙ g.judged) (omega (arith, ap length q, g.size))

  -- a refusal
  pub going-refused : (r : Refusal) → refusal_from st ds is ≡ number r → Going st ds is all count rest values
      → answer_of (Err r) ≡ checked all values
  unfolding pick
  going-refused r e g =
      let z : refusal all ≡ number r = sym g.judged ∙ e in
      rw (z, ne_eqb (number r) 0 (λ q. absurd (omega (arith, q, number-some r))))

  -- the end, where it may not
  pub going-cut : (r : Refusal) → is ≡ [] → at_end st ≡ Err r → Going st ds is all count rest values
      → answer_of (Err r) ≡ checked all values
  unfolding refusal_from
  going-cut r p h g = going-refused r (ap (refusal_from st ds) p ∙ ap number_of h) g

  -- a number that is expected, and refused
  pub going-not : (n : ℕ) (e : Expected) (x : ℕ) (r : Refusal) (js : List Item) → st ≡ Wants n e
      → (advance n e ds x).0 ≡ Err r → is ≡ num x ∷ js → Going st ds is all count rest values
      → answer_of (Err r) ≡ checked all values
  unfolding refusal_from
  going-not n e x r js p a q g =
      going-refused r
      (ap₂ (λ (s : State) (l : List Item). refusal_from s ds l) p q
      ∙ ap (λ (l : Result State Refusal). led l (λ u. refusal_from u (advance n e ds x).1 js) number) a)
      g

  -- where a number is expected and none stands
  pub going-faulty : (n : ℕ) (e : Expected) (r : Refusal) → st ≡ Wants n e → (r ≡ EndsInside) ⊎ (r ≡ IllFormed) → is ≡ fault r ∷ []
      → Going st ds is all count rest values → answer_of (Err r) ≡ checked all values
  going-faulty n e r p h q g =
      going-refused r (ap₂ (λ (s : State) (l : List Item). refusal_from s ds l) p q ∙ faulty n e ds r h) g

  -- after the last triple, where an item follows
  pub going-surplus : st ≡ Complete → 0 < length is → Going st ds is all count rest values → answer_of (Err Surplus) ≡ checked all values
  going-surplus p h g = going-refused Surplus (ap (λ (s : State). refusal_from s ds is) p ∙ surplus ds is h) g

pub numbers-num : (x : ℕ) (is : List Item) → numbers (num x ∷ is) ≡ x ∷ numbers is
unfolding numbers
numbers-num x is = refl

pub numbers_end : numbers [] ≡ []
unfolding numbers
numbers_end = refl

pub numbers-fault : (r : Refusal) → numbers (fault r ∷ []) ≡ []
unfolding numbers
numbers-fault EndsInside = refl
numbers-fault r = refl

-- ---- a list's numbers from place k on

pub list_next : (xs : List ℕ) (k : ℕ) → k < length xs → drop k xs ≡ get_or xs k 0 ∷ drop (k + 1) xs
list_next xs k h = drop-cons xs k 0 h ∙ ap (λ (i : ℕ). get_or xs k 0 ∷ drop i xs) (sym (add-one k))

pub items-next : (xs : List ℕ) (k : ℕ) → k < length xs → of_numbers (drop k xs) ≡ num (get_or xs k 0) ∷ of_numbers (drop (k + 1) xs)
items-next xs k h = ap of_numbers (list_next xs k h)

pub bytes_next : (xs : List ℕ) (k : ℕ) → k < length xs → bytes_of (drop k xs) ≡ encode (get_or xs k 0) ++ bytes_of (drop (k + 1) xs)
unfolding bytes_of
bytes_next xs k h = ap bytes_of (list_next xs k h)

pub bytes_end : (xs : List ℕ) (k : ℕ) → length xs ≤ k → bytes_of (drop k xs) ≡ []
unfolding bytes_of
bytes_end xs k h = ap bytes_of (drop_of_length-le xs h)

-- ---- a call that checks a source, then the room, and then writes the values; k is the number of what it checks

module _ (k : ℕ) (values before : List ℕ) where
  gives : (o : Produced) (answer : Answer) (after : List ℕ) → produced k values before ≡ o → answer ≡ o.answer → after ≡ o.output
      → Gives (produced k values before) answer after
  gives o answer after q p s =
      record { answers = p ∙ ap (λ (x : Produced). x.answer) (sym q); outputs = s ∙ ap (λ (x : Produced). x.output) (sym q) }

  -- the check refuses
  pub gives-refused : (r : Refusal) → answer_of (Err r) ≡ answered k (length values)
      → Gives (produced k values before) (answer_of (Err r)) before
  unfolding pick
  gives-refused r e =
      let n : number r ≡ k = ap (λ (x : Answer). x.number) e in
      let z : eqb k 0 ≡ false = ne_eqb k 0 (λ q. absurd (omega (arith, q, n, number-some r))) in
      gives (refusing k before) (answer_of (Err r)) before (pick-false _ _ _ z) (ap (λ (i : ℕ). answered i 0) n) refl

  -- what the check finds: the values, as many as it answers
  module _ (count : ℕ) (e : answer_of (Ok count) ≡ answered k (length values)) where
    sound : k ≡ 0
    sound = sym (ap (λ (x : Answer). x.number) e)

    counted : count ≡ length values
    unfolding pick
    counted = ap (λ (x : Answer). x.length) e ∙ pick_true _ _ _ (eq-eqb k 0 sound)

    pub gives-short : length before < count → Gives (produced k values before) (answer_of (Err TooShort)) before
    gives-short h =
        gives (refusing TOO_SHORT before) (answer_of (Err TooShort)) before
        (pick_true _ _ _ (eq-eqb k 0 sound) ∙ pick-false _ _ _ (lt-leb (length values) (length before) (rw counted at h)))
        refl refl

    pub gives-room : count ≤ length before → length values ≤ length before
    gives-room h = rw counted at h

    pub gives-values : (after : List ℕ) → count ≤ length before → after ≡ sets before 0 values
        → Gives (produced k values before) (answer_of (Ok count)) after
    gives-values after h q =
        gives (giving values before) (answer_of (Ok count)) after
        (pick_true _ _ _ (eq-eqb k 0 sound) ∙ pick_true _ _ _ (le-leb (length values) (length before) (gives-room h)))
        (ap (answered 0) counted) (q ∙ sets_front before values (gives-room h))

-- a number leaves as many counts
pub advance-length : (n : ℕ) (e : Expected) (ds : List ℕ) (x : ℕ) → length (advance n e ds x).1 ≡ length ds
unfolding advance
advance-length n Fields ds x = refl
advance-length n (Count f) ds x = length-set ds f x
advance-length n (Setting f more floor) ds x = refl
advance-length n Reach ds x = refl
advance-length n Rules ds x = refl
advance-length n (First rules floor) ds x = refl
advance-length n (Second rules floor i) ds x = refl
advance-length n (Kind rules i j) ds x = refl
advance-length n (Mask rules floor j more) ds x = refl
advance-length n (Amount rules floor) ds x = refl
advance-length n Triples ds x = refl
advance-length n (TripleFirst triples floor) ds x = refl
advance-length n (TripleSecond triples floor i) ds x = refl
advance-length n (TripleThird triples floor i j) ds x = refl
advance-length n (TripleAmount triples floor) ds x = refl
