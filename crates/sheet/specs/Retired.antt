-- The turns of the loop that checks a list for the writer, which refuses the retired kind too. Assumes nothing.
use Rattle.std.specs.Prelude.{◌≡◌, refl, Bool, false, ◌||◌, ℕ, ◌+◌, ◌<◌, ◌≤◌, length, drop, get_or, Result, Ok, Err}
use Rattle.std.proofs.Math.Path.{sym, ap₂}
use Rattle.std.proofs.Common.{ap, ◌∙◌, arith, drop_of_length-le}
use Rattle.std.proofs.Math.Bool.{true}
use mathlib.Core.List.{List, [], ◌∷◌}
use Rattle.masks.specs.Pick.{pick, pick_true, pick-false}
use Rattle.masks.specs.Tests.{or_l}
use Rattle.limits.specs.Refusals.{RETIRED}
use Rattle.limits.specs.declared.refusals.Refusal.{Refusal}
use Rattle.limits.specs.declared.refusals.Refusal.TheVariants.{Surplus, Retired}
use Rattle.groups.specs.Groups.{encode}
use Rattle.grammar.specs.Grammar.{advance, at_end}
use Rattle.grammar.specs.declared.grammar.Expected.{Expected}
use Rattle.grammar.specs.declared.grammar.State.{State}
use Rattle.grammar.specs.declared.grammar.State.TheVariants.{Wants, Complete}
use Rattle.sheet.specs.Sources.{of_numbers, bytes_of, is_retired, retired_from, retired_after, retired, answered, answer_of, checked}
use Rattle.sheet.specs.Sources.{checked_list}
use Rattle.sheet.specs.Progress.{Going, going_on, going_end, going-cut, going-not, going-surplus, list_next, items-next}
use Rattle.sheet.specs.Progress.{bytes_next, bytes_end}
use Rattle.sheet.specs.declared.answer.Answer.{Answer}

-- ---- one number

-- the retired kind, and another number
retired-met : (n : ℕ) (e : Expected) (ds : List ℕ) (x : ℕ) (xs : List ℕ) → is_retired e x ≡ true
    → retired_from (Wants n e) ds (x ∷ xs) ≡ true
unfolding retired_from
retired-met n e ds x xs h = or_l (is_retired e x) _ h

pub retired-on : (n : ℕ) (e : Expected) (ds : List ℕ) (x : ℕ) (xs : List ℕ) → is_retired e x ≡ false
    → retired_from (Wants n e) ds (x ∷ xs) ≡ retired_after (advance n e ds x).0 (advance n e ds x).1 xs
unfolding retired_from
retired-on n e ds x xs h = ap (λ (b : Bool). b || retired_after (advance n e ds x).0 (advance n e ds x).1 xs) h

-- no number
retired-none : (st : State) (ds : List ℕ) → retired_from st ds [] ≡ false
unfolding retired_from
retired-none st ds = refl

-- after the last triple
pub retired-surplus : (ds xs : List ℕ) → retired_from Complete ds xs ≡ false
unfolding retired_from
retired-surplus ds [] = refl
retired-surplus ds (x ∷ xs) = refl

-- ---- a turn

-- After k numbers of the list xs: the state, the counts, and how many bytes there are.
pub record Passing (st : State) (ds xs : List ℕ) (k count : ℕ) : Type 0 where
  pub going : Going st ds (of_numbers (drop k xs)) (of_numbers xs) count (bytes_of (drop k xs)) (bytes_of xs)
  pub meets-retired : retired_from st ds (drop k xs) ≡ retired xs

-- where none is met, the grammar decides
unretired : (xs : List ℕ) {a : Answer} → retired xs ≡ false → a ≡ checked (of_numbers xs) (bytes_of xs) → a ≡ checked_list xs
unretired xs h e = e ∙ ap (λ (k : ℕ). answered k (length (bytes_of xs))) (sym (pick-false (retired xs) RETIRED _ h))

module _ {st : State} {ds xs : List ℕ} {k count : ℕ} where
  -- a number that is expected, is no retired kind, and leads on
  pub passing-on : (n : ℕ) (e : Expected) (t : State) → st ≡ Wants n e → k < length xs → is_retired e (get_or xs k 0) ≡ false
      → (advance n e ds (get_or xs k 0)).0 ≡ Ok t → Passing st ds xs k count
      → let x = get_or xs k 0 in Passing t (advance n e ds x).1 xs (k + 1) (count + length (encode x))
  passing-on n e t p h q a g = record {
    going = going_on n e (get_or xs k 0) t (of_numbers (drop (k + 1) xs)) (encode (get_or xs k 0)) (bytes_of (drop (k + 1) xs)) p a
        (items-next xs k h) (bytes_next xs k h) g.going;
    meets-retired =
        sym (ap (λ (r : Result State Refusal). retired_after r (advance n e ds (get_or xs k 0)).1 (drop (k + 1) xs)) a)
        ∙ sym (retired-on n e ds (get_or xs k 0) (drop (k + 1) xs) q)
        ∙ sym (ap₂ (λ (s : State) (l : List ℕ). retired_from s ds l) p (list_next xs k h)) ∙ g.meets-retired;
  }

  -- a number that is expected, is no retired kind, and is refused
  pub passing-not : (n : ℕ) (e : Expected) (r : Refusal) → st ≡ Wants n e → k < length xs → is_retired e (get_or xs k 0) ≡ false
      → (advance n e ds (get_or xs k 0)).0 ≡ Err r → Passing st ds xs k count → answer_of (Err r) ≡ checked_list xs
  passing-not n e r p h q a g =
      unretired xs
      (sym g.meets-retired ∙ ap₂ (λ (s : State) (l : List ℕ). retired_from s ds l) p (list_next xs k h)
      ∙ retired-on n e ds (get_or xs k 0) (drop (k + 1) xs) q
      ∙ ap (λ (r : Result State Refusal). retired_after r (advance n e ds (get_or xs k 0)).1 (drop (k + 1) xs)) a)
      (going-not n e (get_or xs k 0) r (of_numbers (drop (k + 1) xs)) p a (items-next xs k h) g.going)

  -- the retired kind
  pub passing-retired : (n : ℕ) (e : Expected) → st ≡ Wants n e → k < length xs → is_retired e (get_or xs k 0) ≡ true
      → Passing st ds xs k count → answer_of (Err Retired) ≡ checked_list xs
  unfolding pick
  passing-retired n e p h q g =
      let z : retired xs ≡ true =
      sym g.meets-retired ∙ ap₂ (λ (s : State) (l : List ℕ). retired_from s ds l) p (list_next xs k h)
      ∙ retired-met n e ds (get_or xs k 0) (drop (k + 1) xs) q in
      sym (ap (λ (i : ℕ). answered i (length (bytes_of xs))) (pick_true (retired xs) RETIRED _ z))

  -- after the last triple, where a number follows
  pub passing-surplus : st ≡ Complete → k < length xs → Passing st ds xs k count → answer_of (Err Surplus) ≡ checked_list xs
  passing-surplus p h g =
      unretired xs (sym g.meets-retired ∙ ap (λ (t : State). retired_from t ds (drop k xs)) p ∙ retired-surplus ds (drop k xs))
      (going-surplus p (omega (arith, ap length (items-next xs k h))) g.going)

  -- the end
  ended : length xs ≤ k → Passing st ds xs k count → retired xs ≡ false
  ended h g = sym g.meets-retired ∙ ap (retired_from st ds) (drop_of_length-le xs h) ∙ retired-none st ds

  pub passing_end : length xs ≤ k → at_end st ≡ Ok tt → Passing st ds xs k count → answer_of (Ok count) ≡ checked_list xs
  passing_end h a g =
      unretired xs (ended h g) (going_end (ap of_numbers (drop_of_length-le xs h)) (bytes_end xs k h) a g.going)

  pub passing-cut : (r : Refusal) → length xs ≤ k → at_end st ≡ Err r → Passing st ds xs k count → answer_of (Err r) ≡ checked_list xs
  passing-cut r h a g = unretired xs (ended h g) (going-cut r (ap of_numbers (drop_of_length-le xs h)) a g.going)
