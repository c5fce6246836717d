-- What the writer refuses beside what the grammar refuses: a list whose first fault is the retired kind. Assumes nothing.
use Rattle.std.specs.Prelude.{◌≡◌, refl, true, false, List, [], ◌∷◌, ◌++◌, ℕ, Result, Ok, Err}
use Rattle.std.proofs.Common.{sym, ap, ◌∙◌, ⊎_elim, arith, eqb-true}
use Rattle.std.proofs.lemmas.Bool.{false≢true}
use Rattle.masks.specs.Pick.{pick_true, pick-false}
use Rattle.masks.specs.Tests.{not_so, bool_cases, or_r}
use Rattle.limits.specs.Limits.{retired_kind}
use Rattle.limits.specs.Refusals.{RETIRED}
use Rattle.limits.specs.declared.refusals.Refusal.{Refusal}
use Rattle.grammar.specs.Grammar.{advance, start, no_counts}
use Rattle.grammar.specs.declared.grammar.Expected.{Expected}
use Rattle.grammar.specs.declared.grammar.Expected.TheVariants.{Fields, Count, Setting, Reach, Rules, First, Second, Kind, Mask, Amount}
use Rattle.grammar.specs.declared.grammar.Expected.TheVariants.{Triples, TripleFirst, TripleSecond, TripleThird, TripleAmount}
use Rattle.grammar.specs.declared.grammar.State.{State}
use Rattle.grammar.specs.declared.grammar.State.TheVariants.{Wants, Complete}
use Rattle.sheet.specs.Sources.{led, refusal, of_numbers, is_retired, retired_from, retired_after, retired, writer_refusal}
use Rattle.sheet.specs.Sources.{Accepted, Writable}
use Rattle.sheet.specs.Retired.{retired-on}
use Rattle.accepted.specs.Refused.{refusal-few}

-- ---- the first fault

-- where the grammar is after some numbers: a refused one, and what follows the last triple, lead no further
unfoldable pub leads : State → List ℕ → List ℕ → Result State Refusal
leads st ds [] = Ok st
leads (Wants n e) ds (x ∷ xs) = led (advance n e ds x).0 (λ t. leads t (advance n e ds x).1 xs) (λ r. Err r)
leads Complete ds (x ∷ xs) = Ok Complete

-- Of the numbers from a state on, the first at fault is the retired kind: those before it lead to where a kind is expected, with no
-- retired kind among them.
pub record FirstRetired (st : State) (ds xs : List ℕ) : Type 0 where
  pub front : List ℕ
  pub back : List ℕ
  pub split : xs ≡ front ++ (retired_kind ∷ back)
  pub fields : ℕ
  pub rules : ℕ
  pub i : ℕ
  pub j : ℕ
  pub expected : leads st ds front ≡ Ok (Wants fields (Kind rules i j))
  pub none_before : retired_from st ds front ≡ false

-- The first fault of a list is the retired kind.
abbrev pub FirstFaultRetired : List ℕ → Type 0
FirstFaultRetired xs = FirstRetired start no_counts xs

-- this number is the retired kind, or one after it
here : (n : ℕ) (e : Expected) (ds : List ℕ) (x : ℕ) (xs : List ℕ) → is_retired e x ≡ true → FirstRetired (Wants n e) ds (x ∷ xs)
unfolding leads retired_from
here n (Kind rules i j) ds x xs h = record {
  front = [];
  back = xs;
  split = ap (λ (k : ℕ). k ∷ xs) (eqb-true x retired_kind h);
  fields = n;
  rules = rules;
  i = i;
  j = j;
  expected = refl;
  none_before = refl;
}
here n Fields ds x xs h = absurd (false≢true h)
here n (Count f) ds x xs h = absurd (false≢true h)
here n (Setting f more floor) ds x xs h = absurd (false≢true h)
here n Reach ds x xs h = absurd (false≢true h)
here n Rules ds x xs h = absurd (false≢true h)
here n (First rules floor) ds x xs h = absurd (false≢true h)
here n (Second rules floor i) ds x xs h = absurd (false≢true h)
here n (Mask rules floor j more) ds x xs h = absurd (false≢true h)
here n (Amount rules floor) ds x xs h = absurd (false≢true h)
here n Triples ds x xs h = absurd (false≢true h)
here n (TripleFirst triples floor) ds x xs h = absurd (false≢true h)
here n (TripleSecond triples floor i) ds x xs h = absurd (false≢true h)
here n (TripleThird triples floor i j) ds x xs h = absurd (false≢true h)
here n (TripleAmount triples floor) ds x xs h = absurd (false≢true h)

later : (n : ℕ) (e : Expected) (ds : List ℕ) (x : ℕ) (xs : List ℕ) (t : State) → is_retired e x ≡ false → (advance n e ds x).0 ≡ Ok t
    → FirstRetired t (advance n e ds x).1 xs → FirstRetired (Wants n e) ds (x ∷ xs)
unfolding leads retired_from
later n e ds x xs t h a f = record {
  front = x ∷ f.front;
  back = f.back;
  split = ap (λ (l : List ℕ). x ∷ l) f.split;
  fields = f.fields;
  rules = f.rules;
  i = f.i;
  j = f.j;
  expected =
      ap (λ (l : Result State Refusal). led l (λ u. leads u (advance n e ds x).1 f.front) (λ r. Err r)) a ∙ f.expected;
  none_before =
      retired-on n e ds x f.front h
      ∙ ap (λ (l : Result State Refusal). retired_after l (advance n e ds x).1 f.front) a ∙ f.none_before;
}

-- a number leads on to where the retired kind is met
later-led : (n : ℕ) (e : Expected) (ds : List ℕ) (x : ℕ) (xs : List ℕ) (l : Result State Refusal) → is_retired e x ≡ false
    → (advance n e ds x).0 ≡ l
    → ((t : State) → retired_from t (advance n e ds x).1 xs ≡ true → FirstRetired t (advance n e ds x).1 xs)
    → retired_after l (advance n e ds x).1 xs ≡ true → FirstRetired (Wants n e) ds (x ∷ xs)
later-led n e ds x xs (Ok t) h a f m = later n e ds x xs t h a (f t m)
later-led n e ds x xs (Err r) h a f m = absurd (false≢true m)

-- the retired kind is met: it is the first fault
met-first : (st : State) (ds xs : List ℕ) → retired_from st ds xs ≡ true → FirstRetired st ds xs
unfolding retired_from
met-first st ds [] h = absurd (false≢true h)
met-first (Wants n e) ds (x ∷ xs) h =
    ⊎_elim (λ q. here n e ds x xs q)
    (λ q. later-led n e ds x xs (advance n e ds x).0 q refl (λ t. met-first t (advance n e ds x).1 xs)
    (sym (retired-on n e ds x xs q) ∙ h))
    (bool_cases (is_retired e x))
met-first Complete ds (x ∷ xs) h = absurd (false≢true h)

-- where a kind is expected after some numbers, and it is the retired one, that one is met
led-met : (l : Result State Refusal) (st : State) (ds front xs : List ℕ)
    → ((t : State) → leads t ds front ≡ Ok st → retired_from t ds xs ≡ true)
    → led l (λ t. leads t ds front) (λ r. Err r) ≡ Ok st → retired_after l ds xs ≡ true
led-met (Ok t) st ds front xs f h = f t h
led-met (Err r) st ds front xs f h = let z : ◌≡◌ {A = ℕ} 0 1 = cc in absurd (omega arith)

first-met : (st : State) (ds front back : List ℕ) (n rules i j : ℕ) → leads st ds front ≡ Ok (Wants n (Kind rules i j))
    → retired_from st ds (front ++ (retired_kind ∷ back)) ≡ true
unfolding leads retired_from
first-met st ds [] back n rules i j h = let e : st ≡ Wants n (Kind rules i j) = cc in rw e
first-met (Wants m e) ds (x ∷ front) back n rules i j h =
    or_r (is_retired e x) _
    (led-met (advance m e ds x).0 (Wants n (Kind rules i j)) (advance m e ds x).1 front (front ++ (retired_kind ∷ back))
    (λ t. first-met t (advance m e ds x).1 front back n rules i j) h)
first-met Complete ds (x ∷ front) back n rules i j h = let z : ◌≡◌ {A = ℕ} 0 1 = cc in absurd (omega arith)

-- ---- what the writer refuses by 20, and what it writes

module _ (xs : List ℕ) where
  -- A list is refused by 20 just where its first fault is the retired kind.
  pub refused-retired : writer_refusal xs ≡ RETIRED → FirstFaultRetired xs
  refused-retired h =
      met-first start no_counts xs
      (⊎_elim (λ q. q) (λ q. absurd (omega (arith, refusal-few (of_numbers xs), sym (pick-false (retired xs) RETIRED _ q) ∙ h)))
      (bool_cases (retired xs)))

  pub retired-refused : FirstFaultRetired xs → writer_refusal xs ≡ RETIRED
  retired-refused t =
      let m = first-met start no_counts t.front t.back t.fields t.rules t.i t.j t.expected in
      pick_true (retired xs) RETIRED _ (ap retired t.split ∙ m)

  -- What is written is what is accepted and meets no retired kind.
  pub writable_unretired : Writable xs → retired xs ≡ false
  writable_unretired w =
      not_so (retired xs) (λ q. absurd (omega (arith, sym (pick_true (retired xs) RETIRED (refusal (of_numbers xs)) q) ∙ w)))

  pub writable_accepted : Writable xs → Accepted xs
  writable_accepted w = sym (pick-false (retired xs) RETIRED _ (writable_unretired w)) ∙ w

  pub accepted_writable : Accepted xs → retired xs ≡ false → Writable xs
  accepted_writable a h = pick-false (retired xs) RETIRED _ h ∙ a
