-- The counts towards a field, for the settings of every other. Assumes nothing.
use Rattle.std.specs.Prelude.{◌≡◌, ◌⊎◌, Bool, ◌&&◌, List, ℕ, ◌+◌, ◌*◌, ◌≤◌, ◌<◌, ltb, length, get_or, set}
use Rattle.std.proofs.Common.{◌∙◌, inl, inr, ⊎_elim, le_refl, eq-or-lt_of_le, arith, length-set, get_or-set_same, get_or-set_other}
use Rattle.std.proofs.Common.{ltb-true, ltb-false}
use Rattle.std.specs.Int.Bits.{bit_and, bit_xor}
use Rattle.std.proofs.Math.Dec.{eqb}
use Rattle.limits.specs.Limits.{most_fields, counts_words}
use Rattle.masks.specs.Tests.{bool_cases}
use Rattle.masks.specs.Bits.{bit}
use Rattle.masks.specs.Masks.{digit}
use Rattle.masks.specs.Sets.{has}
use Rattle.counter.specs.Digits.{digit_count, counted_word, Away, LoweredWord, RaisedWord, same-words, zero-words, uncounted-bit}

-- Counter[(i, j), a] of Figure 2: how many settings of field j support position a of field i
abbrev pub count_at : List ℕ → ℕ → ℕ → ℕ → ℕ
count_at C j i a = digit_count C (j * counts_words + i) a

-- no word changed but those of the counts towards j
abbrev pub OnlyTowards : ℕ → List ℕ → List ℕ → Type 0
OnlyTowards j C R = (q : ℕ) → ((q < j * counts_words) ⊎ (j * counts_words + counts_words ≤ q)) → get_or R q 0 ≡ get_or C q 0

-- and of these only words of the first `wide` fields
abbrev pub OnlyFirst : ℕ → ℕ → List ℕ → List ℕ → Type 0
OnlyFirst j wide C R = (q : ℕ) → ((i : ℕ) → i < wide → Away (j * counts_words + i) q) → get_or R q 0 ≡ get_or C q 0

-- a set with settings in the first `wide` fields only
pub record First (wide : ℕ) (none : List ℕ) : Type 0 where
  pub long : length none ≡ most_fields
  pub past : (i : ℕ) → wide ≤ i → get_or none i 0 ≡ 0

-- Each count towards j of a setting of s became one less, where it was not 0; `none` are the settings of s whose count is 0 then.
pub record Lowered (C : List ℕ) (j : ℕ) (s : List ℕ) (wide : ℕ) (none R : List ℕ) : Type 0 where
  pub sized : length R ≡ length C
  pub first : First wide none
  pub less : (i a : ℕ) → i < wide → digit (has s i a) ≤ count_at C j i a → count_at R j i a + digit (has s i a) ≡ count_at C j i a
  pub zero : (i a : ℕ) → i < wide → has none i a ≡ (has s i a && eqb (count_at R j i a) 0)
  pub there : OnlyFirst j wide C R

-- Each count towards j of a setting of s became one more, where five digits hold it.
pub record Raised (C : List ℕ) (j : ℕ) (s : List ℕ) (wide : ℕ) (R : List ℕ) : Type 0 where
  pub sized : length R ≡ length C
  pub more : (i a : ℕ) → i < wide → count_at C j i a + digit (has s i a) < 32 → count_at R j i a ≡ count_at C j i a + digit (has s i a)
  pub there : OnlyFirst j wide C R

-- `none` are the settings of d whose count towards j is 0.
pub record Uncounted (C : List ℕ) (j : ℕ) (d : List ℕ) (wide : ℕ) (none : List ℕ) : Type 0 where
  pub first : First wide none
  pub zero : (i a : ℕ) → i < wide → has none i a ≡ (has d i a && eqb (count_at C j i a) 0)

-- ---- counts that are the same

-- with the same words towards j
pub same-counts : (C R : List ℕ) (j i a : ℕ)
    → ((q : ℕ) → j * counts_words ≤ q → q < j * counts_words + counts_words → get_or R q 0 ≡ get_or C q 0)
    → i < most_fields → count_at R j i a ≡ count_at C j i a
same-counts C R j i a e l =
    same-words C R (j * counts_words + i) a (e _ (omega arith) (omega arith)) (e _ (omega arith) (omega arith))
    (e _ (omega arith) (omega arith)) (e _ (omega arith) (omega arith)) (e _ (omega arith) (omega arith))

-- towards every field but j, where only words of the counts towards j changed
pub other-count : (C R : List ℕ) (j g i a : ℕ) → OnlyTowards j C R → (g ≡ j → ⊥) → i < most_fields → count_at R g i a ≡ count_at C g i a
other-count C R j g i a t d l =
    same-counts C R g i a
    (λ q b e. t q (⊎_elim (λ z. let y = ltb-true g j z in inl (omega arith)) (λ z. let y = ltb-false g j z in inr (omega arith))
    (bool_cases (ltb g j)))) l

-- where every word is 0
pub counts-none : (C : List ℕ) → ((q : ℕ) → get_or C q 0 ≡ 0) → (j i a : ℕ) → count_at C j i a ≡ 0
counts-none C e j i a = zero-words C (j * counts_words + i) a e

-- ---- the words of one field after the other

-- a place of field i is none of field k
beside : (b k i m q : ℕ) → k < most_fields → i < most_fields → (i ≡ k → ⊥) → q ≡ b + i + 24 * m → Away (b + k) q
beside b k i m q h l d e = (λ z. omega arith, λ z. omega arith, λ z. omega arith, λ z. omega arith, λ z. omega arith)

-- the counts of every field but k stay where only words of k changed
count-beside : (C R : List ℕ) (j k i a : ℕ) → ((q : ℕ) → Away (j * counts_words + k) q → get_or R q 0 ≡ get_or C q 0)
    → k < most_fields → i < most_fields → (i ≡ k → ⊥) → count_at R j i a ≡ count_at C j i a
count-beside C R j k i a t h l d =
    let b : ℕ = j * counts_words in
    same-words C R (b + i) a (t _ (beside b k i 0 _ h l d (omega arith))) (t _ (beside b k i 1 _ h l d (omega arith)))
    (t _ (beside b k i 2 _ h l d (omega arith))) (t _ (beside b k i 3 _ h l d (omega arith))) (t _ (beside b k i 4 _ h l d (omega arith)))

-- the counts of every field from `wide` on stay where only words of the first changed
count_past : (C R : List ℕ) (j wide i a : ℕ) → OnlyFirst j wide C R → wide ≤ i → i < most_fields → count_at R j i a ≡ count_at C j i a
count_past C R j wide i a t w l =
    let b : ℕ = j * counts_words in
    same-words C R (b + i) a (t _ (λ k h. beside b k i 0 _ (omega arith) l (λ z. omega arith) (omega arith)))
    (t _ (λ k h. beside b k i 1 _ (omega arith) l (λ z. omega arith) (omega arith)))
    (t _ (λ k h. beside b k i 2 _ (omega arith) l (λ z. omega arith) (omega arith)))
    (t _ (λ k h. beside b k i 3 _ (omega arith) l (λ z. omega arith) (omega arith)))
    (t _ (λ k h. beside b k i 4 _ (omega arith) l (λ z. omega arith) (omega arith)))

-- a place outside the counts towards a field is none of theirs
outside : (b k q : ℕ) → k < most_fields → ((q < b) ⊎ (b + counts_words ≤ q)) → Away (b + k) q
outside b k q h (inl z) = (λ y. omega arith, λ y. omega arith, λ y. omega arith, λ y. omega arith, λ y. omega arith)
outside b k q h (inr z) = (λ y. omega arith, λ y. omega arith, λ y. omega arith, λ y. omega arith, λ y. omega arith)

pub only-towards : (C R : List ℕ) (j wide : ℕ) → wide ≤ most_fields → OnlyFirst j wide C R → OnlyTowards j C R
only-towards C R j wide h t q o = t q (λ i l. outside (j * counts_words) i q (omega arith) o)

field-cases : (i k : ℕ) → i < k + 1 → (i ≡ k) ⊎ (i < k)
field-cases i k l = eq-or-lt_of_le (let h : i ≤ k = omega arith in h)

-- one mask more of the settings that pass a test
mask-more : (none : List ℕ) (k r : ℕ) (p : ℕ → ℕ → Bool) → k < length none → ((i a : ℕ) → i < k → has none i a ≡ p i a)
    → ((a : ℕ) → bit r a ≡ p k a) → (i a : ℕ) → i < k + 1 → has (set none k r) i a ≡ p i a
unfolding has
mask-more none k r p h e f i a l =
    ⊎_elim (λ (q : i ≡ k). rw (q, get_or-set_same none k r 0 h) (f a))
    (λ q. rw (get_or-set_other none k i r 0 (λ z. omega arith)) (e i a q)) (field-cases i k l)

first_more : (k r : ℕ) (none : List ℕ) → First k none → First (k + 1) (set none k r)
first_more k r none f = record {
  long = length-set none k r ∙ f.long;
  past = λ i l. get_or-set_other none k i r 0 (λ z. omega arith) ∙ f.past i (omega arith);
}

-- ---- all counts towards j lowered, those of one field after the other

module _ (C : List ℕ) (j : ℕ) (s : List ℕ) (k r : ℕ) (none R Q : List ℕ) (h : k < most_fields) (p : Lowered C j s k none R)
    (w : LoweredWord R (j * counts_words + k) (get_or s k 0) r Q) where
  lowered-beside : (i a : ℕ) → i < most_fields → (i ≡ k → ⊥) → count_at Q j i a ≡ count_at R j i a
  lowered-beside i a l d = count-beside R Q j k i a w.there h l d

  lowered-here : (a : ℕ) → digit (has s k a) ≤ count_at C j k a → count_at Q j k a + digit (has s k a) ≡ count_at C j k a
  unfolding has
  lowered-here a m = let z = count_past C R j k k a p.there (le_refl k) h in omega (arith, w.less a (omega arith))

  lowered-less : (i a : ℕ) → i < k + 1 → digit (has s i a) ≤ count_at C j i a → count_at Q j i a + digit (has s i a) ≡ count_at C j i a
  lowered-less i a l m =
      ⊎_elim (λ (q : i ≡ k). rw q (lowered-here a (rw q at m)))
      (λ q. rw (lowered-beside i a (omega arith) (λ z. omega arith)) (p.less i a q m)) (field-cases i k l)

  lowered-zero : (i a : ℕ) → i < k + 1 → has (set none k r) i a ≡ (has s i a && eqb (count_at Q j i a) 0)
  unfolding has
  lowered-zero = mask-more none k r (λ i a. has s i a && eqb (count_at Q j i a) 0) (let z = p.first.long in omega arith)
      (λ i a l. rw (lowered-beside i a (omega arith) (λ z. omega arith)) (p.zero i a l)) w.zero

  pub lowered-next : Lowered C j s (k + 1) (set none k r) Q
  lowered-next = record {
    sized = w.sized ∙ p.sized;
    first = first_more k r none p.first;
    less = lowered-less;
    zero = lowered-zero;
    there = λ q o. w.there q (o k (omega arith)) ∙ p.there q (λ i l. o i (omega arith));
  }

-- ---- and raised

module _ (C : List ℕ) (j : ℕ) (s : List ℕ) (k : ℕ) (R Q : List ℕ) (h : k < most_fields) (p : Raised C j s k R)
    (w : RaisedWord R (j * counts_words + k) (get_or s k 0) Q) where
  raised_beside : (i a : ℕ) → i < most_fields → (i ≡ k → ⊥) → count_at Q j i a ≡ count_at R j i a
  raised_beside i a l d = count-beside R Q j k i a w.there h l d

  raised_here : (a : ℕ) → count_at C j k a + digit (has s k a) < 32 → count_at Q j k a ≡ count_at C j k a + digit (has s k a)
  unfolding has
  raised_here a m = let z = count_past C R j k k a p.there (le_refl k) h in omega (arith, w.more a (omega arith))

  raised_more : (i a : ℕ) → i < k + 1 → count_at C j i a + digit (has s i a) < 32 → count_at Q j i a ≡ count_at C j i a + digit (has s i a)
  raised_more i a l m =
      ⊎_elim (λ (q : i ≡ k). rw q (raised_here a (rw q at m)))
      (λ q. raised_beside i a (omega arith) (λ z. omega arith) ∙ p.more i a q m) (field-cases i k l)

  pub raised_next : Raised C j s (k + 1) Q
  raised_next = record {
    sized = w.sized ∙ p.sized;
    more = raised_more;
    there = λ q o. w.there q (o k (omega arith)) ∙ p.there q (λ i l. o i (omega arith));
  }

-- ---- the settings whose count is 0

pub uncounted-next : (C : List ℕ) (j : ℕ) (d : List ℕ) (k r : ℕ) (none : List ℕ) → k < most_fields
    → r ≡ counted_word C (j * counts_words + k)
    → Uncounted C j d k none → Uncounted C j d (k + 1) (set none k (bit_xor (get_or d k 0) (bit_and (get_or d k 0) r)))
unfolding has
uncounted-next C j d k r none h e p = record {
  first = first_more k _ none p.first;
  zero = mask-more none k _ (λ i a. has d i a && eqb (count_at C j i a) 0) (let z = p.first.long in omega arith) p.zero
      (λ a. rw e (uncounted-bit C (j * counts_words + k) (get_or d k 0) a));
}
