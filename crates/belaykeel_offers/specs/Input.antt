-- The first bytes of an input decide it: a sheet has at most 8,184 numbers of at most four bytes, and the number after them is the last
-- that is looked at. So the program reads 32,768 bytes and no more. Assumes nothing.
use Rattle.std.specs.Prelude.{◌≡◌, refl, Bool, true, false, ◌&&◌, List, [], ◌∷◌, ℕ, zero, suc, ◌+◌, ◌-◌, ◌*◌, ◌<◌, ◌≤◌, ltb, eqb, length}
use Rattle.std.specs.Prelude.{take, drop, Result, Ok, Err}
use Rattle.std.proofs.Common.{sym, ap, ◌∙◌, ⊎_elim, arith, take-take, take_all, length-take-le, ltb-true, ltb-false}
use Rattle.masks.specs.Pick.{pick}
use Rattle.limits.specs.Limits.{most_fields, most_numbers}
use Rattle.limits.specs.Refusals.{SURPLUS}
use Rattle.limits.specs.declared.refusals.Refusal.{Refusal}
use Rattle.limits.specs.declared.refusals.Refusal.TheVariants.{IllFormed}
use Rattle.groups.specs.Groups.{groups, number_at, last_group, groups-number, groups_nothing, groups-empty, found}
use Rattle.sheet.specs.Sources.{Item, num, cut, ill, refusal_from, refusal_after, refusal, items_from, of_bytes}
use Rattle.sheet.specs.Items.{from-num, from-fault}
use Rattle.grammar.specs.Grammar.{advance, start, no_counts}
use Rattle.accepted.specs.Theorems.{most-sheet-bytes}
use Rattle.groups.specs.declared.groups.Number.{Number}
use Rattle.grammar.specs.declared.grammar.State.{State}
use Rattle.grammar.specs.declared.grammar.State.TheVariants.{Wants, Complete}
use Rattle.belaykeel_offers.specs.Remaining.{Fits, FitsAfter, some, fits-advance, low-none}

-- ---- a number is decided by four bytes

front : (i k m : ℕ) (l : List ℕ) → i + m ≤ k → take m (drop i (take k l)) ≡ take m (drop i l)
front zero k m l h = take-take m k l (omega arith)
front (suc i) zero m l h = absurd (omega arith)
front (suc i) (suc k) m [] h = refl
front (suc i) (suc k) m (x ∷ l) h = front i k m l (omega arith)

groups-front : (left w v at : ℕ) (l : List ℕ) → groups left w v at (take left l) ≡ groups left w v at l
unfolding groups
groups-front zero w v at l = refl
groups-front (suc left) w v at [] = refl
groups-front (suc left) w v at (b ∷ l) =
    ap
    (λ (r : Result Number Refusal).
    pick (ltb b 128) (last_group (ltb 1 w && eqb b 0) (v + w * b) (at + 1)) (pick (ltb b 256) r (Err IllFormed)))
    (groups-front left (w * 128) (v + w * (b - 128)) (at + 1) l)

groups-within : (left w v at x next : ℕ) (l : List ℕ) → groups left w v at l ≡ found x next → next ≤ at + left
groups-within zero w v at x next l e = absurd (groups_nothing w v at x next l e)
groups-within (suc left) w v at x next [] e = absurd (groups-empty (suc left) w v at x next e)
groups-within (suc left) w v at x next (b ∷ l) e =
    ⊎_elim (λ r. let q = r.3 in omega arith)
    (λ r. let q = groups-within left (w * 128) (v + w * (b - 128)) (at + 1) x next l r.2 in omega arith)
    (groups-number left w v at b x next l e)

number-front : (s : List ℕ) (k at : ℕ) → at + 4 ≤ k → number_at (take k s) at ≡ number_at s at
unfolding number_at
number-front s k at h =
    sym (groups-front 4 1 0 at (drop at (take k s))) ∙ ap (groups 4 1 0 at) (front at k 4 s h) ∙ groups-front 4 1 0 at (drop at s)

number-within : (s : List ℕ) (at x next : ℕ) → number_at s at ≡ found x next → next ≤ at + 4
unfolding number_at
number-within s at x next e = groups-within 4 1 0 at x next (drop at s) e

-- ---- sources that have the same first b items and one more, or are the same

data Agree : ℕ → List Item → List Item → Type 0 where
  alike : {b : ℕ} {is : List Item} → Agree b is is
  more : {i j : Item} {is js : List Item} → Agree 0 (i ∷ is) (j ∷ js)
  then : {b : ℕ} {i : Item} {is js : List Item} → Agree b is js → Agree (suc b) (i ∷ is) (i ∷ js)

-- from a place on, where what follows a number agrees
agree_at : (b : ℕ) (s : List ℕ) (k at : ℕ) → at + 4 ≤ k → k ≤ length s
    → ((x next : ℕ) → next ≤ at + 4 → Agree b (num x ∷ items_from (take k s) next) (num x ∷ items_from s next))
    → Agree b (items_from (take k s) at) (items_from s at)
agree_at b s k at h l rest = by (number_at s at) refl
  where
    size : length (take k s) ≡ k
    size = length-take-le k s l

    by : (r : Result Number Refusal) → number_at s at ≡ r → Agree b (items_from (take k s) at) (items_from s at)
    by (Ok n) e =
        rw (
          from-num (take k s) at n.value n.next (omega (arith, size)) (number-front s k at h ∙ e),
          from-num s at n.value n.next (omega arith) e,
        )
        (rest n.value n.next (number-within s at n.value n.next e))
    by (Err r) e =
        rw (from-fault (take k s) at r (omega (arith, size)) (number-front s k at h ∙ e), from-fault s at r (omega arith) e) alike

agree : (b : ℕ) (s : List ℕ) (k at : ℕ) → at + 4 * suc b ≤ k → k ≤ length s → Agree b (items_from (take k s) at) (items_from s at)
agree zero s k at h l = agree_at 0 s k at (omega arith) l (λ x next q. more)
agree (suc b) s k at h l = agree_at (suc b) s k at (omega arith) l (λ x next q. then (agree b s k next (omega arith) l))

-- ---- the first bytes decide

-- where no number may come, what follows is refused whatever it is
past : State → ℕ
past (Wants n e) = 0
past Complete = SURPLUS

judged-past : (st : State) (ds : List ℕ) (i : Item) (is : List Item) → Fits 0 st ds → refusal_from st ds (i ∷ is) ≡ past st
unfolding refusal_from past
judged-past (Wants n e) ds i is h = absurd (let l = some n e in let k = h.0 in omega arith)
judged-past Complete ds (num x) is h = refl
judged-past Complete ds cut is h = refl
judged-past Complete ds ill is h = refl

-- so after a number
alike-after : (b : ℕ) (r : Result State Refusal) (ds : List ℕ) (is js : List Item) → FitsAfter b r ds
    → ((t : State) → Fits b t ds → refusal_from t ds is ≡ refusal_from t ds js) → refusal_after r ds is ≡ refusal_after r ds js
alike-after b (Ok t) ds is js h f = f t h
alike-after b (Err r) ds is js h f = refl

judged-alike : (b : ℕ) (st : State) (ds : List ℕ) (is js : List Item) → Fits b st ds → Agree b is js
    → refusal_from st ds is ≡ refusal_from st ds js
unfolding refusal_from
judged-alike b st ds is js h alike = refl
judged-alike b st ds is js h (more {i = i} {j = j} {is = is'} {js = js'}) =
    judged-past st ds i is' h ∙ sym (judged-past st ds j js' h)
judged-alike b (Wants n e) ds is js h (then {b = c} {i = num x} {is = is'} {js = js'} a) =
    alike-after c (advance n e ds x).0 (advance n e ds x).1 is' js' (fits-advance c n e ds x h)
    (λ t k. judged-alike c t (advance n e ds x).1 is' js' k a)
judged-alike b Complete ds is js h (then {i = num x} a) = refl
judged-alike b st ds is js h (then {i = cut} a) = refl
judged-alike b st ds is js h (then {i = ill} a) = refl

pub first-bytes : (s : List ℕ) (k : ℕ) → 32740 ≤ k → refusal (of_bytes (take k s)) ≡ refusal (of_bytes s)
first-bytes s k h = go (ltb k (length s)) refl
  where
    go : (t : Bool) → ltb k (length s) ≡ t → refusal (of_bytes (take k s)) ≡ refusal (of_bytes s)
    go true e =
        let l = ltb-true k (length s) e in
        judged-alike most_numbers start no_counts _ _ (omega arith, tt, low-none most_fields)
        (agree most_numbers s k 0 (omega arith) (omega arith))
    go false e = ap (λ (l : List ℕ). refusal (of_bytes l)) (take_all k s (ltb-false k (length s) e))

-- how many bytes the program reads
abbrev pub input_bytes : ℕ
input_bytes = 32768

pub long_input : (s : List ℕ) → input_bytes < length s → refusal (of_bytes s) ≡ 0 → ⊥
long_input s l z = omega (arith, most-sheet-bytes s z)
