-- What an accepted source is: numbers alone; and what accepts a number. Assumes nothing.
use Rattle.std.specs.Prelude.{◌≡◌, refl, ◌⊎◌, Bool, true, false, ◌&&◌, List, [], ◌∷◌, ℕ, ◌≤◌, leb, Result, Ok, Err}
use Rattle.std.proofs.Common.{sym, ap, ◌∙◌, inl, inr, arith, leb-true}
use Rattle.masks.specs.Pick.{pick}
use Rattle.limits.specs.Refusals.{number}
use Rattle.limits.specs.declared.refusals.Refusal.{Refusal}
use Rattle.grammar.specs.Grammar.{ranged, ordered, up_to, advance, start, no_counts}
use Rattle.grammar.specs.declared.grammar.Expected.{Expected}
use Rattle.grammar.specs.declared.grammar.State.{State}
use Rattle.grammar.specs.declared.grammar.State.TheVariants.{Wants, Complete}
use Rattle.sheet.specs.Sources.{Item, num, cut, ill, meets, led, refusal_from, refusal_after, refusal, numbers, of_numbers, of_bytes}
use Rattle.sheet.specs.Sources.{Accepted, AcceptedBytes}
use Rattle.sheet.specs.Progress.{number-some}

-- ---- a test on the way to acceptance

pub ranged_in : (t : Bool) (next : Result State Refusal) (ds : List ℕ) (is : List Item) → refusal_after (ranged t next) ds is ≡ 0
    → (t ≡ true) × (refusal_after next ds is ≡ 0)
unfolding pick
ranged_in true next ds is e = (refl, e)
ranged_in false next ds is e = absurd (omega (arith, e))

pub ordered_in : (t : Bool) (next : Result State Refusal) (ds : List ℕ) (is : List Item) → refusal_after (ordered t next) ds is ≡ 0
    → (t ≡ true) × (refusal_after next ds is ≡ 0)
unfolding pick
ordered_in true next ds is e = (refl, e)
ordered_in false next ds is e = absurd (omega (arith, e))

pub pick_in : (t : Bool) (a b : State) (ds : List ℕ) (is : List Item) → refusal_from (pick t a b) ds is ≡ 0
    → ((t ≡ true) × (refusal_from a ds is ≡ 0)) ⊎ ((t ≡ false) × (refusal_from b ds is ≡ 0))
unfolding pick
pick_in true a b ds is e = inl (refl, e)
pick_in false a b ds is e = inr (refl, e)

pub both : (s t : Bool) → (s && t) ≡ true → (s ≡ true) × (t ≡ true)
both true t e = (refl, e)
both false t e = let y : ◌≡◌ {A = ℕ} 0 1 = cc in absurd (omega arith)

pub up_to-le : (most x : ℕ) → up_to most x ≡ true → (1 ≤ x) × (x ≤ most)
up_to-le most x e = let b = both (leb 1 x) (leb x most) e in (leb-true 1 x b.0, leb-true x most b.1)

-- ---- an accepted source has numbers alone

-- an item that is accepted meets a state that expects it
accepted-meets : (st : State) (f : ℕ → Expected → ℕ) → meets st f ≡ 0 → (n : ℕ) × (e : Expected) × (f n e ≡ 0)
accepted-meets (Wants n e) f q = (n, e, q)
accepted-meets Complete f q = absurd (omega arith)

-- a number that is accepted leads to a state
accepted-led : (r : Result State Refusal) (f : State → ℕ) → led r f number ≡ 0 → (t : State) × (f t ≡ 0)
accepted-led (Ok t) f q = (t, q)
accepted-led (Err r) f q = absurd (omega (arith, q, number-some r))

only-numbers : (st : State) (ds : List ℕ) (is : List Item) → refusal_from st ds is ≡ 0 → is ≡ of_numbers (numbers is)
unfolding refusal_from numbers
only-numbers st ds [] q = refl
only-numbers st ds (num x ∷ is) q =
    let r = accepted-meets st _ q in
    let t = accepted-led (advance r.0 r.1 ds x).0 _ r.2 in
    ap (λ (js : List Item). num x ∷ js) (only-numbers t.0 (advance r.0 r.1 ds x).1 is t.1)
only-numbers st ds (cut ∷ is) q = let r = (accepted-meets st _ q).2 in absurd (omega arith)
only-numbers st ds (ill ∷ is) q = let r = (accepted-meets st _ q).2 in absurd (omega arith)

pub accepted-numbers : (is : List Item) → refusal is ≡ 0 → is ≡ of_numbers (numbers is)
accepted-numbers is e = only-numbers start no_counts is e

-- Bytes that are accepted have accepted numbers.
pub bytes-accepted : (s : List ℕ) → AcceptedBytes s → Accepted (numbers (of_bytes s))
bytes-accepted s e = sym (ap refusal (accepted-numbers (of_bytes s) e)) ∙ e
