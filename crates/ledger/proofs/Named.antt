-- Every number but 0 that a call gives is that of a refusal. Assumes nothing.
use Rattle.std.specs.Prelude.{◌≡◌, refl, Bool, true, false, not, List, [], ◌∷◌, ◌++◌, ℕ, zero, suc, ◌≤◌}
use Rattle.std.proofs.Common.{ap, eq-eqb}
use native.Mathlib.Omega.{arith}
use Rattle.limits.specs.Refusals as Refusals
use Rattle.limits.specs.declared.refusals.Refusal.{Refusal}
use Rattle.limits.specs.declared.refusals.Refusal.TheVariants.{EndsInside, IllFormed, OutOfRange, OutOfOrder, Surplus, TooShort}
use Rattle.limits.specs.declared.refusals.Refusal.TheVariants.{Unknown, NoOrder, AddedAgain, NotInForce, NoRoom, NothingPast}
use Rattle.limits.specs.declared.refusals.Refusal.TheVariants.{WipedOut, Malformed, NoSelection}
use Rattle.masks.specs.Pick.{pick}
use Rattle.masks.specs.Tests.{never}
use Rattle.sheet.specs.Sources.{refusal, numbers, of_bytes}
use Rattle.accepted.specs.declared.outline.Outline.{Outline}
use Rattle.accepted.specs.Outline.{outline_of}
use Rattle.accepted.specs.Refused.{refusal-few}
use Rattle.ledger.specs.declared.Call.{Call}
use Rattle.ledger.specs.declared.Call.TheVariants.{Open, Show, Decide, Back, CoilOn}
use Rattle.ledger.specs.Ledger.{Ledger, Given, Cause, first, step, sheet_causes, session_causes, place_causes, step_causes, judged}
use Rattle.ledger.specs.Ledger.{offers_causes, causes, number}

-- k is the number of a refusal
abbrev pub IsNumber : ℕ → Type 0
IsNumber k = (r : Refusal) × (Refusals.number r ≡ k)

-- each cause that applies has the number of a refusal
abbrev Named : List Cause → Type 0
Named [] = Unit {0}
Named (c ∷ cs) = (c.applies ≡ true → IsNumber c.number) × Named cs

named_++ : (cs ds : List Cause) → Named cs → Named ds → Named (cs ++ ds)
named_++ [] ds a b = b
named_++ (c ∷ cs) ds a b = (a.0, named_++ cs ds a.1 b)

first-named : (cs : List Cause) → Named cs → (first cs ≡ 0 → ⊥) → IsNumber (first cs)
unfolding first pick
first-named [] a n = absurd (n refl)
first-named (c ∷ cs) a n = go c.applies refl (first-named cs a.1) n
  where
    go : (b : Bool) → c.applies ≡ b → ((first cs ≡ 0 → ⊥) → IsNumber (first cs)) → (pick b c.number (first cs) ≡ 0 → ⊥)
        → IsNumber (pick b c.number (first cs))
    go true q ih n = a.0 q
    go false q ih n = ih n

-- ---- the causes of a call

few-named : (k : ℕ) → (k ≡ 0 → ⊥) → k ≤ 5 → IsNumber k
few-named zero n h = absurd (n refl)
few-named (suc zero) n h = (EndsInside, refl)
few-named (suc (suc zero)) n h = (IllFormed, refl)
few-named (suc (suc (suc zero))) n h = (OutOfRange, refl)
few-named (suc (suc (suc (suc zero)))) n h = (OutOfOrder, refl)
few-named (suc (suc (suc (suc (suc zero))))) n h = (Surplus, refl)
few-named (suc (suc (suc (suc (suc (suc k)))))) n h = absurd (omega arith)

sheet-named : (sheet : List ℕ) → Named (sheet_causes sheet)
sheet-named sheet = (
  λ e. few-named (refusal (of_bytes sheet)) (λ z. never e (ap not (eq-eqb (refusal (of_bytes sheet)) 0 z))) (refusal-few (of_bytes sheet)),
  tt,
)

session-named : (o : Outline) (c : Call) (l : Ledger) → Named (session_causes o c l)
session-named o (Open selected) l = (λ _. (NoSelection, refl), tt)
session-named o Show l = (λ _. (Malformed, refl), tt)
session-named o (Decide e) l = (λ _. (Malformed, refl), tt)
session-named o Back l = (λ _. (Malformed, refl), tt)
session-named o CoilOn l = (λ _. (Malformed, refl), tt)

place-named : (o : Outline) (c : Call) → Named (place_causes o c)
place-named o (Open selected) = tt
place-named o Show = tt
place-named o (Decide e) = (λ _. (Unknown, refl), tt)
place-named o Back = tt
place-named o CoilOn = tt

step-named : (c : Call) (l : Ledger) → Named (step_causes c l)
step-named (Open selected) l = tt
step-named Show l = tt
step-named (Decide e) l = (λ _. (AddedAgain, refl), (λ _. (NotInForce, refl), (λ _. (NoRoom, refl), tt)))
step-named Back l = (λ _. (NothingPast, refl), tt)
step-named CoilOn l = tt

judged-named : (o : Outline) (c : Call) (engine : ℕ) (order : List ℕ) (l : Ledger) → Named (judged o c engine order l)
unfolding judged
judged-named o c engine order l =
    named_++ (session_causes o c l) _ (session-named o c l)
    (λ _. (Unknown, refl), named_++ (place_causes o c) _ (place-named o c) (λ _. (NoOrder, refl), step-named c l))

causes-named : (g : Given) (c : Call) (l : Ledger) → Named (causes g c l)
unfolding causes
causes-named g c l =
    let o = outline_of (numbers (of_bytes g.sheet)) in (
      λ _. (TooShort, refl),
      (
        (sheet-named g.sheet).0,
        named_++ (judged o c g.engine g.order l) _ (judged-named o c g.engine g.order l)
            (λ _. (WipedOut, refl), tt),
      ),
    )

pub number-named : (g : Given) (c : Call) (l : Ledger) → (number g c l ≡ 0 → ⊥) → IsNumber (number g c l)
unfolding number
number-named g c l n = first-named (causes g c l) (causes-named g c l) n
