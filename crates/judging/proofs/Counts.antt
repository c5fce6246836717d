-- What the check cites by itself of an order, and how occurrences and the calls' causes are found. Assumes nothing.
use Rattle.std.specs.Prelude.{◌≡◌, refl, Bool, true, false, List, [], ◌∷◌, ℕ, ◌+◌, ◌<◌, eqb, length, cond, fold, count_by}
use Rattle.std.proofs.Math.Path.{sym}
use Rattle.std.proofs.Common.{◌∙◌, arith}
use Rattle.limits.specs.Limits.{most_events}
use Rattle.limits.specs.Refusals.{ADDED_AGAIN, NOT_IN_FORCE, NO_ROOM}
use Rattle.masks.specs.Masks.{digit}
use Rattle.accepted.specs.declared.outline.Outline.{Outline}
use Rattle.ledger.specs.declared.Event.{Event}
use Rattle.ledger.specs.declared.Call.{Call}
use Rattle.ledger.specs.declared.Call.TheVariants.{Open, Show, Decide, Back, CoilOn}
use Rattle.ledger.specs.Occurrences.{occurrences}
use Rattle.ledger.specs.Ledger.{Ledger, change_of, is_order, because, first, added_again, withdrawn_unheld, change_causes}
use Rattle.ledger.specs.Ledger.{place_causes, step_causes}
use Rattle.ledger.specs.Causes.{first_end, first-here, first-there}
use Rattle.ledger.specs.Orders.{order_wrong_field}
use Rattle.session.specs.declared.Session.{Session}
use Rattle.session.specs.View.{decisions_of, events-counted, view}

-- ---- an order

pub order_refused : (n : ℕ) (order : List ℕ) (f : ℕ) → f < n → (occurrences f order ≡ 1 → ⊥) → is_order n order ≡ false
order_refused n order f h k = sym (order_wrong_field n order f h k)

fold_counts : (f : ℕ) (order : List ℕ) (n : ℕ) → fold (λ m g. m + cond (eqb g f) 1 0) n order ≡ n + occurrences f order
unfolding occurrences
fold_counts f [] n = omega arith
fold_counts f (g ∷ order) n = fold_counts f order (n + cond (eqb g f) 1 0) ∙ go (eqb g f) (occurrences f order)
  where
    go : (t : Bool) (k : ℕ) → n + cond t 1 0 + k ≡ n + (digit t + k)
    go true k = omega arith
    go false k = omega arith

pub occurrences_counted : (f : ℕ) (order : List ℕ) → count_by (λ g. eqb g f) order ≡ occurrences f order
occurrences_counted f order = fold_counts f order 0 ∙ (let z : 0 + occurrences f order ≡ occurrences f order = omega arith in z)

-- ---- the causes of a change, one after the other

module _ (s : Session) (e : Event) (again unheld : Bool)
    (a : again ≡ added_again (change_of e) (decisions_of s.decisions))
    (w : unheld ≡ withdrawn_unheld (change_of e) (decisions_of s.decisions)) where
  pub refused_again : (k : ℕ) → (k ≡ 0 → ⊥) → k ≡ first (because again ADDED_AGAIN ∷ []) → k ≡ first (change_causes e (view s))
  unfolding view
  refused_again k n q = first-here (because _ ADDED_AGAIN ∷ []) _ (λ _ z. omega arith, tt) k n (rw a at q)

  module _ (f : first (because again ADDED_AGAIN ∷ []) ≡ 0) where
    after-again : {k : ℕ} → k ≡ first (because unheld NOT_IN_FORCE ∷ because (eqb (length (view s).events) most_events) NO_ROOM ∷ [])
        → k ≡ first (change_causes e (view s))
    unfolding view
    after-again q = first-there (because _ ADDED_AGAIN ∷ []) _ (λ _ z. omega arith, tt) (rw a at f) (rw w at q)

    pub refused_unheld : (k : ℕ) → (k ≡ 0 → ⊥) → k ≡ first (because unheld NOT_IN_FORCE ∷ []) → k ≡ first (change_causes e (view s))
    refused_unheld k n q = after-again (first-here (because unheld NOT_IN_FORCE ∷ []) _ (λ _ z. omega arith, tt) k n q)

    pub refused_room : (k : ℕ) → first (because unheld NOT_IN_FORCE ∷ []) ≡ 0
        → k ≡ first (because (eqb s.count most_events) NO_ROOM ∷ []) → k ≡ first (change_causes e (view s))
    refused_room k g q = after-again (first-there (because unheld NOT_IN_FORCE ∷ []) _ (λ _ z. omega arith, tt) g
        (rw (events-counted s most_events) q))

-- ---- calls without a cause

pub no_place : (o : Outline) (c : Call) → ((e : Event) → c ≡ Decide e → ⊥) → 0 ≡ first (place_causes o c)
no_place o (Open selected) n = first_end
no_place o Show n = first_end
no_place o (Decide e) n = absurd (n e refl)
no_place o Back n = first_end
no_place o CoilOn n = first_end

pub no_step : (c : Call) (l : Ledger) → ((e : Event) → c ≡ Decide e → ⊥) → (c ≡ Back → ⊥) → 0 ≡ first (step_causes c l)
no_step (Open selected) l n m = first_end
no_step Show l n m = first_end
no_step (Decide e) l n m = absurd (n e refl)
no_step Back l n m = absurd (m refl)
no_step CoilOn l n m = first_end
