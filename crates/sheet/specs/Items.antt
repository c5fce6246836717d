-- The items of bytes, one by one. Assumes nothing.
use Rattle.std.specs.Prelude.{◌≡◌, refl, Bool, true, false, List, [], ◌∷◌, ℕ, zero, suc, ◌-◌, ◌≤◌, ◌<◌, ltb, length, Result, Ok, Err}
use Rattle.std.proofs.Common.{sym, ap, ◌∙◌, sub-one, arith, lt-ltb, le-ltb, ltb-true, ltb-false}
use Rattle.masks.specs.Pick.{pick_true, pick-false}
use Rattle.limits.specs.declared.refusals.Refusal.{Refusal}
use Rattle.groups.specs.Groups.{number_at, number-next, found}
use Rattle.groups.specs.declared.groups.Number.{Number}
use Rattle.sheet.specs.Sources.{Item, num, fault, items_by, items, items_from}

items_end : (most : ℕ) (s : List ℕ) (at : ℕ) → length s ≤ at → items most s at ≡ []
unfolding items
items_end zero s at h = refl
items_end (suc most) s at h = pick-false _ _ _ (le-ltb at (length s) h)

items_at : (most : ℕ) (s : List ℕ) (at : ℕ) → 0 < most → at < length s → items most s at ≡ items_by (number_at s at) (items (most - 1) s)
unfolding items
items_at zero s at p h = absurd (omega arith)
items_at (suc most) s at p h = rw sub-one (pick_true _ _ _ (lt-ltb at (length s) h))

-- any bound that is enough serves
items-enough : (f g : ℕ) (s : List ℕ) (at : ℕ) → length s - at ≤ f → length s - at ≤ g → items f s at ≡ items g s at
items-enough zero g s at p q = items_end zero s at (omega arith) ∙ sym (items_end g s at (omega arith))
items-enough (suc f) g s at p q = go (λ next. items-enough f (g - 1) s next) (ltb at (length s)) refl
  where
    by : (r : Result Number Refusal) → at < length s → number_at s at ≡ r
        → ((next : ℕ) → length s - next ≤ f → length s - next ≤ g - 1 → items f s next ≡ items (g - 1) s next)
        → items_by r (items f s) ≡ items_by r (items (g - 1) s)
    by (Ok n) h e ih =
        let b = number-next s at n.value n.next h e in ap (λ (is : List Item). num n.value ∷ is) (ih n.next (omega arith) (omega arith))
    by (Err r) h e ih = refl

    go : ((next : ℕ) → length s - next ≤ f → length s - next ≤ g - 1 → items f s next ≡ items (g - 1) s next)
        → (t : Bool) → ltb at (length s) ≡ t → items (suc f) s at ≡ items g s at
    go ih true e =
        let h = ltb-true at (length s) e in
        items_at (suc f) s at (omega arith) h
        ∙ rw sub-one (by (number_at s at) h refl ih)
        ∙ sym (items_at g s at (omega arith) h)
    go ih false e = let h = ltb-false at (length s) e in items_end (suc f) s at h ∙ sym (items_end g s at h)

module _ (s : List ℕ) (at : ℕ) where
  pub from_end : length s ≤ at → items_from s at ≡ []
  from_end h = items_end _ s at h

  pub from-num : (x next : ℕ) → at < length s → number_at s at ≡ found x next → items_from s at ≡ num x ∷ items_from s next
  from-num x next h e =
      let b = number-next s at x next h e in
      items_at (length s - at) s at (omega arith) h
      ∙ rw e (ap (λ (is : List Item). num x ∷ is) (items-enough (length s - at - 1) (length s - next) s next (omega arith) (omega arith)))

  pub from-fault : (r : Refusal) → at < length s → number_at s at ≡ Err r → items_from s at ≡ fault r ∷ []
  from-fault r h e = items_at (length s - at) s at (omega arith) h ∙ rw e

  -- some item stands before the end
  pub from_some : at < length s → 0 < length (items_from s at)
  from_some h = by (number_at s at) refl
    where
      by : (r : Result Number Refusal) → number_at s at ≡ r → 0 < length (items_from s at)
      by (Ok n) e = omega (arith, ap length (from-num n.value n.next h e))
      by (Err r) e = omega (arith, ap length (from-fault r h e))
