-- Lists of causes: the first that applies in one list, and in two that are joined. Assumes nothing.
use Rattle.std.specs.Prelude.{◌≡◌, refl, Bool, true, List, [], ◌∷◌, ◌++◌, ℕ, eqb}
use Rattle.std.proofs.Common.{sym, ◌∙◌, ⊎_elim, eq-eqb, ne_eqb, arith}
use Rattle.std.proofs.Math.Bool.{false}
use Rattle.limits.specs.declared.refusals.Refusal.{Refusal}
use Rattle.limits.specs.declared.refusals.Refusal.TheVariants.{EndsInside, IllFormed, OutOfRange, OutOfOrder, Surplus, TooShort}
use Rattle.limits.specs.declared.refusals.Refusal.TheVariants.{Unknown, NoOrder, AddedAgain, NotInForce, NoRoom, NothingPast}
use Rattle.limits.specs.declared.refusals.Refusal.TheVariants.{WipedOut, Malformed, NoSelection, Retired}
use Rattle.limits.specs.Refusals.{number}
use Rattle.masks.specs.Tests.{eq_cases}
use Rattle.masks.specs.Pick.{pick, pick_true, pick-false}
use Rattle.ledger.specs.Ledger.{Cause, because, first}

-- ---- one list

pub first_end : 0 ≡ first []
unfolding first
first_end = refl

pub first-applies : (t : Bool) (k : ℕ) (cs : List Cause) → t ≡ true → k ≡ first (because t k ∷ cs)
unfolding first
first-applies t k cs e = sym (pick_true t k (first cs) e)

pub first_next : (t : Bool) (k : ℕ) (cs : List Cause) {r : ℕ} → t ≡ false → r ≡ first cs → r ≡ first (because t k ∷ cs)
unfolding first
first_next t k cs e q = q ∙ sym (pick-false t k (first cs) e)

-- no cause applies
abbrev pub None : List Cause → Type 0
None [] = Unit {0}
None (c ∷ cs) = (c.applies ≡ false) × None cs

-- no cause that applies has the number k
abbrev pub Avoids : ℕ → List Cause → Type 0
Avoids k [] = Unit {0}
Avoids k (c ∷ cs) = (c.applies ≡ true → c.number ≡ k → ⊥) × Avoids k cs

-- no cause has the number 0
abbrev pub Numbered : List Cause → Type 0
Numbered cs = Avoids 0 cs

pub avoids_++ : (k : ℕ) (cs ds : List Cause) → Avoids k cs → Avoids k ds → Avoids k (cs ++ ds)
avoids_++ k [] ds a b = b
avoids_++ k (c ∷ cs) ds a b = (a.0, avoids_++ k cs ds a.1 b)

pub first_avoids : (k : ℕ) (cs : List Cause) → (◌≡◌ {A = ℕ} 0 k → ⊥) → Avoids k cs → first cs ≡ k → ⊥
unfolding first
first_avoids k [] n a e = n e
first_avoids k (c ∷ cs) n a e = go c.applies refl (first_avoids k cs n a.1) e
  where
    go : (b : Bool) → c.applies ≡ b → (first cs ≡ k → ⊥) → pick b c.number (first cs) ≡ k → ⊥
    go true q ih z = a.0 q (unfold pick in z)
    go false q ih z = ih (unfold pick in z)

pub first-none : (cs : List Cause) → Numbered cs → first cs ≡ 0 → None cs
unfolding first
first-none [] a e = tt
first-none (c ∷ cs) a e = go c.applies refl (first-none cs a.1) e
  where
    go : (b : Bool) → c.applies ≡ b → (first cs ≡ 0 → None cs) → pick b c.number (first cs) ≡ 0 → None (c ∷ cs)
    go true q ih z = absurd (a.0 q (unfold pick in z))
    go false q ih z = (q, ih (unfold pick in z))

-- ---- two lists joined

pub first_++ : (cs ds : List Cause) → Numbered cs → first (cs ++ ds) ≡ pick (eqb (first cs) 0) (first ds) (first cs)
unfolding first pick
first_++ [] ds a = refl
first_++ (c ∷ cs) ds a = go c.applies refl (first_++ cs ds a.1)
  where
    go : (b : Bool) → c.applies ≡ b → first (cs ++ ds) ≡ pick (eqb (first cs) 0) (first ds) (first cs)
        → pick b c.number (first (cs ++ ds)) ≡ pick (eqb (pick b c.number (first cs)) 0) (first ds) (pick b c.number (first cs))
    go true q ih = sym (pick-false _ _ _ (ne_eqb c.number 0 (a.0 q)))
    go false q ih = ih

module _ (cs ds : List Cause) (a : Numbered cs) where
  -- the first list decides
  pub first-here : (k : ℕ) → (k ≡ 0 → ⊥) → k ≡ first cs → k ≡ first (cs ++ ds)
  first-here k n e = e ∙ sym (first_++ cs ds a ∙ pick-false _ _ _ (ne_eqb (first cs) 0 (λ z. n (e ∙ z))))

  -- or the second
  pub first-there : {k : ℕ} → first cs ≡ 0 → k ≡ first ds → k ≡ first (cs ++ ds)
  first-there z e = e ∙ sym (first_++ cs ds a ∙ pick_true _ _ _ (eq-eqb (first cs) 0 z))

  -- neither has a cause that applies
  pub first-both : first (cs ++ ds) ≡ 0 → (first cs ≡ 0) × (first ds ≡ 0)
  first-both e = ⊎_elim
      (λ z. (z, first-there {k = first ds} z refl ∙ e))
      (λ n. absurd (n (first-here (first cs) n refl ∙ e)))
      (eq_cases (first cs) 0)

-- ---- causes that do not decide

-- k is the number of none of them
abbrev pub Misses : ℕ → List Cause → Type 0
Misses k [] = Unit {0}
Misses k (c ∷ cs) = (k ≡ c.number → ⊥) × Misses k cs

pub first_skip : (cs ds : List Cause) → Misses (first (cs ++ ds)) cs → first (cs ++ ds) ≡ first ds
unfolding first pick
first_skip [] ds m = refl
first_skip (c ∷ cs) ds m = go c.applies (first_skip cs ds) m
  where
    go : (b : Bool) → (Misses (first (cs ++ ds)) cs → first (cs ++ ds) ≡ first ds) → Misses (pick b c.number (first (cs ++ ds))) (c ∷ cs)
        → pick b c.number (first (cs ++ ds)) ≡ first ds
    go true ih m = absurd (m.0 (unfold pick in refl))
    go false ih m = unfold pick in ih m.1

-- ---- the number of a refusal is not 0

pub number-some : (r : Refusal) → number r ≡ 0 → ⊥
number-some EndsInside e = omega arith
number-some IllFormed e = omega arith
number-some OutOfRange e = omega arith
number-some OutOfOrder e = omega arith
number-some Surplus e = omega arith
number-some TooShort e = omega arith
number-some Unknown e = omega arith
number-some NoOrder e = omega arith
number-some AddedAgain e = omega arith
number-some NotInForce e = omega arith
number-some NoRoom e = omega arith
number-some NothingPast e = omega arith
number-some WipedOut e = omega arith
number-some Malformed e = omega arith
number-some NoSelection e = omega arith
number-some Retired e = omega arith
