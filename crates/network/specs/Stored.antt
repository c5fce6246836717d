-- A word for each setting, stored in a list of words. Assumes nothing.
use Rattle.std.specs.Prelude.{◌≡◌, refl, ◌⊎◌, List, ℕ, ◌+◌, ◌≤◌, ◌<◌, ltb, length, get_or, take}
use Rattle.std.proofs.Common.{sym, ap, ◌∙◌, inl, inr, ⊎_elim, arith, length-drop}
use Rattle.std.proofs.Common.{ltb-true, ltb-false}
use Rattle.std.proofs.Math.ListN.{length-take, get_or-eq_default}
use Rattle.std.proofs.Math.Seq.{get_or-take, get_or-drop}
use Rattle.limits.specs.Limits.{most_settings, table_words}
use Rattle.masks.specs.Tests.{bool_cases}
use Rattle.network.specs.Tables.{forward_of, turned_of}

-- the words of a list, by their places
unfoldable pub words_of : List ℕ → ℕ → ℕ
words_of w h = get_or w h 0

pub words_of-at : (w : List ℕ) (h : ℕ) → words_of w h ≡ get_or w h 0
unfolding words_of
words_of-at w h = refl

-- The first i words of w stand from `base` on, and nothing changed outside the places there.
pub record Stored (T0 : List ℕ) (base : ℕ) (w : ℕ → ℕ) (i : ℕ) (T : List ℕ) : Type 0 where
  pub sized : length T ≡ length T0
  pub here : (h : ℕ) → h < i → get_or T (base + h) 0 ≡ w h
  pub there : (j : ℕ) → ((j < base) ⊎ (base + most_settings ≤ j)) → get_or T j 0 ≡ get_or T0 j 0

-- ---- in a list that holds both tables

pub table_lengths : (R R0 : List ℕ) → length R ≡ length R0
    → (length (forward_of R) ≡ length (forward_of R0)) × (length (turned_of R) ≡ length (turned_of R0))
unfolding forward_of turned_of
table_lengths R R0 e = (simp length-take (rw e), simp length-drop (rw e))

module _ (R0 R : List ℕ) (base : ℕ) (w : ℕ → ℕ) where
  front : (T : List ℕ) (j : ℕ) → j < table_words → get_or (forward_of T) j 0 ≡ get_or T j 0
  unfolding forward_of
  front T j h = get_or-take table_words T j 0 h

  past : (T : List ℕ) (j : ℕ) → table_words ≤ j → get_or (forward_of T) j 0 ≡ 0
  unfolding forward_of
  past T j h = get_or-eq_default (take table_words T) 0 (simp length-take (omega arith))

  back : (T : List ℕ) (j : ℕ) → get_or (turned_of T) j 0 ≡ get_or T (table_words + j) 0
  unfolding turned_of
  back T j = get_or-drop table_words T j 0

  same : (j : ℕ) → (j < table_words → get_or R j 0 ≡ get_or R0 j 0) → get_or (forward_of R) j 0 ≡ get_or (forward_of R0) j 0
  same j e = ⊎_elim (λ q. let l = ltb-true j table_words q in front R j l ∙ e l ∙ sym (front R0 j l))
      (λ q. let l = ltb-false j table_words q in past R j l ∙ sym (past R0 j l)) (bool_cases (ltb j table_words))

  -- what is stored in the forward table, and leaves the turned one
  pub stored-forward : base + most_settings ≤ table_words → Stored R0 base w most_settings R
      → Stored (forward_of R0) base w most_settings (forward_of R) × ((j : ℕ) → get_or (turned_of R) j 0 ≡ get_or (turned_of R0) j 0)
  stored-forward b p = (
    record {
      sized = (table_lengths R R0 p.sized).0;
      here = λ h l. front R (base + h) (omega arith) ∙ p.here h l;
      there = λ j o. same j (λ _. p.there j o);
    },
    λ j. back R j ∙ p.there (table_words + j) (inr (omega arith)) ∙ sym (back R0 j),
  )

  -- and the other way round
  pub stored-turned : Stored R0 (table_words + base) w most_settings R
      → Stored (turned_of R0) base w most_settings (turned_of R) × ((j : ℕ) → get_or (forward_of R) j 0 ≡ get_or (forward_of R0) j 0)
  stored-turned p = (
    record {
      sized = (table_lengths R R0 p.sized).1;
      here = λ h l. back R (base + h)
          ∙ ap (λ (x : ℕ). get_or R x 0) (let e : table_words + (base + h) ≡ table_words + base + h = omega arith in e) ∙ p.here h l;
      there = λ j o. back R j ∙ p.there (table_words + j) (⊎_elim (λ q. inl (omega arith)) (λ q. inr (omega arith)) o) ∙ sym (back R0 j);
    },
    λ j. same j (λ l. p.there j (inl (omega arith))),
  )

-- Where the rest of the words is given the other way round, what was stored stays stored.
pub stored-then : (T0 T T' : List ℕ) (base : ℕ) (w : ℕ → ℕ) → Stored T0 base w most_settings T → length T' ≡ length T
    → ((j : ℕ) → get_or T' j 0 ≡ get_or T j 0) → Stored T0 base w most_settings T'
stored-then T0 T T' base w p l e =
    record { sized = l ∙ p.sized; here = λ h k. e (base + h) ∙ p.here h k; there = λ j o. e j ∙ p.there j o }

pub stored-before : (T0 T T' : List ℕ) (base : ℕ) (w : ℕ → ℕ) → Stored T base w most_settings T' → length T ≡ length T0
    → ((j : ℕ) → get_or T j 0 ≡ get_or T0 j 0) → Stored T0 base w most_settings T'
stored-before T0 T T' base w p l e = record { sized = p.sized ∙ l; here = p.here; there = λ j o. p.there j o ∙ e j }

-- words that are the same
pub stored_cong : {T0 T : List ℕ} {base : ℕ} {w w' : ℕ → ℕ} → ((h : ℕ) → h < most_settings → w h ≡ w' h) → Stored T0 base w most_settings T
    → Stored T0 base w' most_settings T
stored_cong e p = record { sized = p.sized; here = λ h l. p.here h l ∙ e h l; there = p.there }
