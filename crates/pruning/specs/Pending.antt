-- The removal list from its head on: what has left the set and still counts. Assumes nothing.
use Rattle.std.specs.Prelude.{◌≡◌, Bool, false, not, ◌&&◌, List, ℕ, ◌+◌, ◌≤◌, ◌<◌, eqb, ltb, length}
use Rattle.std.proofs.Math.Path.{sym, ap, ap₂}
use Rattle.std.proofs.Common.{◌∙◌, eq-or-lt_of_le, arith, ltb-true, ltb-false, ne_eqb}
use Rattle.std.proofs.Math.Logic.{⊎_elim}
use Rattle.std.proofs.Math.Bool.{true, and-true, and-false}
use Rattle.std.proofs.Math.ListN.{get_or}
use Rattle.limits.specs.Limits.{most_fields, most_settings}
use Rattle.masks.specs.Tests.{never, not_so, bool_cases, eq_cases}
use Rattle.masks.proofs.Bits.{bit_bound}
use Rattle.masks.specs.Masks.{digit}
use Rattle.masks.specs.Sets.{has, ◌⊆◌, ⊆_trans}
use Rattle.masks.proofs.Sets.{⊆_antisymm, has-only}
use Rattle.masks.specs.Settings.{lose}
use Rattle.masks.proofs.Settings.{lose_⊆, lose-by, lose-at}
use Rattle.counter.specs.Counts.{count_at, Lowered, other-count, only-towards}
use Rattle.removal_list.specs.Count.{Small}
use Rattle.removal_list.specs.Moved.{number_of, number_same, Moved}
use Rattle.pruning.specs.Counting.{how_many, count_below_cong, count_below-one}
use Rattle.pruning.specs.Supports.{supports, Counts}

-- Q is D and what the list L holds from h to its tail t.
pub record Pending (D Q L : List ℕ) (h t : ℕ) : Type 0 where
  pub kept : D ⊆ Q
  pub waits : (p j b : ℕ) → h ≤ p → p < t → b < most_settings → get_or L p 0 ≡ number_of j b → has Q j b ≡ true
  pub rest : (j b : ℕ) → has Q j b ≡ true → has D j b ≡ false → (p : ℕ) × (h ≤ p) × (p < t) × (get_or L p 0 ≡ number_of j b)

-- all that left Q waits
pub pending-start : (Q L0 : List ℕ) (s : ℕ) (D L : List ℕ) (t : ℕ) → Moved Q L0 s D L t → Pending D Q L s t
pending-start Q L0 s D L t m = record {
  kept = m.inside;
  waits = λ p j b h l k e.
      let x = m.nothing_else p h l in
      let s = number_same j b x.0 x.1 k x.2 (sym e ∙ x.3) in
      ap₂ (has Q) s.0 s.1 ∙ x.4;
  rest = m.enters;
}

module _ (D Q L : List ℕ) (h t : ℕ) (w : Pending D Q L h t) where
  -- nothing waits
  pub pending_done : h ≡ t → length D ≡ length Q → D ≡ Q
  pending_done e s = ⊆_antisymm D Q s w.kept (λ f v x. ⊎_elim (λ q. q)
      (λ q. let r = w.rest f v x q in absurd (let l = r.1 in let k = r.2 in omega arith)) (bool_cases (has D f v)))

  -- more settings leave D
  pub pending-moved : (R K : List ℕ) (u : ℕ) → h ≤ t → Moved D L t R K u → Pending R Q K h u
  pending-moved R K u l m = record {
    kept = ⊆_trans R D Q m.inside w.kept;
    waits = λ p j b i k z e. ⊎_elim
        (λ q. let c = ltb-true p t q in w.waits p j b i c z (sym (m.front p c) ∙ e))
        (λ q. let x = m.nothing_else p (ltb-false p t q) k in
        let s = number_same j b x.0 x.1 z x.2 (sym e ∙ x.3) in
        w.kept j b (ap₂ (has D) s.0 s.1 ∙ x.4))
        (bool_cases (ltb p t));
    rest = λ j b x y. ⊎_elim
        (λ q. let r = m.enters j b q y in (r.0, (let c = r.1 in omega arith), r.2, r.3))
        (λ q. let r = w.rest j b x q in
        (r.0, r.1, (let c = r.2 in let d = m.more in omega arith), m.front r.0 r.2 ∙ r.3))
        (bool_cases (has D j b));
  }

  -- the setting at the head is taken
  module _ (j b : ℕ) (l : h < t) (k : b < most_settings) (e : get_or L h 0 ≡ number_of j b) (gone : has D j b ≡ false) (small : Small Q)
      (once : (p q : ℕ) → h ≤ p → p < t → h ≤ q → q < t → get_or L p 0 ≡ get_or L q 0 → p ≡ q) where
    pub taken-there : has Q j b ≡ true
    taken-there = w.waits h j b (omega arith) l k e

    pub pending-take : Pending D (lose Q j b) L (h + 1) t
    unfolding has
    pending-take = record {
      kept = λ f v x. lose-by Q j b f v (w.kept f v x) (λ y z. never x (ap₂ (has D) y z ∙ gone));
      waits = λ p g u i c z d. lose-by Q j b g u (w.waits p g u (omega arith) c z d)
          (λ x y. let s = once p h (omega arith) c (omega arith) l (d ∙ ap₂ number_of x y ∙ sym e) in omega arith);
      rest = λ g u x y.
          let r = w.rest g u (lose_⊆ Q j b g u x) y in
          (r.0, later g u x r.0 r.1 r.3, r.2, r.3);
    }
      where
        later : (g u : ℕ) → has (lose Q j b) g u ≡ true → (p : ℕ) → h ≤ p → get_or L p 0 ≡ number_of g u → h + 1 ≤ p
        later g u x p i d = ⊎_elim
            (λ (q : h ≡ p).
            let s = number_same g u j b (bit_bound most_settings (get_or Q g 0) u (small g) (lose_⊆ Q j b g u x)) k
            (sym d ∙ ap (λ (y : ℕ). get_or L y 0) (sym q) ∙ e) in
            absurd (lose-at Q j b (ap₂ (has (lose Q j b)) (sym s.0) (sym s.1) ∙ x)))
            (λ q. omega arith) (eq-or-lt_of_le i)

-- ---- the counts once (j, b) is taken: those of its support set are one less

has-lose : (Q : List ℕ) (j b g u : ℕ) → has (lose Q j b) g u ≡ (has Q g u && not (eqb g j && eqb u b))
unfolding lose
has-lose Q j b g u = has-only _ Q g u

module _ (n : ℕ) (S C Q : List ℕ) (c : Counts n S C Q) (j b : ℕ) (ln : j < n) (k : b < most_settings) (there : has Q j b ≡ true)
    (few : n ≤ most_fields) (s : List ℕ) (set_of : (i a : ℕ) → i < n → has s i a ≡ supports S j b i a) where
  lost-here : (u : ℕ) → (u ≡ b → ⊥) → has (lose Q j b) j u ≡ has Q j u
  lost-here u d = has-lose Q j b j u ∙ rw (ne_eqb u b d, and-false (eqb j j)) (and-true (has Q j u))

  lost-there : (g u : ℕ) → (g ≡ j → ⊥) → has (lose Q j b) g u ≡ has Q g u
  lost-there g u d = has-lose Q j b g u ∙ rw (ne_eqb g j d) (and-true (has Q g u))

  -- with (j, b) and without it
  pub count-without : (i a : ℕ) → i < n
      → how_many (λ u. has Q j u && supports S j u i a) ≡ how_many (λ u. has (lose Q j b) j u && supports S j u i a) + digit (has s i a)
  count-without i a l =
      count_below-one most_settings (λ u. has Q j u && supports S j u i a) (λ u. has (lose Q j b) j u && supports S j u i a) b k
      (λ u d. ap (λ (x : Bool). x && supports S j u i a) (sym (lost-here u d)))
      (ap (λ (x : Bool). x && supports S j b i a) (not_so (has (lose Q j b) j b) (lose-at Q j b)))
      ∙ ap (λ (x : Bool). how_many (λ u. has (lose Q j b) j u && supports S j u i a) + digit x)
      (ap (λ (x : Bool). x && supports S j b i a) there ∙ sym (set_of i a l))

  module _ (wide : ℕ) (w : n ≤ wide) (most : wide ≤ most_fields) (none R : List ℕ) (r : Lowered C j s wide none R) where
    -- a count is not 0 where it is lowered
    pub count-lowered : (i a : ℕ) → i < n → count_at R j i a + digit (has s i a) ≡ count_at C j i a
    count-lowered i a l =
        r.less i a (omega arith) (let x = c.each j i a ln l in let y = count-without i a l in omega arith)

    pub counts-take : Counts n S R (lose Q j b)
    counts-take = record {
      sized = r.sized ∙ c.sized;
      each = λ g i a x y. ⊎_elim
          (λ q. rw q (let z = count-lowered i a y in let u = c.each j i a ln y in let v = count-without i a y in omega arith))
          (λ q. other-count C R j g i a (only-towards C R j wide most r.there) q (omega arith) ∙ c.each g i a x y
          ∙ count_below_cong most_settings _ _ (λ u _. ap (λ (z : Bool). z && supports S g u i a) (sym (lost-there g u q))))
          (eq_cases g j);
    }
