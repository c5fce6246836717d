-- The offers are the same by the tests of 02 and by those of Definition 2' (specs/TwoInside.antt), since they are closed over every
-- field. Assumes nothing.
use Rattle.std.specs.Prelude.{◌≡◌, refl, Bool, false, cond, ◌&&◌, length, get_or}
use Rattle.std.proofs.Math.Path.{sym, ap}
use Rattle.std.proofs.Common.{◌∙◌, arith}
use Rattle.std.proofs.Math.Logic.{⊎_elim}
use Rattle.std.proofs.Math.Bool.{true}
use mathlib.Core.List.{List, [], ◌∷◌}
use Prim.Native.Nat.{ℕ, zero, suc, ◌<◌}
use Rattle.masks.specs.Tests.{never, bool_cases, and-by, or_l, or_r}
use Rattle.masks.specs.Bits.{bit}
use Rattle.masks.specs.Sets.{has, ◌⊆◌}
use Rattle.masks.proofs.Settings.{cut_⊆}
use Rattle.consistency.specs.Largest.{IsLargest, IsLargest_iff}
use Rattle.consistency.specs.Problem.{Triple, no_triple, has_field, field-cases, Problem, triple_at, In, all_fields, in_all_fields}
use Rattle.consistency.specs.Triples.{Free, Together, together-from}
use Rattle.consistency.specs.Closing.{Closed}
use Rattle.consistency.specs.Passing.{PassesOver, left}
use Rattle.consistency.proofs.Passing.{witness_at, witness_by}
use Rattle.consistency.specs.Offers.{PartiallyConsistent, offers}
use Rattle.consistency.proofs.Offers.{offers-is}
use Rattle.consistency.specs.TwoInside.{two_in, with_two_in, two_inside, TwoInsideConsistent}

-- ---- a triple that is kept stands in both lists

-- place s of As and place t of Bs have the same triple
abbrev Stands : List Triple → ℕ → List Triple → Type 0
Stands As s Bs = (t : ℕ) × (t < length Bs) × (get_or Bs t no_triple ≡ get_or As s no_triple)

was_next : (b : Bool) (T : Triple) (Ks Ts : List Triple) → ((t : ℕ) → t < length Ks → Stands Ks t Ts)
    → (t : ℕ) → t < length (cond b (T ∷ Ks) Ks) → Stands (cond b (T ∷ Ks) Ks) t (T ∷ Ts)
was_next true T Ks Ts h zero l = (0, omega arith, refl)
was_next true T Ks Ts h (suc t) l = let r = h t (omega arith) in (suc r.0, omega (arith, r.1), r.2)
was_next false T Ks Ts h t l = let r = h t l in (suc r.0, omega (arith, r.1), r.2)

kept_here : (b : Bool) (T : Triple) (Ks Ts : List Triple) → b ≡ true → Stands (T ∷ Ts) 0 (cond b (T ∷ Ks) Ks)
kept_here true T Ks Ts e = (0, omega arith, refl)
kept_here false T Ks Ts e = absurd (never e refl)

kept_there : (b : Bool) (T : Triple) (Ks Ts : List Triple) (s : ℕ) → Stands Ts s Ks → Stands (T ∷ Ts) (suc s) (cond b (T ∷ Ks) Ks)
kept_there true T Ks Ts s r = (suc r.0, omega (arith, r.1), r.2)
kept_there false T Ks Ts s r = r

module _ (W : ℕ) where
  kept_was : (Ts : List Triple) (t : ℕ) → t < length (with_two_in W Ts) → Stands (with_two_in W Ts) t Ts
  unfolding with_two_in
  kept_was [] t l = absurd (omega arith)
  kept_was (T ∷ Ts) t l = was_next (two_in W T) T (with_two_in W Ts) Ts (kept_was Ts) t l

  kept : (Ts : List Triple) (s : ℕ) → s < length Ts → two_in W (get_or Ts s no_triple) ≡ true → Stands Ts s (with_two_in W Ts)
  unfolding with_two_in
  kept [] s l e = absurd (omega arith)
  kept (T ∷ Ts) zero l e = kept_here (two_in W T) T (with_two_in W Ts) Ts e
  kept (T ∷ Ts) (suc s) l e = kept_there (two_in W T) T (with_two_in W Ts) Ts s (kept Ts s (omega arith) e)

  -- of a triple that is not kept at most one field is in W
  only-own : (T : Triple) (f g : ℕ) → two_in W T ≡ false → has_field T f ≡ true → bit W f ≡ true → has_field T g ≡ true → bit W g ≡ true
      → g ≡ f
  unfolding two_in
  only-own T f g n x i y j =
      ⊎_elim (λ a. ⊎_elim (λ b. sym b ∙ a) (⊎_elim (λ b. absurd (one-two (in_f a) (in_g b))) (λ b. absurd (one-three (in_f a) (in_g b))))
      (field-cases T g y))
      (⊎_elim
      (λ a. ⊎_elim (λ b. absurd (one-two (in_g b) (in_f a))) (⊎_elim (λ b. sym b ∙ a) (λ b. absurd (two-three (in_f a) (in_g b))))
      (field-cases T g y))
      (λ a. ⊎_elim (λ b. absurd (one-three (in_g b) (in_f a))) (⊎_elim (λ b. absurd (two-three (in_g b) (in_f a))) (λ b. sym b ∙ a))
      (field-cases T g y)))
      (field-cases T f x)
    where
      in_f : {h : ℕ} → h ≡ f → bit W h ≡ true
      in_f a = ap (bit W) a ∙ i

      in_g : {h : ℕ} → h ≡ g → bit W h ≡ true
      in_g b = ap (bit W) b ∙ j

      one-two : bit W T.first ≡ true → bit W T.second ≡ true → ⊥
      one-two a b = never (or_l _ _ (and-by _ _ a b)) n

      one-three : bit W T.first ≡ true → bit W T.third ≡ true → ⊥
      one-three a b = never (or_r (bit W T.first && bit W T.second) _ (or_l _ _ (and-by _ _ a b))) n

      two-three : bit W T.second ≡ true → bit W T.third ≡ true → ⊥
      two-three a b =
          never (or_r (bit W T.first && bit W T.second) _ (or_r (bit W T.first && bit W T.third) _ (and-by _ _ a b))) n

-- what a field may take depends on the sheet's settings only, not on the rest of the problem
free-same : (P Q : Problem) → P.sheet ≡ Q.sheet → (W : ℕ) (S : List ℕ) (g u : ℕ) → Free P W S g u → Free Q W S g u
free-same P Q e W S g u y = record { listed = ap (λ (Z : List ℕ). has Z g u) (sym e) ∙ y.listed; there = y.there }

-- ---- the tests of the two definitions agree in a set that is closed over every field

module _ (P : Problem) (W : ℕ) (S : List ℕ) (f v : ℕ) where
  abbrev Two : Problem
  Two = two_inside P W

  pub passes-two-inside : PassesOver P W S f v → PassesOver (two_inside P W) W S f v
  passes-two-inside p =
      let w = witness_at P W S f v p in
      witness_by Two W S f v (left P W S f v) (record {
        inside = w.inside;
        shut = λ g u e i. let x = w.shut g u e i in record {
          rules = x.rules;
          triples = λ t l k.
              let s = kept_was W P.triples t l in
              rw (sym s.2) (together-from P Two W W (left P W S f v) (left P W S f v) (triple_at P s.0) g u
              (λ a _ b _. free-same P Two refl W (left P W S f v) a b)
              (x.triples s.0 s.1 (rw (sym s.2) at k)));
        };
        full = w.full;
      })

  module _ (shut : Closed P (all_fields P) S) where
    -- support under a triple that is not kept, over W: that of the closed set will do
    alone : (R : List ℕ) → R ⊆ S → (g u t : ℕ) → has R g u ≡ true → In P W g → t < length P.triples
        → has_field (triple_at P t) g ≡ true → two_in W (triple_at P t) ≡ false → Together P W R (triple_at P t) g u
    alone R h g u t e i l k n =
        together-from P P (all_fields P) W S R (triple_at P t) g u
        (λ a y b own z. record {
          listed = z.listed;
          there = λ j. let q = only-own W (triple_at P t) g a n k i.1 y j in rw (q, own q) e;
        })
        ((shut g u (h g u e) (in_all_fields P g i.0)).triples t l k)

    pub two-inside-passes : PassesOver (two_inside P W) W S f v → PassesOver P W S f v
    two-inside-passes p =
        let w = witness_at Two W S f v p in
        witness_by P W S f v (left Two W S f v) (record {
          inside = w.inside;
          shut = λ g u e i. let x = w.shut g u e i in record {
            rules = x.rules;
            triples = λ t l k. ⊎_elim
                (λ n. let s = kept W P.triples t l n in
                together-from Two P W W (left Two W S f v) (left Two W S f v) (triple_at P t) g u
                (λ a _ b _. free-same Two P refl W (left Two W S f v) a b)
                (rw s.2 at (x.triples s.0 s.1 (rw s.2 k))))
                (alone (left Two W S f v) (λ a b y. cut_⊆ S f v a b (w.inside a b y)) g u t e i l k)
                (bool_cases (two_in W (triple_at P t)));
          };
          full = w.full;
        })

-- THE THEOREM: the offers are the largest part that is closed and in which every setting of a selected field passes the test of either
-- definition.
pub offers-two-inside : (P : Problem) (hood : ℕ → ℕ) (selected : ℕ) (S : List ℕ)
    → IsLargest (TwoInsideConsistent P hood selected) S (offers P hood selected S)
offers-two-inside P hood selected S =
    IsLargest_iff (PartiallyConsistent P hood selected) (TwoInsideConsistent P hood selected)
    (λ R. (
      λ c. record { shut = c.shut; passing = λ f v i e. passes-two-inside P (hood f) R f v (c.passing f v i e) },
      λ c. record { shut = c.shut; passing = λ f v i e. two-inside-passes P (hood f) R f v c.shut (c.passing f v i e) },
    ))
    S _ (offers-is P hood selected S)
