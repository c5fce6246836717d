-- Support under a triple rule, and the test of it (specs/Triples.antt). Assumes nothing.
use Rattle.std.specs.Prelude.{◌≡◌, ◌&&◌, List, ℕ, get_or}
use Rattle.std.proofs.Math.Bool.{true}
use Rattle.std.proofs.Math.Dec.{eqb}
use borrow.Author.Tests.{eqb-true, eq-eqb}
use Rattle.masks.specs.Tests.{and_l, and_r, and-by, ◌⇒◌, ⇒_at, ⇒_by}
use Rattle.masks.specs.Bits.{bit}
use Rattle.masks.specs.Masks.{some_bit}
use Rattle.masks.proofs.Masks.{some_bit-at, some_bit-by}
use Rattle.masks.specs.Sets.{has}
use Rattle.consistency.specs.Problem.{Triple, Problem}
use Rattle.consistency.specs.Triples.{Free, Together, takes, third_fits, second_fits, together}

module _ (P : Problem) where
  -- ---- the same as a test

  takes-own : (W : ℕ) (S : List ℕ) (f v g u : ℕ) → takes P W S f v g u ≡ true → g ≡ f → u ≡ v
  unfolding takes
  takes-own W S f v g u e q = eqb-true u v (⇒_at (eqb g f) _ (and_l _ _ e) (eq-eqb g f q))

  takes-free : (W : ℕ) (S : List ℕ) (f v g u : ℕ) → has P.sheet g u ≡ true → takes P W S f v g u ≡ true → Free P W S g u
  unfolding takes
  takes-free W S f v g u l e = record { listed = l; there = ⇒_at (bit W g) _ (and_r (eqb g f ⇒ eqb u v) _ e) }

  takes-by : (W : ℕ) (S : List ℕ) (f v g u : ℕ) → Free P W S g u → (g ≡ f → u ≡ v) → takes P W S f v g u ≡ true
  unfolding takes
  takes-by W S f v g u x h =
      and-by _ _ (⇒_by (eqb g f) _ (λ e. eq-eqb u v (h (eqb-true g f e)))) (⇒_by (bit W g) _ x.there)

  -- positions p, q, r of the three fields that pass the test
  together_of : (W : ℕ) (S : List ℕ) (T : Triple) (f v p q r : ℕ) → has P.sheet T.first p ≡ true → has P.sheet T.second q ≡ true
      → has P.sheet T.third r ≡ true → takes P W S f v T.first p ≡ true → takes P W S f v T.second q ≡ true
      → takes P W S f v T.third r ≡ true → T.fits p q r ≡ true → Together P W S T f v
  together_of W S T f v p q r a b c x y z e = record {
    p = p;
    q = q;
    r = r;
    p-free = takes-free W S f v T.first p a x;
    q-free = takes-free W S f v T.second q b y;
    r-free = takes-free W S f v T.third r c z;
    fit = e;
    p-own = takes-own W S f v T.first p x;
    q-own = takes-own W S f v T.second q y;
    r_own = takes-own W S f v T.third r z;
  }

  pub together_at : (W : ℕ) (S : List ℕ) (T : Triple) (f v : ℕ) → together P W S T f v ≡ true → Together P W S T f v
  unfolding together second_fits third_fits has
  together_at W S T f v e =
      let a = some_bit-at (get_or P.sheet T.first 0) (λ p. takes P W S f v T.first p && second_fits P W S T f v p) e in
      one a.0 a.1 (and_l (takes P W S f v T.first a.0) (second_fits P W S T f v a.0) a.2)
      (and_r (takes P W S f v T.first a.0) (second_fits P W S T f v a.0) a.2)
    where
      two : (p q : ℕ) → bit (get_or P.sheet T.first 0) p ≡ true → takes P W S f v T.first p ≡ true
          → bit (get_or P.sheet T.second 0) q ≡ true → takes P W S f v T.second q ≡ true
          → some_bit (get_or P.sheet T.third 0) (λ r. takes P W S f v T.third r && T.fits p q r) ≡ true → Together P W S T f v
      two p q a x b y e =
          let c = some_bit-at (get_or P.sheet T.third 0) (λ r. takes P W S f v T.third r && T.fits p q r) e in
          together_of W S T f v p q c.0 a b c.1 x y (and_l _ _ c.2) (and_r (takes P W S f v T.third c.0) _ c.2)

      one : (p : ℕ) → bit (get_or P.sheet T.first 0) p ≡ true → takes P W S f v T.first p ≡ true
          → some_bit (get_or P.sheet T.second 0) (λ q. takes P W S f v T.second q && third_fits P W S T f v p q) ≡ true
          → Together P W S T f v
      one p a x e =
          let b = some_bit-at (get_or P.sheet T.second 0) (λ q. takes P W S f v T.second q && third_fits P W S T f v p q) e in
          two p b.0 a x b.1 (and_l _ _ b.2) (and_r (takes P W S f v T.second b.0) _ b.2)

  pub together-by : (W : ℕ) (S : List ℕ) (T : Triple) (f v : ℕ) → Together P W S T f v → together P W S T f v ≡ true
  unfolding together second_fits third_fits has
  together-by W S T f v x =
      let p = x.p in
      let q = x.q in
      some_bit-by (get_or P.sheet T.first 0) (λ p. takes P W S f v T.first p && second_fits P W S T f v p) p x.p-free.listed
      (and-by _ _ (takes-by W S f v T.first p x.p-free x.p-own)
      (some_bit-by (get_or P.sheet T.second 0) (λ q. takes P W S f v T.second q && third_fits P W S T f v p q) q x.q-free.listed
      (and-by _ _ (takes-by W S f v T.second q x.q-free x.q-own)
      (some_bit-by (get_or P.sheet T.third 0) (λ r. takes P W S f v T.third r && T.fits p q r) x.r x.r-free.listed
      (and-by _ _ (takes-by W S f v T.third x.r x.r-free x.r_own) x.fit)))))
