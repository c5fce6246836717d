-- Support under a triple rule, over a mask of fields: the projection of source document 003 (02, request 12). Assumes nothing.
use Rattle.std.specs.Prelude.{◌≡◌, Bool, ◌&&◌, List, ℕ, get_or}
use Rattle.std.proofs.Math.Bool.{true}
use Rattle.std.proofs.Math.Dec.{eqb}
use Rattle.masks.specs.Tests.{◌⇒◌}
use Rattle.masks.specs.Bits.{bit, Within}
use Rattle.masks.specs.Masks.{some_bit}
use Rattle.masks.specs.Sets.{has, ◌⊆◌}
use Rattle.consistency.specs.Problem.{Triple, has_field, has_first, has-second, has-third, Problem}

module _ (P : Problem) where
  -- ---- what field g may take: a setting on the sheet, which is in S where g is in W. Where g is outside W it is any, struck or not.

  pub record Free (W : ℕ) (S : List ℕ) (g u : ℕ) : Type 0 where
    pub listed : has P.sheet g u ≡ true
    pub there : bit W g ≡ true → has S g u ≡ true

  pub free_mono : (W : ℕ) (S R : List ℕ) → S ⊆ R → (g u : ℕ) → Free W S g u → Free W R g u
  free_mono W S R h g u x = record { listed = x.listed; there = λ b. h g u (x.there b) }

  pub free_wider : (W Z : ℕ) → Within W Z → (S : List ℕ) (g u : ℕ) → Free Z S g u → Free W S g u
  free_wider W Z n S g u x = record { listed = x.listed; there = λ b. x.there (n g b) }

  -- ---- support of position v of field f under T: positions of its three fields that it allows beside each other, each free, and v in f

  pub record Together (W : ℕ) (S : List ℕ) (T : Triple) (f v : ℕ) : Type 0 where
    pub p : ℕ
    pub q : ℕ
    pub r : ℕ
    pub p-free : Free W S T.first p
    pub q-free : Free W S T.second q
    pub r-free : Free W S T.third r
    pub fit : T.fits p q r ≡ true
    pub p-own : T.first ≡ f → p ≡ v
    pub q-own : T.second ≡ f → q ≡ v
    pub r_own : T.third ≡ f → r ≡ v

-- ---- support moves where what is free for the triple's fields does: to another problem, mask and set

pub together-from : (P Q : Problem) (W Z : ℕ) (S R : List ℕ) (T : Triple) (f v : ℕ)
    → ((g : ℕ) → has_field T g ≡ true → (u : ℕ) → (g ≡ f → u ≡ v) → Free P W S g u → Free Q Z R g u)
    → Together P W S T f v → Together Q Z R T f v
together-from P Q W Z S R T f v h x = record {
  p = x.p;
  q = x.q;
  r = x.r;
  p-free = h T.first (has_first T) x.p x.p-own x.p-free;
  q-free = h T.second (has-second T) x.q x.q-own x.q-free;
  r-free = h T.third (has-third T) x.r x.r_own x.r-free;
  fit = x.fit;
  p-own = x.p-own;
  q-own = x.q-own;
  r_own = x.r_own;
}

module _ (P : Problem) where
  -- in one problem, whichever the setting
  pub together-free : (W Z : ℕ) (S R : List ℕ) (T : Triple) (f v : ℕ)
      → ((g : ℕ) → has_field T g ≡ true → (u : ℕ) → Free P W S g u → Free P Z R g u)
      → Together P W S T f v → Together P Z R T f v
  together-free W Z S R T f v h = together-from P P W Z S R T f v (λ g k u _. h g k u)

  -- ---- the same as a test

  -- field g may take u, which is v where g is f
  unfoldable pub takes : ℕ → List ℕ → ℕ → ℕ → ℕ → ℕ → Bool
  takes W S f v g u = (eqb g f ⇒ eqb u v) && (bit W g ⇒ has S g u)

  unfoldable pub third_fits : ℕ → List ℕ → Triple → ℕ → ℕ → ℕ → ℕ → Bool
  third_fits W S T f v p q =
      some_bit (get_or P.sheet T.third 0) (λ r. let ok = T.fits p q r in takes W S f v T.third r && ok)

  unfoldable pub second_fits : ℕ → List ℕ → Triple → ℕ → ℕ → ℕ → Bool
  second_fits W S T f v p =
      some_bit (get_or P.sheet T.second 0) (λ q. let ok = third_fits W S T f v p q in takes W S f v T.second q && ok)

  unfoldable pub together : ℕ → List ℕ → Triple → ℕ → ℕ → Bool
  together W S T f v =
      some_bit (get_or P.sheet T.first 0) (λ p. let ok = second_fits W S T f v p in takes W S f v T.first p && ok)
