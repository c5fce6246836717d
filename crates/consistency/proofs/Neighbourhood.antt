-- Laws of the neighbourhood (specs/Neighbourhood.antt): it is what walks over rules reach. Assumes nothing.
use Rattle.std.specs.Prelude.{◌≡◌, ◌↔◌, Bool, cond}
use Rattle.std.proofs.Math.Path.{refl, sym}
use Rattle.std.proofs.Common.{◌∙◌, arith}
use Rattle.std.proofs.Math.Logic.{⊎_elim}
use Rattle.std.proofs.Math.Bool.{true, false}
use Prim.Native.Nat.{ℕ, zero, suc, ◌≤◌, ◌<◌}
use Rattle.std.proofs.Math.Dec.{eqb, leb}
use borrow.Author.Tests.{eqb-true, eq-eqb, leb-true, leb-false}
use Rattle.limits.specs.Limits.{whole_reach}
use Rattle.masks.specs.Bits.{bit, Within}
use Rattle.masks.proofs.Masks.{mask_of_in}
use Rattle.consistency.specs.Problem.{Problem, Symmetric, In, all_fields, in_all_fields, all_fields_bound, linked, linked-symmetric}
use Rattle.consistency.specs.Neighbourhood.{fields_within, neighbourhood, Walk, within_bound, widen_keeps, widen-adds, widen-at}
use Rattle.consistency.specs.Neighbourhood.{neighbourhood-near, stay, go}

cond_both : (A : ℕ → Type 0) (b : Bool) (x y : ℕ) → A x → A y → A (cond b x y)
cond_both A true x y p q = p
cond_both A false x y p q = q

module _ (P : Problem) where
  -- ---- what `fields_within` means: a walk from f to g over at most k rules

  within-self : (k f : ℕ) → f < P.fields → bit (fields_within P k f) f ≡ true
  unfolding fields_within
  within-self zero f h = mask_of_in P.fields (λ g. eqb g f) f h ∙ eq-eqb f f refl
  within-self (suc k) f h = widen_keeps P (fields_within P k f) f (h, within-self k f h)

  within_more : (k f : ℕ) → Within (fields_within P k f) (fields_within P (suc k) f)
  unfolding fields_within
  within_more k f g e = widen_keeps P (fields_within P k f) g (within_bound P k f g e, e)

  walk_end : {f k g : ℕ} → Walk P f k g → g < P.fields
  walk_end (stay h) = h
  walk_end (go w h j) = h

  walk_more : {f k g : ℕ} → Walk P f k g → Walk P f (suc k) g
  walk_more (stay h) = stay h
  walk_more (go w h j) = go (walk_more w) h j

  walk-by : {f k g : ℕ} → Walk P f k g → bit (fields_within P k f) g ≡ true
  unfolding fields_within
  walk-by {f} {k} (stay h) = within-self k f h
  walk-by {f} (go {k = k} {g = g} {h = x} w h j) = widen-adds P (fields_within P k f) g x (walk_end w, walk-by w) h j

  walk_at : (k f g : ℕ) → bit (fields_within P k f) g ≡ true → Walk P f k g
  unfolding fields_within
  walk_at zero f g e =
      let b = within_bound P zero f g e in
      let q = eqb-true g f (sym (mask_of_in P.fields (λ g. eqb g f) g b) ∙ e) in
      rw q (stay (rw q at b))
  walk_at (suc k) f g e =
      ⊎_elim (λ q. walk_more (walk_at k f g q)) (λ s. go (walk_at k f s.0 s.1) (within_bound P (suc k) f g e) s.2)
      (widen-at P (fields_within P k f) g e)

  -- ---- what the neighbourhood is, below the whole reach and at it

  pub neighbourhood-walk : (k f g : ℕ) → k < whole_reach → (bit (neighbourhood P k f) g ≡ true) ↔ Walk P f k g
  neighbourhood-walk k f g h = rw (neighbourhood-near P k f h) (walk_at k f g, walk-by)

  -- ---- laws

  -- a property of both cases
  either : (A : ℕ → Type 0) (k f : ℕ) → A (all_fields P) → A (fields_within P k f) → A (neighbourhood P k f)
  unfolding neighbourhood
  either A k f = cond_both A (leb whole_reach k) (all_fields P) (fields_within P k f)

  pub neighbourhood_bound : (k f g : ℕ) → bit (neighbourhood P k f) g ≡ true → g < P.fields
  neighbourhood_bound k f g = either (λ (W : ℕ). bit W g ≡ true → g < P.fields) k f (all_fields_bound P g) (within_bound P k f g)

  pub neighbourhood-self : (k f : ℕ) → f < P.fields → In P (neighbourhood P k f) f
  neighbourhood-self k f h = either (λ (W : ℕ). In P W f) k f (in_all_fields P f h) (h, within-self k f h)

  pub neighbourhood-linked : (k f g : ℕ) → 1 ≤ k → f < P.fields → g < P.fields → linked P f g ≡ true → In P (neighbourhood P k f) g
  neighbourhood-linked zero f g o h l j = absurd (omega arith)
  neighbourhood-linked (suc k) f g o h l j = either (λ (W : ℕ). In P W g) (suc k) f (in_all_fields P g l) (l, walk-by (go (stay h) l j))

  -- one rule further has no fewer fields
  pub neighbourhood-more : (k f : ℕ) → Within (neighbourhood P k f) (neighbourhood P (suc k) f)
  unfolding neighbourhood
  neighbourhood-more k f g e = cases (leb whole_reach k) (leb whole_reach (suc k)) refl refl e
    where
      cases : (s t : Bool) → leb whole_reach k ≡ s → leb whole_reach (suc k) ≡ t
          → bit (cond s (all_fields P) (fields_within P k f)) g ≡ true → bit (cond t (all_fields P) (fields_within P (suc k) f)) g ≡ true
      cases true true p q e = e
      cases true false p q e = absurd (omega (arith, leb-true whole_reach k p, leb-false whole_reach (suc k) q))
      cases false true p q e = (in_all_fields P g (within_bound P k f g e)).1
      cases false false p q e = within_more k f g e

  -- ---- symmetry: g is near f exactly where f is near g

  walk_before : {f k g h : ℕ} → h < P.fields → linked P h f ≡ true → Walk P f k g → Walk P h (suc k) g
  walk_before l j (stay i) = go (stay l) i j
  walk_before l j (go w i q) = go (walk_before l j w) i q

  walk-back : Symmetric P → {f k g : ℕ} → Walk P f k g → Walk P g k f
  walk-back y (stay i) = stay i
  walk-back y (go {g = g} {h = h} w i q) = walk_before i (linked-symmetric P y h g ∙ q) (walk-back y w)

  pub neighbourhood-symmetric : Symmetric P → (k f g : ℕ) → f < P.fields → bit (neighbourhood P k f) g ≡ true
      → bit (neighbourhood P k g) f ≡ true
  unfolding neighbourhood
  neighbourhood-symmetric y k f g h = cases (leb whole_reach k)
    where
      cases : (t : Bool) → bit (cond t (all_fields P) (fields_within P k f)) g ≡ true
          → bit (cond t (all_fields P) (fields_within P k g)) f ≡ true
      cases true e = (in_all_fields P f h).1
      cases false e = walk-by (walk-back y (walk_at k f g e))
