-- The linked fields, made from those that a rule joins and the triple rules. Assumes nothing.
use Rattle.std.specs.Prelude.{◌≡◌, Bool, List, length, get_or, set}
use Rattle.std.proofs.Math.Path.{refl, sym, ap₂}
use Rattle.std.proofs.Common.{ap, ◌∙◌, add-one, arith, length-set, get_or-set_same, get_or-set_other, eqb-true, eq-eqb, ne_eqb}
use Rattle.std.proofs.Math.Logic.{⊎_elim}
use Rattle.std.proofs.Math.Bool.{true, false, ◌&&◌, ◌||◌}
use Prim.Native.Nat.{ℕ, ◌+◌, ◌^◌, ◌<◌}
use Rattle.std.specs.Int.Bits.{bit_or}
use Rattle.std.proofs.Math.Dec.{eqb}
use Rattle.limits.specs.Limits.{most_fields}
use Rattle.masks.specs.Tests.{eq_cases, iff_eq, or_at, and_l, and_r, some_below, some_below-at, some_below-by}
use Rattle.masks.specs.Bits.{bit}
use Rattle.masks.proofs.Words.{bit-or, bit-one}
use Rattle.consistency.specs.Problem.{has_field, TripleIn, field_below, triple_has, length-triples, listed-triple, linked}
use Rattle.sheet.specs.Sources.{Accepted}
use Rattle.accepted.specs.Parts.{fields_of, rules_of, triples_of, triple_first, triple_second, triple_third}
use Rattle.accepted.specs.Facts.{facts}
use Rattle.network.specs.SheetProblem.{joins, sheet_triple, sheet_problem}
use Rattle.network.specs.Hoods.{Links, LinksBelow}

-- ---- the positions of a mask added to the masks of three fields

-- f is one of i, j and k
unfoldable pub among : ℕ → ℕ → ℕ → ℕ → Bool
among i j k f = eqb i f || (eqb j f || eqb k f)

pub record Added (M : List ℕ) (i j k x : ℕ) (M' : List ℕ) : Type 0 where
  pub sized : length M' ≡ length M
  pub at : (f g : ℕ) → bit (get_or M' f 0) g ≡ (bit (get_or M f 0) g || (among i j k f && bit x g))

-- the positions of x added to the mask of f
abbrev pub with_mask : List ℕ → ℕ → ℕ → List ℕ
with_mask M f x = set M f (bit_or (get_or M f 0) x)

with-mask : (M : List ℕ) (i x : ℕ) → i < length M → (f g : ℕ)
    → bit (get_or (with_mask M i x) f 0) g ≡ (bit (get_or M f 0) g || (eqb i f && bit x g))
with-mask M i x l f g = ⊎_elim
    (λ (q : i ≡ f). rw (sym q) (ap (λ (m : ℕ). bit m g) (get_or-set_same M i (bit_or (get_or M i 0) x) 0 l) ∙ bit-or (get_or M i 0) x g
    ∙ ap (λ (b : Bool). bit (get_or M i 0) g || (b && bit x g)) (sym (eq-eqb i i refl))))
    (λ q. ap (λ (m : ℕ). bit m g) (get_or-set_other M i f (bit_or (get_or M i 0) x) 0 (λ e. q (sym e)))
    ∙ sym (ap (λ (b : Bool). bit (get_or M f 0) g || (b && bit x g)) (ne_eqb i f q) ∙ or-f (bit (get_or M f 0) g)))
    (eq_cases i f)
  where
    or-f : (b : Bool) → (b || false) ≡ b
    or-f true = refl
    or-f false = refl

pub added : (M : List ℕ) (i j k x : ℕ) → i < most_fields → j < most_fields → k < most_fields → length M ≡ most_fields
    → Added M i j k x (with_mask (with_mask (with_mask M i x) j x) k x)
unfolding among
added M i j k x a b d s =
    let m = with_mask M i x in
    let n = with_mask m j x in
    let u : length m ≡ length M = length-set M i _ in
    let v : length n ≡ length m = length-set m j _ in
    let w : length (with_mask n k x) ≡ length n = length-set n k _ in
    record {
      sized = w ∙ v ∙ u;
      at = λ f g. with-mask n k x (omega arith) f g ∙ ap (λ (y : Bool). y || (eqb k f && bit x g))
          (with-mask m j x (omega arith) f g ∙ ap (λ (y : Bool). y || (eqb j f && bit x g)) (with-mask M i x (omega arith) f g))
          ∙ gathered (bit (get_or M f 0) g) (eqb i f) (eqb j f) (eqb k f) (bit x g);
    }
  where
    gathered : (y p q r z : Bool) → (((y || (p && z)) || (q && z)) || (r && z)) ≡ (y || ((p || (q || r)) && z))
    gathered true p q r z = refl
    gathered false true q r true = refl
    gathered false true true true false = refl
    gathered false true true false false = refl
    gathered false true false true false = refl
    gathered false true false false false = refl
    gathered false false true r true = refl
    gathered false false true true false = refl
    gathered false false true false false = refl
    gathered false false false r z = refl

-- ---- the loop over the triple rules: the first t are done

-- triple rule t of the sheet has both f and g
abbrev pub triple_pair : List ℕ → ℕ → ℕ → ℕ → Bool
triple_pair xs f g t = has_field (sheet_triple xs t) f && has_field (sheet_triple xs t) g

pub record LinksTo (xs joined : List ℕ) (t : ℕ) (links : List ℕ) : Type 0 where
  pub long : length links ≡ most_fields
  pub at : (f g : ℕ) → bit (get_or links f 0) g ≡ (bit (get_or joined f 0) g || some_below t (triple_pair xs f g))

eqb-turn : (a b : ℕ) → eqb a b ≡ eqb b a
eqb-turn a b = iff_eq _ _ (λ e. eq-eqb b a (sym (eqb-true a b e))) (λ e. eq-eqb a b (sym (eqb-true b a e)))

-- the fields of triple rule t
pub among-has : (xs : List ℕ) (t i j k f : ℕ) → i ≡ triple_first xs t → j ≡ triple_second xs t → k ≡ triple_third xs t
    → among i j k f ≡ has_field (sheet_triple xs t) f
unfolding among has_field sheet_triple
among-has xs t i j k f a b d = rw (a, b, d)

module _ (xs joined : List ℕ) where
  pub links-start : length joined ≡ most_fields → LinksTo xs joined 0 joined
  unfolding some_below
  links-start l = record { long = l; at = λ f g. or-none (bit (get_or joined f 0) g) }
    where
      or-none : (b : Bool) → b ≡ (b || false)
      or-none true = refl
      or-none false = refl

  -- the mask of the three fields of triple rule t
  three-has : (t i j k g : ℕ) → i ≡ triple_first xs t → j ≡ triple_second xs t → k ≡ triple_third xs t
      → bit (bit_or (bit_or (2 ^ i) (2 ^ j)) (2 ^ k)) g ≡ has_field (sheet_triple xs t) g
  unfolding among
  three-has t i j k g a b d =
      bit-or (bit_or (2 ^ i) (2 ^ j)) (2 ^ k) g ∙ ap₂ ◌||◌ (bit-or (2 ^ i) (2 ^ j) g ∙ ap₂ ◌||◌ (one i) (one j)) (one k)
      ∙ or_assoc (eqb i g) (eqb j g) (eqb k g) ∙ among-has xs t i j k g a b d
    where
      one : (h : ℕ) → bit (2 ^ h) g ≡ eqb h g
      one h = bit-one h g ∙ eqb-turn g h

      or_assoc : (p q r : Bool) → ((p || q) || r) ≡ (p || (q || r))
      or_assoc true q r = refl
      or_assoc false q r = refl

  pub links-next : (t i j k three : ℕ) (links links' : List ℕ) → i ≡ triple_first xs t → j ≡ triple_second xs t → k ≡ triple_third xs t
      → three ≡ bit_or (bit_or (2 ^ i) (2 ^ j)) (2 ^ k) → Added links i j k three links' → LinksTo xs joined t links
      → LinksTo xs joined (t + 1) links'
  unfolding some_below
  links-next t i j k three links links' a b d e m p = record {
    long = m.sized ∙ p.long;
    at = λ f g. m.at f g
        ∙ ap₂ ◌||◌ (p.at f g) (ap₂ ◌&&◌ (among-has xs t i j k f a b d) (ap (λ (y : ℕ). bit y g) e ∙ three-has t i j k g a b d))
        ∙ rw (add-one t) (last-first (bit (get_or joined f 0) g) (some_below t (triple_pair xs f g)) (triple_pair xs f g t));
  }
    where
      last-first : (x y z : Bool) → ((x || y) || z) ≡ (x || (z || y))
      last-first true y z = refl
      last-first false true true = refl
      last-first false true false = refl
      last-first false false true = refl
      last-first false false false = refl

-- a triple rule of the sheet has three of its fields
module _ (xs : List ℕ) (a : Accepted xs) (t : ℕ) (h : t < triples_of xs) where
  triple-in : TripleIn (sheet_problem xs) (sheet_triple xs t)
  unfolding sheet_triple sheet_problem
  triple-in =
      let fs = facts xs a in record { lower = fs.triple-apart t h; upper = fs.triple-above t h; within = fs.triple-within t h }

-- ---- the linked fields of the sheet's problem

module _ (xs joined links : List ℕ) (p : LinksTo xs joined (triples_of xs) links) where
  same-pairs : (f g : ℕ) → some_below (triples_of xs) (triple_has (sheet_problem xs) f g) ≡ some_below (triples_of xs) (triple_pair xs f g)
  unfolding triple_has sheet_problem
  same-pairs f g = some_cong (triples_of xs) _ _
      (λ t l. rw (listed-triple (triples_of xs) (sheet_triple xs) t l))
    where
      some_cong : (n : ℕ) (u v : ℕ → Bool) → ((t : ℕ) → t < n → u t ≡ v t) → some_below n u ≡ some_below n v
      some_cong n u v e = iff_eq _ _
          (λ q. let s = some_below-at n u q in some_below-by n v s.0 s.1 (sym (e s.0 s.1) ∙ s.2))
          (λ q. let s = some_below-at n v q in some_below-by n u s.0 s.1 (e s.0 s.1 ∙ s.2))

  pub links_of : ((f g : ℕ) → bit (get_or joined f 0) g ≡ some_below (rules_of xs) (joins xs f g))
      → Links (fields_of xs) links (sheet_problem xs)
  unfolding linked sheet_problem
  links_of m = record {
    fields = refl;
    same = λ f g. ap₂ ◌||◌ (sym (m f g))
        (ap (λ (n : ℕ). some_below n (triple_has (sheet_problem xs) f g)) (length-triples (triples_of xs) (sheet_triple xs))
        ∙ same-pairs f g)
        ∙ sym (p.at f g);
  }

  pub links-below : Accepted xs → ((f g : ℕ) → bit (get_or joined f 0) g ≡ true → (f < fields_of xs) × (g < fields_of xs))
      → LinksBelow (fields_of xs) links
  unfolding sheet_problem
  links-below a b f g e = ⊎_elim (b f g)
      (λ q. let s = some_below-at (triples_of xs) (triple_pair xs f g) q in
      (low s.0 s.1 f (and_l _ _ s.2), low s.0 s.1 g (and_r (has_field (sheet_triple xs s.0) f) _ s.2)))
      (or_at (bit (get_or joined f 0) g) _ (sym (p.at f g) ∙ e))
    where
      low : (t : ℕ) → t < triples_of xs → (h : ℕ) → has_field (sheet_triple xs t) h ≡ true → h < fields_of xs
      low t l h e = field_below (sheet_problem xs) (sheet_triple xs t) (triple-in xs a t l) h e
