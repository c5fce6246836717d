-- Laws of cutting a field to a setting, of losing a setting, and of an empty field (specs/Settings.antt). Assumes nothing.
use Rattle.std.specs.Prelude.{◌≡◌, refl, true, false, not, ◌&&◌, List, [], ◌∷◌, ℕ, zero, suc, ◌^◌, eqb, get_or, set}
use Rattle.std.proofs.Common.{ap, ◌∙◌, ⊎_elim, eqb-true, eq-eqb, ne_eqb}
use Rattle.std.specs.Int.Bits.{bit_and}
use Rattle.std.proofs.lemmas.Bool.{eqb-false}
use Rattle.masks.specs.Tests.{never, not_so, bool_cases, and_l, and_r, and-by, ◌⇒◌, ⇒_at, ⇒_by}
use Rattle.masks.specs.Bits.{bit}
use Rattle.masks.proofs.Bits.{bit_of-zero, bit-some}
use Rattle.masks.specs.Masks.{keep_bits_cong}
use Rattle.masks.proofs.Words.{keep_bits-only}
use Rattle.masks.specs.Words.{clear}
use Rattle.masks.specs.Sets.{has, ◌⊆◌}
use Rattle.masks.proofs.Sets.{only_⊆, only_at, only-by, only_set}
use Rattle.masks.specs.Settings.{cut, lose, empty}

-- what a store leaves at its place can be stored there again
set-stored : (S : List ℕ) (f x : ℕ) → set S f (get_or (set S f x) f 0) ≡ set S f x
set-stored [] f x = refl
set-stored (m ∷ S) zero x = refl
set-stored (m ∷ S) (suc f) x = ap (λ (R : List ℕ). m ∷ R) (set-stored S f x)

-- ---- S cut to position v of field f: of f, at most that one

pub cut_⊆ : (S : List ℕ) (f v : ℕ) → cut S f v ⊆ S
unfolding cut
cut_⊆ S f v = only_⊆ _ S

pub cut_at : (S : List ℕ) (f v u : ℕ) → has (cut S f v) f u ≡ true → u ≡ v
unfolding cut
cut_at S f v u e = eqb-true u v (⇒_at (eqb f f) _ (only_at _ S f u e) (eq-eqb f f refl))

pub cut_by : (S : List ℕ) (f v g u : ℕ) → has S g u ≡ true → (g ≡ f → u ≡ v) → has (cut S f v) g u ≡ true
unfolding cut
cut_by S f v g u e h = only-by _ S g u e (⇒_by (eqb g f) _ (λ q. eq-eqb u v (h (eqb-true g f q))))

pub cut_mono : (S R : List ℕ) (f v : ℕ) → S ⊆ R → cut S f v ⊆ cut R f v
cut_mono S R f v h g u e = cut_by R f v g u (h g u (cut_⊆ S f v g u e)) (λ q. cut_at S f v u (rw q at e))

-- as a store of one mask
pub cut-set : (S : List ℕ) (f v : ℕ) → cut S f v ≡ set S f (bit_and (get_or S f 0) (2 ^ v))
unfolding cut
cut-set S f v =
    only_set (λ g u. eqb g f ⇒ eqb u v) S f (λ g u d. rw (ne_eqb g f d))
    ∙ ap (set S f) (keep_bits_cong _ _ (λ u. eqb u v) (λ u. rw (eq-eqb f f refl)) ∙ keep_bits-only (get_or S f 0) v)

-- ---- S without position v of field f

pub lose_⊆ : (S : List ℕ) (f v : ℕ) → lose S f v ⊆ S
unfolding lose
lose_⊆ S f v = only_⊆ _ S

pub lose-by : (S : List ℕ) (f v g u : ℕ) → has S g u ≡ true → (g ≡ f → u ≡ v → ⊥) → has (lose S f v) g u ≡ true
unfolding lose
lose-by S f v g u e h =
    only-by _ S g u e
    (ap not (not_so (eqb g f && eqb u v) (λ q. h (eqb-true g f (and_l _ _ q)) (eqb-true u v (and_r (eqb g f) _ q)))))

pub lose-at : (S : List ℕ) (f v : ℕ) → has (lose S f v) f v ≡ true → ⊥
unfolding lose
lose-at S f v e =
    never (only_at (λ g u. not (eqb g f && eqb u v)) S f v e) (ap not (and-by _ _ (eq-eqb f f refl) (eq-eqb v v refl)))

-- as a store of one mask
pub lose-set : (S : List ℕ) (f v : ℕ) → lose S f v ≡ set S f (clear (get_or S f 0) v)
unfolding lose clear
lose-set S f v =
    only_set (λ g u. not (eqb g f && eqb u v)) S f (λ g u d. rw (ne_eqb g f d))
    ∙ ap (set S f) (keep_bits_cong _ _ (λ u. not (eqb u v)) (λ u. rw (eq-eqb f f refl)))

pub lose-stored : (S : List ℕ) (f v : ℕ) → set S f (get_or (lose S f v) f 0) ≡ lose S f v
lose-stored S f v = rw (lose-set S f v) (set-stored S f _)

-- ---- an empty field

pub empty-at : (S : List ℕ) (f v : ℕ) → empty S f ≡ true → has S f v ≡ false
unfolding empty has
empty-at S f v e = ap (λ (m : ℕ). bit m v) (eqb-true (get_or S f 0) 0 e) ∙ bit_of-zero v

pub empty-by : (S : List ℕ) (f : ℕ) → ((v : ℕ) → has S f v ≡ true → ⊥) → empty S f ≡ true
unfolding empty has
empty-by S f h =
    ⊎_elim (λ q. q) (λ q. let b = bit-some (get_or S f 0) (eqb-false (get_or S f 0) 0 q) in absurd (h b.0 b.1))
    (bool_cases (eqb (get_or S f 0) 0))

-- a field that is not empty has a setting
pub empty-not : (S : List ℕ) (f : ℕ) → empty S f ≡ false → (v : ℕ) × (has S f v ≡ true)
unfolding empty has
empty-not S f e = bit-some (get_or S f 0) (eqb-false (get_or S f 0) 0 e)
