-- Laws of sets of settings (specs/Sets.antt). Assumes nothing.
use Rattle.std.specs.Prelude.{◌≡◌, refl, Bool, true, false, ◌&&◌, List, [], ◌∷◌, ℕ, zero, suc, ◌≤◌, ◌<◌, eqb, length, get_or, set}
use Rattle.std.proofs.Common.{sym, ap, ap₂, ◌∙◌, ⊎_elim, true≢false, zero-le, le_antisymm, arith, ext_get_or}
use Rattle.std.proofs.lemmas.Bool.{eqb-false}
use Rattle.masks.specs.Tests.{and_l, and_r, and-not}
use Rattle.masks.specs.Bits.{Within}
use Rattle.masks.proofs.Bits.{within-le, bit_ext, bit_of-zero}
use Rattle.masks.specs.Masks.{keep_bits}
use Rattle.masks.proofs.Masks.{bit-keep_bits, keep_bits_all, count_bits_mono, count_bits-lt}
use Rattle.masks.specs.Sets.{has, ◌⊆◌, only, length-only, same, count}

-- the masks of a part are no greater
pub ⊆_mask : (S R : List ℕ) → S ⊆ R → (f : ℕ) → get_or S f 0 ≤ get_or R f 0
unfolding has
⊆_mask S R h f = within-le (get_or S f 0) (get_or R f 0) (h f)

-- a set is given by its settings
pub has_ext : (S R : List ℕ) → length S ≡ length R → ((f v : ℕ) → has S f v ≡ has R f v) → S ≡ R
unfolding has
has_ext S R e h = ext_get_or 0 S R e (λ f l. bit_ext (get_or S f 0) (get_or R f 0) (h f))

pub ⊆_antisymm : (S R : List ℕ) → length S ≡ length R → S ⊆ R → R ⊆ S → S ≡ R
⊆_antisymm S R e h k = ext_get_or 0 S R e (λ f l. le_antisymm (⊆_mask S R h f) (⊆_mask R S k f))

-- ---- the settings of S that pass p

pub has-only : (p : ℕ → ℕ → Bool) (S : List ℕ) (f v : ℕ) → has (only p S) f v ≡ (has S f v && p f v)
unfolding only has
has-only p [] f v = bit_of-zero v ∙ sym (ap (λ (t : Bool). t && p f v) (bit_of-zero v))
has-only p (m ∷ S) zero v = bit-keep_bits m (p 0) v
has-only p (m ∷ S) (suc f) v = has-only (λ f. p (suc f)) S f v

pub only_⊆ : (p : ℕ → ℕ → Bool) (S : List ℕ) → only p S ⊆ S
only_⊆ p S f v e = and_l _ _ (sym (has-only p S f v) ∙ e)

pub only_at : (p : ℕ → ℕ → Bool) (S : List ℕ) (f v : ℕ) → has (only p S) f v ≡ true → p f v ≡ true
only_at p S f v e = and_r (has S f v) _ (rw has-only at e)

pub only-by : (p : ℕ → ℕ → Bool) (S : List ℕ) (f v : ℕ) → has S f v ≡ true → p f v ≡ true → has (only p S) f v ≡ true
only-by p S f v e q = rw (has-only, e, q)

-- tests that agree on the settings of S
pub only_cong : (p q : ℕ → ℕ → Bool) (S : List ℕ) → ((f v : ℕ) → has S f v ≡ true → p f v ≡ q f v) → only p S ≡ only q S
only_cong p q S h =
    has_ext (only p S) (only q S) (length-only p S ∙ sym (length-only q S))
    (λ f v. has-only p S f v ∙ go f v (has S f v) refl ∙ sym (has-only q S f v))
  where
    go : (f v : ℕ) (t : Bool) → has S f v ≡ t → (has S f v && p f v) ≡ (has S f v && q f v)
    go f v true e = ap (λ (t : Bool). has S f v && t) (h f v e)
    go f v false e = rw e

only_all : (p : ℕ → ℕ → Bool) (S : List ℕ) → ((f v : ℕ) → p f v ≡ true) → only p S ≡ S
unfolding only
only_all p [] h = refl
only_all p (m ∷ S) h = ap₂ ◌∷◌ (keep_bits_all m (p 0) (h 0)) (only_all (λ f. p (suc f)) S (λ f. h (suc f)))

-- a test that only field f can fail changes one mask
pub only_set : (p : ℕ → ℕ → Bool) (S : List ℕ) (f : ℕ) → ((g v : ℕ) → (g ≡ f → ⊥) → p g v ≡ true)
    → only p S ≡ set S f (keep_bits (get_or S f 0) (p f))
unfolding only
only_set p [] f h = refl
only_set p (m ∷ S) zero h = ap (λ (R : List ℕ). keep_bits m (p 0) ∷ R) (only_all (λ f. p (suc f)) S (λ f v. h (suc f) v (λ q. omega arith)))
only_set p (m ∷ S) (suc f) h =
    ap₂ ◌∷◌ (keep_bits_all m (p 0) (λ v. h 0 v (λ q. omega arith)))
    (only_set (λ f. p (suc f)) S f (λ g v d. h (suc g) v (λ q. d (omega arith))))

-- ---- the number of settings

count_mono : (S R : List ℕ) → length S ≡ length R → ((f : ℕ) → Within (get_or S f 0) (get_or R f 0)) → count S ≤ count R
unfolding count
count_mono [] R e h = zero-le
count_mono (m ∷ S) [] e h = absurd (omega arith)
count_mono (m ∷ S) (k ∷ R) e h = omega (arith, count_bits_mono m k (h 0), count_mono S R (omega arith) (λ f. h (suc f)))

count_less : (S R : List ℕ) → length S ≡ length R → ((f : ℕ) → Within (get_or S f 0) (get_or R f 0)) → same S R ≡ false → count S < count R
unfolding same count
count_less [] [] e h d = absurd (true≢false d)
count_less [] (k ∷ R) e h d = absurd (omega arith)
count_less (m ∷ S) [] e h d = absurd (omega arith)
count_less (m ∷ S) (k ∷ R) e h d =
    let r = count_mono S R (omega arith) (λ f. h (suc f)) in
    let c = count_bits_mono m k (h 0) in
    ⊎_elim (λ q. omega (arith, count_bits-lt m k (h 0) (eqb-false m k q)))
    (λ q. omega (arith, count_less S R (omega arith) (λ f. h (suc f)) q))
    (and-not (eqb m k) (same S R) d)

-- a part has fewer settings where it is not the whole
pub count-lt : (S R : List ℕ) → length S ≡ length R → S ⊆ R → same S R ≡ false → count S < count R
unfolding has
count-lt S R e h d = count_less S R e h d
