-- Lists by their places, and arrays that a loop fills from the front. Assumes nothing.
use Rattle.std.specs.Prelude.{◌≡◌, refl, List, [], ◌∷◌, ℕ, zero, suc, ◌+◌, ◌-◌, ◌≤◌, ◌<◌, ltb, length, get_or, set, replicate}
use Rattle.std.proofs.Common.{sym, ap, ◌∙◌, ⊎_elim, eq-or-lt_of_le, arith, length-set, get_or-set_same, get_or-set_other, ext_get_or}
use Rattle.std.proofs.Common.{ltb-true, ltb-false}
use Rattle.std.proofs.lemmas.List.{length-replicate}
use Rattle.std.proofs.Math.ListN.{get_or-eq_default}
use Rattle.masks.specs.Tests.{bool_cases}
use Rattle.masks.specs.Sets.{get_d_zeros, pad, length-pad, get_d_pad}

-- g 0, g 1, .. , g (n - 1)
unfoldable pub tabulate : ℕ → (ℕ → ℕ) → List ℕ
tabulate zero g = []
tabulate (suc n) g = g 0 ∷ tabulate n (λ f. g (suc f))

pub length-tabulate : (n : ℕ) (g : ℕ → ℕ) → length (tabulate n g) ≡ n
unfolding tabulate
length-tabulate zero g = refl
length-tabulate (suc n) g = ap suc (length-tabulate n (λ f. g (suc f)))

pub get_d_tabulate : (n : ℕ) (g : ℕ → ℕ) (f : ℕ) → f < n → get_or (tabulate n g) f 0 ≡ g f
unfolding tabulate
get_d_tabulate zero g f h = absurd (omega arith)
get_d_tabulate (suc n) g zero h = refl
get_d_tabulate (suc n) g (suc f) h = get_d_tabulate n (λ f. g (suc f)) f (omega arith)

pub tabulate-past : (n : ℕ) (g : ℕ → ℕ) (f : ℕ) → n ≤ f → get_or (tabulate n g) f 0 ≡ 0
tabulate-past n g f h = get_or-eq_default (tabulate n g) 0 (let s = length-tabulate n g in omega arith)

-- The first k of n places are filled, the others are 0.
pub record Filling (n : ℕ) (g : ℕ → ℕ) (k : ℕ) (m : List ℕ) : Type 0 where
  pub sized : length m ≡ n
  pub done : (f : ℕ) → f < k → get_or m f 0 ≡ g f
  pub rest : (f : ℕ) → k ≤ f → get_or m f 0 ≡ 0

module _ (n : ℕ) (g : ℕ → ℕ) where
  pub filling-first : Filling n g 0 (replicate n 0)
  filling-first = record { sized = length-replicate {A = ℕ} n 0; done = λ f l. absurd (omega arith); rest = λ f l. get_d_zeros n f }

  pub filling-next : (k x : ℕ) (m : List ℕ) → k < n → x ≡ g k → Filling n g k m → Filling n g (k + 1) (set m k x)
  filling-next k x m h q p = record {
    sized = length-set m k x ∙ p.sized;
    done = λ f l. ⊎_elim (λ (z : f ≡ k). rw z (get_or-set_same m k x 0 (let s = p.sized in omega arith) ∙ q))
        (λ z. get_or-set_other m k f x 0 (λ y. omega arith) ∙ p.done f z) (eq-or-lt_of_le (let j : f ≤ k = omega arith in j));
    rest = λ f l. get_or-set_other m k f x 0 (λ y. omega arith) ∙ p.rest f (omega arith);
  }

  -- the first k places, and 0 in the others
  pub filling-last : (k : ℕ) (m : List ℕ) → k ≤ n → Filling n g k m → m ≡ pad (n - k) (tabulate k g)
  filling-last k m h p = ext_get_or 0 m _ (p.sized ∙ sym (length-pad (n - k) (tabulate k g) ∙ total)) (λ f l. ⊎_elim
      (λ q. let i = ltb-true f k q in p.done f i ∙ sym (get_d_pad (n - k) (tabulate k g) f ∙ get_d_tabulate k g f i))
      (λ q. let i = ltb-false f k q in p.rest f i ∙ sym (get_d_pad (n - k) (tabulate k g) f ∙ tabulate-past k g f i))
      (bool_cases (ltb f k)))
    where
      total : length (tabulate k g) + (n - k) ≡ n
      total = let s = length-tabulate k g in omega arith

  -- all n places
  pub filling-whole : (m : List ℕ) → Filling n g n m → m ≡ tabulate n g
  filling-whole m p = ext_get_or 0 m _ (p.sized ∙ sym (length-tabulate n g)) (λ f l.
      let h : f < n = let s = p.sized in omega arith in p.done f h ∙ sym (get_d_tabulate n g f h))

-- where g is 0 from k on, no place after k matters
pub tabulate-pad : (n k : ℕ) (g : ℕ → ℕ) → k ≤ n → ((f : ℕ) → k ≤ f → g f ≡ 0) → tabulate n g ≡ pad (n - k) (tabulate k g)
tabulate-pad n k g h none = filling-last n g k (tabulate n g) h (record {
  sized = length-tabulate n g;
  done = λ f l. get_d_tabulate n g f (omega arith);
  rest = λ f l. ⊎_elim
      (λ q. get_d_tabulate n g f (ltb-true f n q) ∙ none f l)
      (λ q. tabulate-past n g f (ltb-false f n q))
      (bool_cases (ltb f n));
})
