-- The words of the memory: where the masks of a setting stand, whether a set holds them all, and masks stored. Assumes nothing.
use Rattle.std.specs.Prelude.{◌≡◌, ◌↔◌, ◌⊎◌, ◌&&◌, List, ltb, length, set, take, drop}
use Rattle.std.proofs.Math.Path.{refl, sym}
use Rattle.std.proofs.Common.{ap, ◌∙◌, inl, inr, eq-or-lt_of_le, le_of_suc-le-suc, arith, length-take, length-drop, get_or-take}
use Rattle.std.proofs.Common.{get_or-drop, ext_get_or, length-set, get_or-set_same, get_or-set_other}
use Rattle.std.proofs.Math.Logic.{⊎_elim}
use Rattle.std.proofs.Math.Bool.{not}
use Prim.Native.Nat.{ℕ, zero, suc, ◌+◌, ◌-◌, ◌*◌, ◌^◌, ◌≤◌, ◌<◌}
use Rattle.std.proofs.Math.Numerals.{add-one}
use Rattle.std.specs.Int.Bits.{bit_and, bit_or}
use Rattle.std.proofs.Math.ListN.{get_or, get_or-eq_default}
use borrow.Author.Tests.{not-true, ltb-true, ltb-false}
use Rattle.limits.specs.Limits.{most_fields, most_settings}
use Rattle.masks.specs.Tests.{never, not_so, bool_cases, and_l, and_r, and-by}
use Rattle.masks.specs.Bits.{bit, Within}
use Rattle.masks.proofs.Bits.{bit_of-zero, bit_ext}
use Rattle.masks.proofs.Words.{bit-and-not}
use Rattle.masks.specs.Sets.{has, ◌⊆◌}
use Rattle.removal_list.specs.Moved.{number_of}
use Rattle.network.specs.Stored.{Stored, words_of, words_of-at}
use Rattle.pruning.specs.Shrunk.{zero_or}

-- where the masks of position u of field g are: the memory has a mask for each field, for each setting of each field
abbrev pub place_of : ℕ → ℕ → ℕ
place_of g u = number_of g u * most_fields

-- the places of two settings do not meet
pub places-apart : (g u f v : ℕ) → u < most_settings → v < most_settings → (g ≡ f → u ≡ v → ⊥)
    → (place_of g u + most_fields ≤ place_of f v) ⊎ (place_of f v + most_fields ≤ place_of g u)
places-apart g u f v lu lv d = ⊎_elim
    (λ q. inl (let l = ltb-true (number_of g u) (number_of f v) q in omega arith))
    (λ q. let l = ltb-false (number_of g u) (number_of f v) q in ⊎_elim
    (λ r. inr (let k = ltb-true (number_of f v) (number_of g u) r in omega arith))
    (λ r. let k = ltb-false (number_of f v) (number_of g u) r in absurd (d (omega arith) (omega arith)))
    (bool_cases (ltb (number_of f v) (number_of g u))))
    (bool_cases (ltb (number_of g u) (number_of f v)))

-- the masks at a place
unfoldable pub recall : List ℕ → ℕ → List ℕ
recall M base = take most_fields (drop base M)

recall-length : (M : List ℕ) (base : ℕ) → base + most_fields ≤ length M → length (recall M base) ≡ most_fields
unfolding recall
recall-length M base h = simp (length-take, length-drop) (omega arith)

recall-at : (M : List ℕ) (base h : ℕ) → h < most_fields → get_or (recall M base) h 0 ≡ get_or M (base + h) 0
unfolding recall
recall-at M base h l = get_or-take most_fields (drop base M) h 0 l ∙ get_or-drop base M h 0

-- ---- whether the set holds all that is remembered

-- the positions of the first i masks that the set lacks
unfoldable pub lack_below : ℕ → List ℕ → ℕ → List ℕ → ℕ
lack_below zero M base S = 0
lack_below (suc i) M base S = bit_or (lack_below i M base S) (bit_and (get_or M (base + i) 0) (2 ^ 32 - 1 - get_or S i 0))

module _ (M : List ℕ) (base : ℕ) (S : List ℕ) where
  pub lack_none : lack_below 0 M base S ≡ 0
  unfolding lack_below
  lack_none = refl

  pub lack_next : (i : ℕ)
      → lack_below (i + 1) M base S ≡ bit_or (lack_below i M base S) (bit_and (get_or M (base + i) 0) (2 ^ 32 - 1 - get_or S i 0))
  unfolding lack_below
  lack_next i = rw add-one

  module _ (words : (h : ℕ) → h < most_fields → get_or M (base + h) 0 < 2 ^ 32) (small : (h : ℕ) → get_or S h 0 < 2 ^ most_settings) where
    -- the positions of mask i that the set lacks
    lacks : (i v : ℕ) → i < most_fields
        → bit (bit_and (get_or M (base + i) 0) (2 ^ 32 - 1 - get_or S i 0)) v
        ≡ (bit (get_or M (base + i) 0) v && not (bit (get_or S i 0) v))
    lacks i v l = bit-and-not 32 (get_or M (base + i) 0) (get_or S i 0) v (words i l) (let m = small i in omega arith)

    lack_at : (i : ℕ) → i ≤ most_fields → lack_below i M base S ≡ 0 → (h : ℕ) → h < i → Within (get_or M (base + h) 0) (get_or S h 0)
    unfolding lack_below
    lack_at zero k z h l = absurd (omega arith)
    lack_at (suc i) k z h l =
        let q = zero_or (lack_below i M base S) _ z in
        ⊎_elim (λ j. rw j (here q.1)) (λ j. lack_at i (omega arith) q.0 h j) (eq-or-lt_of_le (le_of_suc-le-suc l))
      where
        here : bit_and (get_or M (base + i) 0) (2 ^ 32 - 1 - get_or S i 0) ≡ 0 → Within (get_or M (base + i) 0) (get_or S i 0)
        here e v b = ⊎_elim (λ q. q)
            (λ q. absurd (never (lacks i v k ∙ and-by _ _ b (ap not q)) (ap (λ (x : ℕ). bit x v) e ∙ bit_of-zero v)))
            (bool_cases (bit (get_or S i 0) v))

    lack_by : (i : ℕ) → i ≤ most_fields → ((h : ℕ) → h < i → Within (get_or M (base + h) 0) (get_or S h 0)) → lack_below i M base S ≡ 0
    unfolding lack_below
    lack_by zero k w = refl
    lack_by (suc i) k w = rw (lack_by i (omega arith) (λ h l. w h (omega arith)), none)
      where
        none : bit_and (get_or M (base + i) 0) (2 ^ 32 - 1 - get_or S i 0) ≡ 0
        none = bit_ext _ 0 (λ v. lacks i v k
            ∙ not_so _ (λ e. never (w i (omega arith) v (and_l _ _ e)) (not-true _ (and_r (bit (get_or M (base + i) 0) v) _ e)))
            ∙ sym (bit_of-zero v))

    -- nothing is lacking just where the set holds the masks
    pub lack_inside : base + most_fields ≤ length M → (lack_below most_fields M base S ≡ 0) ↔ (recall M base ⊆ S)
    unfolding has
    lack_inside k = (inside, λ h. lack_by most_fields (omega arith) (λ i l v e. h i v (ap (λ (x : ℕ). bit x v) (recall-at M base i l) ∙ e)))
      where
        inside : lack_below most_fields M base S ≡ 0 → recall M base ⊆ S
        inside z h v e = ⊎_elim
            (λ q. let l = ltb-true h most_fields q in
            lack_at most_fields (omega arith) z h l v (sym (ap (λ (x : ℕ). bit x v) (recall-at M base h l)) ∙ e))
            (λ q. let past = get_or-eq_default (recall M base) 0
            (let l = ltb-false h most_fields q in let n = recall-length M base k in omega arith) in
            absurd (never e (ap (λ (x : ℕ). bit x v) past ∙ bit_of-zero v)))
            (bool_cases (ltb h most_fields))

-- ---- masks as a loop stores them at a place, the first i of them

module _ (T0 : List ℕ) (base : ℕ) (w : ℕ → ℕ) where
  pub stored-start : Stored T0 base w 0 T0
  stored-start = record { sized = refl; here = λ h l. absurd (omega arith); there = λ j e. refl }

  pub stored-turn : (i : ℕ) (T : List ℕ) (x : ℕ) → i < most_settings → base + i < length T → x ≡ w i → Stored T0 base w i T
      → Stored T0 base w (i + 1) (set T (base + i) x)
  stored-turn i T x b l e p = record {
    sized = length-set T (base + i) x ∙ p.sized;
    here = λ h k. ⊎_elim
        (λ q. ap (λ (y : ℕ). get_or (set T (base + i) x) (base + y) 0) q ∙ get_or-set_same T (base + i) x 0 l ∙ e ∙ ap w (sym q))
        (λ q. get_or-set_other T (base + i) (base + h) x 0 (λ z. omega arith) ∙ p.here h q)
        (eq-or-lt_of_le (let j : h ≤ i = omega arith in j));
    there = λ j o. get_or-set_other T (base + i) j x 0 (λ z. ⊎_elim (λ q. omega arith) (λ q. omega arith) o) ∙ p.there j o;
  }

-- ---- masks stored at a place: as many as `Stored` has words, since the most fields and the most settings are one number

module _ (M0 : List ℕ) (base : ℕ) (t : List ℕ) where
  module _ (M : List ℕ) (s : Stored M0 base (words_of t) most_fields M) where
    pub recall-same : base + most_fields ≤ length M0 → length t ≡ most_fields → recall M base ≡ t
    recall-same k l =
        let n = recall-length M base (let z = s.sized in omega arith) in
        ext_get_or 0 (recall M base) t (n ∙ sym l)
        (λ h i. let j : h < most_fields = rw n at i in recall-at M base h j ∙ s.here h j ∙ words_of-at t h)

    pub recall-other : (a : ℕ) → a + most_fields ≤ length M0 → ((a + most_fields ≤ base) ⊎ (base + most_fields ≤ a))
        → recall M a ≡ recall M0 a
    recall-other a k d =
        let n = recall-length M a (let z = s.sized in omega arith) in
        ext_get_or 0 (recall M a) (recall M0 a) (n ∙ sym (recall-length M0 a k))
        (λ h i. let j : h < most_fields = rw n at i in
        recall-at M a h j ∙ s.there (a + h) (⊎_elim (λ q. inl (omega arith)) (λ q. inr (omega arith)) d) ∙ sym (recall-at M0 a h j))
