-- The neighbourhoods of the fields, made from the linked fields. Assumes nothing.
use Rattle.std.specs.Prelude.{◌≡◌, ◌⊎◌, true, false, List, ℕ, ◌+◌, ◌^◌, ◌≤◌, ◌<◌, length, get_or, set}
use Rattle.std.proofs.Math.Path.{sym, ap}
use Rattle.std.proofs.Common.{◌∙◌, inl, inr, ⊎_elim, eq-or-lt_of_le, arith, length-set, get_or-set_same, get_or-set_other}
use Rattle.std.specs.Int.Bits.{bit_or}
use Rattle.masks.specs.Tests.{never, iff_eq, or_l, or_r, or_at}
use Rattle.masks.specs.Bits.{bit, Within}
use Rattle.masks.proofs.Bits.{bit_ext}
use Rattle.masks.specs.Masks.{mask_of}
use Rattle.masks.proofs.Words.{bit-or}
use Rattle.consistency.specs.Problem.{Problem, all_fields, linked}
use Rattle.limits.specs.Limits.{most_fields, whole_reach}
use Rattle.consistency.specs.Neighbourhood.{widen, widen_keeps, widen-adds, widen-at, fields_within, within_bound, within-start}
use Rattle.consistency.specs.Neighbourhood.{within-next, neighbourhood, neighbourhood-near, neighbourhood-whole}

-- A problem with these linked fields: a rule joins them, or a triple rule has both.
pub record Links (n : ℕ) (links : List ℕ) (P : Problem) : Type 0 where
  pub fields : P.fields ≡ n
  pub same : (f g : ℕ) → linked P f g ≡ bit (get_or links f 0) g

-- The linked fields are among the first n.
abbrev pub LinksBelow : ℕ → List ℕ → Type 0
LinksBelow n links = (f g : ℕ) → bit (get_or links f 0) g ≡ true → (f < n) × (g < n)

-- ---- the loop over the fields of m: the first h fields are done

pub record Widening (links : List ℕ) (m h wide : ℕ) : Type 0 where
  pub keeps : Within m wide
  pub adds : (i g : ℕ) → i < h → bit m i ≡ true → bit (get_or links i 0) g ≡ true → bit wide g ≡ true
  pub only : (g : ℕ) → bit wide g ≡ true → (bit m g ≡ true) ⊎ ((i : ℕ) × (bit m i ≡ true) × (bit (get_or links i 0) g ≡ true))

module _ (links : List ℕ) (m : ℕ) where
  pub widening_start : Widening links m 0 m
  widening_start = record { keeps = λ g e. e; adds = λ i g l. absurd (omega arith); only = λ g e. inl e }

  module _ (h wide : ℕ) (p : Widening links m h wide) where
    pub widening_in : bit m h ≡ true → Widening links m (h + 1) (bit_or wide (get_or links h 0))
    widening_in e = record {
      keeps = λ g q. bit-or wide (get_or links h 0) g ∙ or_l _ _ (p.keeps g q);
      adds = λ i g l q j. bit-or wide (get_or links h 0) g ∙ ⊎_elim
          (λ z. or_r (bit wide g) _ (ap (λ (x : ℕ). bit (get_or links x 0) g) (sym z) ∙ j)) (λ z. or_l _ _ (p.adds i g z q j))
          (eq-or-lt_of_le (let k : i ≤ h = omega arith in k));
      only = λ g q. ⊎_elim (p.only g) (λ j. inr (h, e, j)) (or_at (bit wide g) _ (sym (bit-or wide (get_or links h 0) g) ∙ q));
    }

    pub widening_out : bit m h ≡ false → Widening links m (h + 1) wide
    widening_out e = record {
      keeps = p.keeps;
      adds = λ i g l q j. ⊎_elim (λ z. absurd (never q (ap (bit m) z ∙ e))) (λ z. p.adds i g z q j)
          (eq-or-lt_of_le (let k : i ≤ h = omega arith in k));
      only = p.only;
    }

-- ---- the neighbourhoods

module _ (n : ℕ) (links : List ℕ) (few : n ≤ most_fields) (low : LinksBelow n links) (P : Problem) (t : Links n links P) where
  widened : (m wide : ℕ) → ((g : ℕ) → bit m g ≡ true → g < n) → Widening links m most_fields wide → wide ≡ widen P m
  widened m wide b p = bit_ext _ _ (λ g. iff_eq _ _
      (λ e. ⊎_elim (λ q. widen_keeps P m g (rw t.fields (b g q), q))
      (λ s. widen-adds P m s.0 g (rw t.fields (b s.0 s.1), s.1) (rw t.fields (low s.0 g s.2).1)
      (t.same s.0 g ∙ s.2)) (p.only g e))
      (λ e. ⊎_elim (p.keeps g) (λ s. p.adds s.0 g (let l = b s.0 s.1 in omega arith) s.1 (sym (t.same s.0 g) ∙ s.2))
      (widen-at P m g e)))

  within_low : (k f g : ℕ) → bit (fields_within P k f) g ≡ true → g < n
  within_low k f g e = rw t.fields at (within_bound P k f g e)

  within-one : (f x : ℕ) → f < n → x ≡ 2 ^ f → x ≡ fields_within P 0 f
  within-one f x h e = e ∙ sym (within-start P f (rw t.fields h))

  within_more : (k f m wide : ℕ) → m ≡ fields_within P k f → Widening links m most_fields wide → wide ≡ fields_within P (k + 1) f
  within_more k f m wide e p =
      widened m wide (λ g q. within_low k f g (ap (λ (x : ℕ). bit x g) (sym e) ∙ q)) p ∙ ap (widen P) e ∙ sym (within-next P k f)

-- what a function that makes one says, of every problem with these linked fields
abbrev pub WithinFor : ℕ → List ℕ → ℕ → ℕ → ℕ → Type 0
WithinFor n links k f m = (P : Problem) → Links n links P → m ≡ fields_within P k f

abbrev pub HoodFor : ℕ → List ℕ → ℕ → ℕ → ℕ → Type 0
HoodFor n links k f m = (P : Problem) → Links n links P → m ≡ neighbourhood P k f

module _ (n : ℕ) (links : List ℕ) (f : ℕ) where
  pub hood-start : (x : ℕ) → n ≤ most_fields → LinksBelow n links → f < n → x ≡ 2 ^ f → WithinFor n links 0 f x
  hood-start x few low h e P t = within-one n links few low P t f x h e

  pub hood-turn : (k m wide : ℕ) → n ≤ most_fields → LinksBelow n links → Widening links m most_fields wide → WithinFor n links k f m
      → WithinFor n links (k + 1) f wide
  hood-turn k m wide few low w a P t = within_more n links few low P t k f m wide (a P t) w

  pub hood-near : (k m : ℕ) → k < whole_reach → WithinFor n links k f m → HoodFor n links k f m
  hood-near k m h a P t = a P t ∙ sym (neighbourhood-near P k f h)

  pub hood-whole : (k m : ℕ) → whole_reach ≤ k → m ≡ mask_of n (λ g. true) → HoodFor n links k f m
  unfolding all_fields
  hood-whole k m h e P t = e ∙ ap (λ (x : ℕ). mask_of x (λ g. true)) (sym t.fields) ∙ sym (neighbourhood-whole P k f h)

-- The first i masks of `hood` are the neighbourhoods at reach k.
pub record HoodsTo (n : ℕ) (links : List ℕ) (k i : ℕ) (hood : List ℕ) : Type 0 where
  pub long : length hood ≡ most_fields
  pub each : (f : ℕ) → f < i → HoodFor n links k f (get_or hood f 0)

module _ (n : ℕ) (links : List ℕ) (k : ℕ) where
  pub hoods-start : (hood : List ℕ) → length hood ≡ most_fields → HoodsTo n links k 0 hood
  hoods-start hood l = record { long = l; each = λ f h. absurd (omega arith) }

  pub hoods-turn : (i : ℕ) (hood : List ℕ) (m : ℕ) → i < most_fields → HoodFor n links k i m → HoodsTo n links k i hood
      → HoodsTo n links k (i + 1) (set hood i m)
  hoods-turn i hood m l a p = record {
    long = length-set hood i m ∙ p.long;
    each = λ f h. ⊎_elim
        (λ (q : f ≡ i). rw q (λ P t. get_or-set_same hood i m 0 (let z = p.long in omega arith) ∙ a P t))
        (λ q. λ P t. get_or-set_other hood i f m 0 (λ e. absurd (omega arith)) ∙ p.each f q P t)
        (eq-or-lt_of_le (let z : f ≤ i = omega arith in z));
  }
