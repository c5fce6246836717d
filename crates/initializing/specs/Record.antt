-- Lines 4, 5 and 7 of initializeAC: the words of the support sets, of one arc after the other. Assumes nothing.
use Rattle.std.specs.Prelude.{◌≡◌, refl, ◌⊎◌, Bool, true, false, ◌&&◌, List, ℕ, ◌+◌, ◌≤◌, ◌<◌, ltb, length, get_or, set}
use Rattle.std.proofs.Math.Path.{sym, ap}
use Rattle.std.proofs.Common.{◌∙◌, eq-or-lt_of_le, arith, length-set, get_or-set_same, get_or-set_other}
use Rattle.std.proofs.Math.Logic.{inl, inr, ⊎_elim}
use Rattle.std.specs.Int.Bits.{bit_and}
use borrow.Author.Tests.{ltb-true, ltb-false}
use Rattle.limits.specs.Limits.{most_fields, most_settings}
use Rattle.masks.specs.Tests.{never, bool_cases, eq_cases, iff_eq, and_l, and_r, and-by}
use Rattle.masks.specs.Bits.{bit, Within}
use Rattle.masks.proofs.Bits.{bit_of-zero, bit_bound}
use Rattle.masks.specs.Words.{clear}
use Rattle.masks.proofs.Words.{bit-and, clear_within, clear-other}
use Rattle.masks.specs.Floods.{flood}
use Rattle.masks.proofs.Floods.{flood-at, flood-by}
use Rattle.masks.specs.Sets.{has}
use Rattle.removal_list.specs.Count.{Small}
use Rattle.network.specs.Tables.{rows_of, rule_problem, Wired}
use Rattle.pruning.specs.Supports.{supports}
use Rattle.pruning.specs.SupportSet.{word_of}
use Rattle.initializing.specs.Initialize.{Recorded}

-- ---- a mask for each position

-- masks starts with the floods of the first k positions of own
pub record Floods (own k : ℕ) (masks : List ℕ) : Type 0 where
  pub long : length masks ≡ most_settings
  pub each : (v : ℕ) → v < k → get_or masks v 0 ≡ flood own v

pub floods-none : (own : ℕ) (masks : List ℕ) → length masks ≡ most_settings → Floods own 0 masks
floods-none own masks l = record { long = l; each = λ v h. absurd (omega arith) }

pub floods-next : (own k : ℕ) (masks : List ℕ) → k < most_settings → Floods own k masks → Floods own (k + 1) (set masks k (flood own k))
floods-next own k masks h fl = record {
  long = length-set masks k (flood own k) ∙ fl.long;
  each = λ v l. ⊎_elim
      (λ q. rw q (get_or-set_same masks k (flood own k) 0 (let e = fl.long in omega arith)))
      (λ q. get_or-set_other masks k v (flood own k) 0 (λ e. absurd (omega arith)) ∙ fl.each v q)
      (eq-or-lt_of_le (let i : v ≤ k = omega arith in i));
}

-- ---- one arc (i, j): the words of the first k positions of j

pub record RecordedArc (rows : List ℕ) (j i : ℕ) (masks : List ℕ) (di : ℕ) (S : List ℕ) (k : ℕ) (R : List ℕ) : Type 0 where
  pub sized : length R ≡ length S
  pub here : (b : ℕ) → b < k → get_or R (word_of j b i) 0 ≡ bit_and (bit_and (get_or rows b 0) (get_or masks b 0)) di
  pub there : (q : ℕ) → ((b : ℕ) → b < most_settings → q ≡ word_of j b i → ⊥) → get_or R q 0 ≡ get_or S q 0

module _ (rows : List ℕ) (j i : ℕ) (masks : List ℕ) (di : ℕ) (S : List ℕ) where
  pub arc_start : RecordedArc rows j i masks di S 0 S
  arc_start = record { sized = refl; here = λ b l. absurd (omega arith); there = λ q _. refl }

  pub arc_turn : (k : ℕ) (R : List ℕ) (x : ℕ) → k < most_settings → word_of j k i < length R
      → x ≡ bit_and (bit_and (get_or rows k 0) (get_or masks k 0)) di
      → RecordedArc rows j i masks di S k R → RecordedArc rows j i masks di S (k + 1) (set R (word_of j k i) x)
  arc_turn k R x h l e p = record {
    sized = length-set R _ x ∙ p.sized;
    here = λ b m. ⊎_elim
        (λ (q : b ≡ k). rw q (get_or-set_same R (word_of j k i) x 0 l ∙ e))
        (λ q. get_or-set_other R (word_of j k i) (word_of j b i) x 0 (λ z. absurd (omega arith)) ∙ p.here b q)
        (eq-or-lt_of_le (let z : b ≤ k = omega arith in z));
    there = λ q d. get_or-set_other R (word_of j k i) q x 0 (λ z. d k h z) ∙ p.there q d;
  }

-- ---- the arcs (i, j) of all fields i of near: those of `left` are still to come

pub record RecordedArcs (rows : ℕ → List ℕ) (j near : ℕ) (D S : List ℕ) (left : ℕ) (R : List ℕ) : Type 0 where
  pub sized : length R ≡ length S
  pub lefts : Within left near
  pub here : (i b : ℕ) → bit near i ≡ true → bit left i ≡ false → b < most_settings
      → get_or R (word_of j b i) 0 ≡ bit_and (bit_and (get_or (rows i) b 0) (flood (get_or D j 0) b)) (get_or D i 0)
  pub beside : (i b : ℕ) → i < most_fields → bit near i ≡ false → get_or R (word_of j b i) 0 ≡ get_or S (word_of j b i) 0
  pub there : (q : ℕ) → ((q < word_of j 0 0) ⊎ (word_of (j + 1) 0 0 ≤ q)) → get_or R q 0 ≡ get_or S q 0

module _ (rows : ℕ → List ℕ) (j near : ℕ) (D S : List ℕ) where
  pub arcs_start : RecordedArcs rows j near D S near S
  arcs_start = record {
    sized = refl;
    lefts = λ v e. e;
    here = λ i b e z. absurd (never e z);
    beside = λ i b l e. refl;
    there = λ q o. refl;
  }

  pub arcs_turn : (left : ℕ) (R : List ℕ) (i : ℕ) (masks : List ℕ) (Q : List ℕ) → i < most_fields → bit left i ≡ true
      → ((v : ℕ) → bit near v ≡ true → v < most_fields) → Floods (get_or D j 0) most_settings masks
      → RecordedArcs rows j near D S left R → RecordedArc (rows i) j i masks (get_or D i 0) R most_settings Q
      → RecordedArcs rows j near D S (clear left i) Q
  arcs_turn left R i masks Q l e few fl p r = record {
    sized = r.sized ∙ p.sized;
    lefts = λ v x. p.lefts v (clear_within left i v x);
    here = λ g b x y h. ⊎_elim
        (λ (q : g ≡ i). rw q (r.here b h ∙ rw (fl.each b h)))
        (λ q. r.there _ (λ c k z. absurd (q (omega (arith, few g x)))) ∙ p.here g b x (sym (clear-other left i g q) ∙ y) h)
        (eq_cases g i);
    beside = λ g b h x.
        r.there _ (λ c k z. never (p.lefts i e) (ap (bit near) (let y : i ≡ g = omega arith in y) ∙ x)) ∙ p.beside g b h x;
    there = λ q o. r.there q (λ c k z. ⊎_elim (λ x. omega arith) (λ x. omega arith) o) ∙ p.there q o;
  }

-- ---- what they are in the problem that the tables hold

module _ (n : ℕ) (joined forward turned : List ℕ) (wired : Wired n joined forward turned) (D S : List ℕ) (small : Small D) (j : ℕ)
    (empty : (q : ℕ) → word_of j 0 0 ≤ q → get_or S q 0 ≡ 0) (R : List ℕ)
    (p : RecordedArcs (λ i. rows_of forward turned j i) j (get_or joined j 0) D S 0 R) where
  few : n ≤ most_fields
  few = wired.few

  -- one bit of a word of an arc
  arc_bit : (row own di b a : ℕ) → bit (bit_and (bit_and row (flood own b)) di) a ≡ ((bit row a && bit (flood own b) a) && bit di a)
  arc_bit row own di b a = bit-and (bit_and row (flood own b)) di a ∙ ap (λ (x : Bool). x && bit di a) (bit-and row (flood own b) a)

  pub recorded : Recorded (rule_problem n joined forward turned) D S j R
  unfolding rule_problem supports has
  recorded = record {
    sized = p.sized;
    here = λ b i a h l. ⊎_elim
        (λ e. ap (λ (x : ℕ). bit x a) (p.here i b e (bit_of-zero i) h)
        ∙ arc_bit (get_or (rows_of forward turned j i) b 0) (get_or D j 0) (get_or D i 0) b a
        ∙ iff_eq _ _
        (λ x. let y = and_l _ (bit (get_or D i 0) a) x in
        and-by _ _ e (and-by _ _ (flood-at (get_or D j 0) b a (and_r (bit (get_or (rows_of forward turned j i) b 0) a) _ y))
        (and-by _ _ (and_r (bit (get_or (rows_of forward turned j i) b 0) a && bit (flood (get_or D j 0) b) a) _ x)
        (and-by _ _ e (and_l _ _ y)))))
        (λ x. let y = and_r (bit (get_or joined j 0) i) _ x in
        let z = and_r (bit (get_or D j 0) b) _ y in
        let k = and_l (bit (get_or D i 0) a) _ z in
        let w = and_r (bit (get_or joined j 0) i) _ (and_r (bit (get_or D i 0) a) _ z) in
        and-by _ _ (and-by _ _ w
        (flood-by (get_or D j 0) b a (let m = bit_bound most_settings (get_or D i 0) a (small i) k in omega arith) (and_l _ _ y))) k))
        (λ e. ap (λ (x : ℕ). bit x a) (p.beside i b (omega (arith, few)) e ∙ empty _ (omega arith)) ∙ bit_of-zero a ∙ sym (rw e))
        (bool_cases (bit (get_or joined j 0) i));
    there = λ g b i a d h l. ap (λ (x : ℕ). bit x a) (p.there _ (apart g b i d h (omega (arith, few))));
    later = λ q h. p.there q (inr (omega arith));
  }
    where
      apart : (g b i : ℕ) → (g ≡ j → ⊥) → b < most_settings → i < most_fields
          → (word_of g b i < word_of j 0 0) ⊎ (word_of (j + 1) 0 0 ≤ word_of g b i)
      apart g b i d h l = ⊎_elim (λ q. let x = ltb-true g j q in inl (omega arith))
          (λ q. let x = ltb-false g j q in inr (omega arith)) (bool_cases (ltb g j))
