-- The tables of a sheet, filled rule after rule. Assumes nothing.
use Rattle.std.specs.Prelude.{◌≡◌, refl, ◌⊎◌, Bool, true, false, ◌||◌, List, ℕ, ◌+◌, ◌*◌, ◌^◌, ◌≤◌, ◌<◌, eqb, ltb, length, get_or, set}
use Rattle.std.specs.Prelude.{replicate}
use Rattle.std.proofs.Common.{sym, ap, ◌∙◌, inl, inr, ⊎_elim, eq-or-lt_of_le, add-one, arith, length-set, get_or-set_same, get_or-set_other}
use Rattle.std.proofs.Common.{eqb-true, eq-eqb, ltb-true, ltb-false}
use Rattle.std.specs.Int.Bits.{bit_or}
use Rattle.std.proofs.lemmas.List.{length-replicate}
use Rattle.limits.specs.Limits.{most_fields, most_settings, most_rules, rows_words, table_words}
use Rattle.masks.specs.Tests.{not_so, bool_cases, eq_cases, iff_eq, and-by, or_l, or_r, or_at, some_below}
use Rattle.masks.specs.Bits.{bit}
use Rattle.masks.proofs.Bits.{bit_of-zero}
use Rattle.masks.proofs.Words.{bit-or, bit-one}
use Rattle.masks.specs.Sets.{get_d_zeros}
use Rattle.sheet.specs.Sources.{Accepted}
use Rattle.accepted.specs.Parts.{rules_of, rule_start, first_of, second_of}
use Rattle.accepted.specs.Facts.{Facts, facts}
use Rattle.accepted.specs.Order.{no_pair-twice}
use Rattle.network.specs.Slots.{slot_bound, slot_unique}
use Rattle.network.specs.Tables.{forward_of, turned_of, tables-room}
use Rattle.network.specs.SheetProblem.{runs, runs-at, joins}
use Rattle.network.specs.Stored.{Stored}
use Rattle.network.specs.Built.{row_of, column_of, slot_of, Holds}
use Rattle.network.specs.RuleRows.{RuleStored}

-- ---- one rule more

-- the joined fields of i with j added, and with i and j joined
abbrev pub with_one : List ℕ → ℕ → ℕ → List ℕ
with_one joined i j = set joined i (bit_or (get_or joined i 0) (2 ^ j))

abbrev pub joined_with : List ℕ → ℕ → ℕ → List ℕ
joined_with joined i j = with_one (with_one joined i j) j i

pub holds-start : (xs forward turned : List ℕ) → table_words ≤ length forward → table_words ≤ length turned
    → Holds xs 0 (replicate most_fields 0) forward turned
unfolding some_below
holds-start xs forward turned a b = record {
  forwards = a;
  turneds = b;
  marks = length-replicate {A = ℕ} most_fields 0;
  rows = λ r v l. absurd (omega arith);
  columns = λ r u l. absurd (omega arith);
  masks = λ f g. ap (λ (m : ℕ). bit m g) (get_d_zeros most_fields f) ∙ bit_of-zero g;
}

module _ (xs : List ℕ) (a : Accepted xs) (r : ℕ) (h : r < rules_of xs) where
  fs : Facts xs
  fs = facts xs a

  pub rule_bounds : (first_of xs r < second_of xs r) × (second_of xs r < most_fields) × (slot_of xs r < most_rules)
  rule_bounds =
      let l = fs.apart r h in
      let m = fs.within r h in
      let n = fs.fields-few in
      let k : second_of xs r < most_fields = omega arith in
      (l, k, slot_bound (first_of xs r) (second_of xs r) l k)

  -- the slots of earlier rules are others
  apart : (q v : ℕ) → q < r → v < most_settings
      → (slot_of xs q * most_settings + v < slot_of xs r * most_settings)
      ⊎ (slot_of xs r * most_settings + most_settings ≤ slot_of xs q * most_settings + v)
  apart q v l w = ⊎_elim (λ e. inl (let k = ltb-true (slot_of xs q) (slot_of xs r) e in omega arith))
      (λ e. inr (let k = ltb-false (slot_of xs q) (slot_of xs r) e in let d = differ in omega arith))
      (bool_cases (ltb (slot_of xs q) (slot_of xs r)))
    where
      differ : ¬ (slot_of xs q ≡ slot_of xs r)
      differ e =
          let u = slot_unique (first_of xs q) (second_of xs q) (first_of xs r) (second_of xs r) (fs.apart q (let k = h in omega arith))
          (fs.apart r h) e in
          no_pair-twice xs fs q r l h u.0 u.1

  -- joining i and j adds rule r to the joined fields
  runs_here : runs xs (first_of xs r) (second_of xs r) r ≡ true
  unfolding runs
  runs_here = and-by _ _ (eq-eqb (first_of xs r) (first_of xs r) refl) (eq-eqb (second_of xs r) (second_of xs r) refl)

  module _ (joined forward turned : List ℕ) (t : Holds xs r joined forward turned) where
    near : first_of xs r ≡ second_of xs r → ⊥
    near e = let l = rule_bounds.0 in omega arith

    old : (f g : ℕ) → joins xs f g r ≡ false → some_below (r + 1) (joins xs f g) ≡ some_below r (joins xs f g)
    unfolding some_below
    old f g e = rw (add-one r, e)

    new : (f g : ℕ) → joins xs f g r ≡ true → some_below (r + 1) (joins xs f g) ≡ true
    unfolding some_below
    new f g e = rw (add-one r, e)

    -- one mask with one position more
    added : (f g : ℕ) (e : ℕ) → (bit (get_or joined f 0) e ≡ some_below r (joins xs f e)) → (joins xs f e r ≡ eqb e g)
        → bit (bit_or (get_or joined f 0) (2 ^ g)) e ≡ some_below (r + 1) (joins xs f e)
    added f g e m k = bit-or (get_or joined f 0) (2 ^ g) e ∙ ⊎_elim
        (λ q. rw (bit-one g e, q) (or_t (bit (get_or joined f 0) e)) ∙ sym (new f e (k ∙ q)))
        (λ q. rw (bit-one g e, q) (or-f (bit (get_or joined f 0) e)) ∙ m ∙ sym (old f e (k ∙ q)))
        (bool_cases (eqb e g))
      where
        or_t : (b : Bool) → (b || true) ≡ true
        or_t true = refl
        or_t false = refl

        or-f : (b : Bool) → (b || false) ≡ b
        or-f true = refl
        or-f false = refl

    joins-first : (e : ℕ) → joins xs (first_of xs r) e r ≡ eqb e (second_of xs r)
    joins-first e = iff_eq _ _
        (λ q. ⊎_elim (λ y. eq-eqb e (second_of xs r) (sym (runs-at xs (first_of xs r) e r y).1))
        (λ y. absurd (near (sym (runs-at xs e (first_of xs r) r y).1)))
        (or_at (runs xs (first_of xs r) e r) _ q))
        (λ q. or_l _ _ (ap (λ (x : ℕ). runs xs (first_of xs r) x r) (eqb-true e (second_of xs r) q) ∙ runs_here))

    joins-second : (e : ℕ) → joins xs (second_of xs r) e r ≡ eqb e (first_of xs r)
    joins-second e = iff_eq _ _
        (λ q. ⊎_elim (λ y. absurd (near (runs-at xs (second_of xs r) e r y).0))
        (λ y. eq-eqb e (first_of xs r) (sym (runs-at xs e (second_of xs r) r y).0))
        (or_at (runs xs (second_of xs r) e r) _ q))
        (λ q. or_r (runs xs (second_of xs r) e r) _ (ap (λ (x : ℕ). runs xs x (second_of xs r) r) (eqb-true e (first_of xs r) q)
        ∙ runs_here))

    first-low : first_of xs r < length joined
    first-low = let b = rule_bounds in let l = b.0 in let m = b.1 in let n = t.marks in omega arith

    second-low : second_of xs r < length (with_one joined (first_of xs r) (second_of xs r))
    second-low =
        rw (length-set joined (first_of xs r) (bit_or (get_or joined (first_of xs r) 0) (2 ^ second_of xs r)))
        (let m = rule_bounds.1 in let n = t.marks in omega arith)

    masks-next : (f g : ℕ) → bit (get_or (joined_with joined (first_of xs r) (second_of xs r)) f 0) g ≡ some_below (r + 1) (joins xs f g)
    masks-next f g = ⊎_elim
        (λ (q : f ≡ second_of xs r). rw q (
        ap (λ (m : ℕ). bit m g) (get_or-set_same (with_one joined (first_of xs r) (second_of xs r)) (second_of xs r) _ 0 second-low
        ∙ ap (λ (m : ℕ). bit_or m (2 ^ first_of xs r))
        (get_or-set_other joined (first_of xs r) (second_of xs r) (bit_or (get_or joined (first_of xs r) 0) (2 ^ second_of xs r)) 0
        (λ e. near (sym e))))
        ∙ added (second_of xs r) (first_of xs r) g (t.masks (second_of xs r) g) (joins-second g)))
        (λ q. ap (λ (m : ℕ). bit m g)
        (get_or-set_other (with_one joined (first_of xs r) (second_of xs r)) (second_of xs r) f
        (bit_or (get_or (with_one joined (first_of xs r) (second_of xs r)) (second_of xs r) 0) (2 ^ first_of xs r)) 0 q) ∙ ⊎_elim
        (λ (p : f ≡ first_of xs r). rw p (ap (λ (m : ℕ). bit m g) (get_or-set_same joined (first_of xs r) _ 0 first-low)
        ∙ added (first_of xs r) (second_of xs r) g (t.masks (first_of xs r) g) (joins-first g)))
        (λ p. ap (λ (m : ℕ). bit m g) (get_or-set_other joined (first_of xs r) f _ 0 p) ∙ t.masks f g
        ∙ sym (old f g (not_so _
        (λ e. ⊎_elim (λ y. p (sym (runs-at xs f g r y).0)) (λ y. q (sym (runs-at xs g f r y).1))
        (or_at (runs xs f g r) (runs xs g f r) e)))))
        (eq_cases f (first_of xs r)))
        (eq_cases f (second_of xs r))

    pub holds-next : (forward' turned' : List ℕ) → Stored forward (slot_of xs r * most_settings) (row_of xs r) most_settings forward'
        → Stored turned (slot_of xs r * most_settings) (column_of xs r) most_settings turned'
        → Holds xs (r + 1) (joined_with joined (first_of xs r) (second_of xs r)) forward' turned'
    holds-next forward' turned' p q = record {
      forwards = let l = t.forwards in let z = p.sized in omega arith;
      turneds = let l = t.turneds in let z = q.sized in omega arith;
      marks = simp length-set t.marks;
      rows = λ s v l w. ⊎_elim (λ (e : s ≡ r). rw e (p.here v w))
          (λ e. p.there (slot_of xs s * most_settings + v) (apart s v e w) ∙ t.rows s v e w)
          (eq-or-lt_of_le (let k : s ≤ r = omega arith in k));
      columns = λ s u l w. ⊎_elim (λ (e : s ≡ r). rw e (q.here u w))
          (λ e. q.there (slot_of xs s * most_settings + u) (apart s u e w) ∙ t.columns s u e w)
          (eq-or-lt_of_le (let k : s ≤ r = omega arith in k));
      masks = masks-next;
    }

-- ---- the loop over the rules

-- The tables with the first r rules in them, the next rule standing at `place`.
pub record Filled (xs rows0 : List ℕ) (r place : ℕ) (joined rows : List ℕ) : Type 0 where
  pub accepted : Accepted xs
  pub within : r ≤ rules_of xs
  pub at : place ≡ rule_start xs r
  pub room : rows_words ≤ length rows
  pub sized : length rows ≡ length rows0
  pub holds : Holds xs r joined (forward_of rows) (turned_of rows)

module _ (xs rows0 : List ℕ) where
  pub filled_start : (place : ℕ) → Accepted xs → rows_words ≤ length rows0 → place ≡ rule_start xs 0
      → Filled xs rows0 0 place (replicate most_fields 0) rows0
  filled_start place a b e = record {
    accepted = a;
    within = omega arith;
    at = e;
    room = b;
    sized = refl;
    holds = let l = tables-room rows0 b in holds-start xs _ _ l.0 l.1;
  }

  module _ (r place : ℕ) (joined rows : List ℕ) (p : Filled xs rows0 r place joined rows) (h : r < rules_of xs) where
    pub filled_next : (i j next : ℕ) (joined' rows' : List ℕ) → i ≡ first_of xs r → j ≡ second_of xs r → joined' ≡ joined_with joined i j
        → next ≡ rule_start xs (r + 1) → RuleStored xs r rows rows' → Filled xs rows0 (r + 1) next joined' rows'
    filled_next i j next joined' rows' a b e k s = record {
      accepted = p.accepted;
      within = omega arith;
      at = k;
      room = let z = s.sized in let l = p.room in omega arith;
      sized = s.sized ∙ p.sized;
      holds = rw (e, a, b) (holds-next xs p.accepted r h joined _ _ p.holds _ _ s.forward s.turned);
    }
