-- What tables that were filled from a sheet hold: its problem. Assumes nothing.
use Rattle.std.specs.Prelude.{◌≡◌, refl, Bool, true, false, ◌&&◌, List, [], ℕ, ◌+◌, ◌*◌, ◌≤◌, ◌<◌, drop}
use Rattle.std.proofs.Math.Path.{sym, ap}
use Rattle.std.proofs.Common.{ap₂, ◌∙◌, ⊎_elim, length-take, get_or-take, get_or-drop}
use Rattle.std.proofs.Math.Bool.{and-false}
use native.Mathlib.Omega.{arith}
use Rattle.std.proofs.Math.Dec.{ltb}
use Rattle.std.proofs.Math.ListN.{length, get_or, get_or-eq_default}
use borrow.Author.Tests.{ltb-true, ltb-false, lt-ltb, le-ltb}
use Rattle.limits.specs.Limits.{most_fields, most_settings, table_words}
use Rattle.masks.specs.Tests.{never, not_so, bool_cases, iff_eq, and_l, and_r, and-by, or_l, or_r, or_at, some_below, some_below-at}
use Rattle.masks.specs.Tests.{some_below-by}
use Rattle.masks.specs.Bits.{bit}
use Rattle.masks.proofs.Bits.{bit_of-zero}
use Rattle.masks.specs.Masks.{mask_of}
use Rattle.masks.proofs.Masks.{bit-mask_of}
use Rattle.consistency.specs.Revising.{rules_only}
use Rattle.sheet.specs.Sources.{Accepted}
use Rattle.accepted.specs.Parts.{fields_of, count_of, rules_of, first_of, second_of, rule_allows}
use Rattle.accepted.specs.Facts.{Facts, facts}
use Rattle.accepted.specs.Order.{no_pair-twice}
use Rattle.network.specs.Slots.{slot, slot_bound}
use Rattle.network.specs.Tables.{slot_rows, rows_of, rule_problem, Wired}
use Rattle.network.specs.SheetProblem.{runs, runs-at, pairs, joins, allows_pair, sheet_problem, rules-symmetric}

-- row v of rule r in the forward table, and row u in the turned one; 0 past the field's settings
abbrev pub row_of : List ℕ → ℕ → ℕ → ℕ
row_of xs r v = mask_of (count_of xs (second_of xs r)) (λ u. ltb v (count_of xs (first_of xs r)) && rule_allows xs r v u)

abbrev pub column_of : List ℕ → ℕ → ℕ → ℕ
column_of xs r u = mask_of (count_of xs (first_of xs r)) (λ v. ltb u (count_of xs (second_of xs r)) && rule_allows xs r v u)

-- the slot of rule r
abbrev pub slot_of : List ℕ → ℕ → ℕ
slot_of xs r = slot (first_of xs r) (second_of xs r)

-- The tables hold the first k rules.
pub record Holds (xs : List ℕ) (k : ℕ) (joined forward turned : List ℕ) : Type 0 where
  pub forwards : table_words ≤ length forward
  pub turneds : table_words ≤ length turned
  pub marks : length joined ≡ most_fields
  pub rows : (r v : ℕ) → r < k → v < most_settings → get_or forward (slot_of xs r * most_settings + v) 0 ≡ row_of xs r v
  pub columns : (r u : ℕ) → r < k → u < most_settings → get_or turned (slot_of xs r * most_settings + u) 0 ≡ column_of xs r u
  pub masks : (f g : ℕ) → bit (get_or joined f 0) g ≡ some_below k (joins xs f g)

module _ (xs : List ℕ) (a : Accepted xs) where
  fs : Facts xs
  fs = facts xs a

  -- the fields of a rule
  ends : (r : ℕ) → r < rules_of xs → (first_of xs r < second_of xs r) × (second_of xs r < fields_of xs) × (fields_of xs ≤ most_fields)
  ends r h = (fs.apart r h, fs.within r h, fs.fields-few)

  join_ends : (f g : ℕ) → some_below (rules_of xs) (joins xs f g) ≡ true → (f < fields_of xs) × (g < fields_of xs) × (f ≡ g → ⊥)
  join_ends f g e =
      let x = some_below-at (rules_of xs) (joins xs f g) e in
      let n = ends x.0 x.1 in
      let l = n.0 in
      let m = n.1 in
      ⊎_elim (λ q. let y = runs-at xs f g x.0 q in let p = y.0 in let s = y.1 in (omega arith, omega arith, λ z. omega arith))
      (λ q. let y = runs-at xs g f x.0 q in let p = y.0 in let s = y.1 in (omega arith, omega arith, λ z. omega arith))
      (or_at (runs xs f g x.0) _ x.2)

  -- one rule joins a pair
  one-rule : (f g r s : ℕ) → r < rules_of xs → s < rules_of xs → runs xs f g r ≡ true → runs xs f g s ≡ true → r ≡ s
  one-rule f g r s h k p q =
      let x = runs-at xs f g r p in
      let y = runs-at xs f g s q in
      let n : ¬ (r < s) = λ l. no_pair-twice xs fs r s l k (x.0 ∙ sym y.0) (x.1 ∙ sym y.1) in
      let m : ¬ (s < r) = λ l. no_pair-twice xs fs s r l h (y.0 ∙ sym x.0) (y.1 ∙ sym x.1) in
      omega arith

  not-both : (f g r s : ℕ) → r < rules_of xs → s < rules_of xs → runs xs f g r ≡ true → runs xs g f s ≡ true → ⊥
  not-both f g r s h k p q =
      let x = runs-at xs f g r p in
      let y = runs-at xs g f s q in
      let i = x.0 in
      let j = x.1 in
      let u = y.0 in
      let w = y.1 in
      let m = (ends r h).0 in
      let n = (ends s k).0 in
      omega arith

  -- what the rule from f to g allows is what is allowed
  allowed-by : (f g v u r : ℕ) → r < rules_of xs → runs xs f g r ≡ true
      → (some_below (rules_of xs) (allows_pair xs f g v u) ≡ pairs xs f g v u r)
      × (some_below (rules_of xs) (allows_pair xs g f u v) ≡ pairs xs f g v u r)
  allowed-by f g v u r h e = (
    iff_eq _ _
        (λ y. let x = some_below-at (rules_of xs) (allows_pair xs f g v u) y in ⊎_elim
        (λ q. let z : r ≡ x.0 = one-rule f g r x.0 h x.1 e (and_l (runs xs f g x.0) _ q) in rw z (and_r (runs xs f g x.0) _ q))
        (λ q. absurd (not-both f g r x.0 h x.1 e (and_l _ _ q)))
        (or_at (runs xs f g x.0 && pairs xs f g v u x.0) _ x.2))
        (λ y. some_below-by (rules_of xs) (allows_pair xs f g v u) r h (or_l _ _ (and-by _ _ e y))),
    iff_eq _ _
        (λ y. let x = some_below-at (rules_of xs) (allows_pair xs g f u v) y in ⊎_elim
        (λ q. absurd (not-both f g r x.0 h x.1 e (and_l _ _ q)))
        (λ q. let z : r ≡ x.0 = one-rule f g r x.0 h x.1 e (and_l (runs xs f g x.0) _ q) in rw z (and_r (runs xs f g x.0) _ q))
        (or_at (runs xs g f x.0 && pairs xs g f u v x.0) _ x.2))
        (λ y. some_below-by (rules_of xs) (allows_pair xs g f u v) r h (or_r (runs xs g f r && pairs xs g f u v r) _ (and-by _ _ e y))),
  )

  module _ (joined forward turned : List ℕ) (t : Holds xs (rules_of xs) joined forward turned) where
    -- a row as it is read
    part_at : (table : List ℕ) (s v : ℕ) → s * most_settings + most_settings ≤ length table → v < most_settings
        → get_or (slot_rows table s) v 0 ≡ get_or table (s * most_settings + v) 0
    part_at table s v h l = get_or-take most_settings (drop (s * most_settings) table) v 0 l ∙ get_or-drop (s * most_settings) table v 0

    part-past : (table : List ℕ) (s v : ℕ) → most_settings ≤ v → get_or (slot_rows table s) v 0 ≡ 0
    part-past table s v h = get_or-eq_default (slot_rows table s) 0 (simp (length-take) (omega arith))

    module _ (f g r : ℕ) (h : r < rules_of xs) (e : runs xs f g r ≡ true) where
      below : f < g
      below = let x = runs-at xs f g r e in let p = x.0 in let s = x.1 in let n = (ends r h).0 in omega arith

      slot_is : slot_of xs r ≡ slot f g
      slot_is = let x = runs-at xs f g r e in ap₂ slot x.0 x.1

      counts : (count_of xs (first_of xs r) ≡ count_of xs f) × (count_of xs (second_of xs r) ≡ count_of xs g)
      counts = let x = runs-at xs f g r e in (ap (count_of xs) x.0, ap (count_of xs) x.1)

      few : (count_of xs f ≤ most_settings) × (count_of xs g ≤ most_settings)
      few =
          let x = runs-at xs f g r e in
          let n = ends r h in
          let l = n.0 in
          let m = n.1 in
          let p = x.0 in
          let q = x.1 in
          (fs.count-few f (omega arith), fs.count-few g (omega arith))

      -- position u of row v of f towards g
      same_row : (v u : ℕ) → bit (get_or (rows_of forward turned f g) v 0) u ≡ pairs xs f g v u r
      unfolding rows_of pairs
      same_row v u = rw (lt-ltb f g below) (⊎_elim
          (λ q. let l = ltb-true v most_settings q in
          let same = ap (λ (s : ℕ). get_or forward (s * most_settings + v) 0) (sym slot_is) in
          ap (λ (m : ℕ). bit m u) (part_at forward (slot f g) v room l ∙ same ∙ t.rows r v h l)
          ∙ bit-mask_of (count_of xs (second_of xs r)) (λ u. ltb v (count_of xs (first_of xs r)) && rule_allows xs r v u) u
          ∙ rw (counts.0, counts.1) (turn (ltb u (count_of xs g)) (ltb v (count_of xs f)) (rule_allows xs r v u)))
          (λ q. ap (λ (m : ℕ). bit m u) (part-past forward (slot f g) v (ltb-false v most_settings q)) ∙ bit_of-zero u
          ∙ sym (ap (λ (b : Bool). b && (ltb u (count_of xs g) && rule_allows xs r v u))
          (le-ltb v (count_of xs f) (let l = ltb-false v most_settings q in let m = few.0 in omega arith))))
          (bool_cases (ltb v most_settings)))
        where
          room : slot f g * most_settings + most_settings ≤ length forward
          room =
              let s = slot_bound f g below
              (let n = ends r h in let x = (runs-at xs f g r e).1 in let m = n.1 in let k = n.2 in omega arith) in
              let l = t.forwards in
              omega arith

          turn : (a b c : Bool) → (a && (b && c)) ≡ (b && (a && c))
          turn true b c = refl
          turn false true c = refl
          turn false false c = refl

      -- position v of row u of g towards f
      same_column : (v u : ℕ) → bit (get_or (rows_of forward turned g f) u 0) v ≡ pairs xs f g v u r
      unfolding rows_of pairs
      same_column v u = rw (le-ltb g f (let b = below in omega arith)) (⊎_elim
          (λ q. let l = ltb-true u most_settings q in
          let same = ap (λ (s : ℕ). get_or turned (s * most_settings + u) 0) (sym slot_is) in
          ap (λ (m : ℕ). bit m v) (part_at turned (slot f g) u room l ∙ same ∙ t.columns r u h l)
          ∙ bit-mask_of (count_of xs (first_of xs r)) (λ v. ltb u (count_of xs (second_of xs r)) && rule_allows xs r v u) v
          ∙ rw (counts.0, counts.1))
          (λ q. ap (λ (m : ℕ). bit m v) (part-past turned (slot f g) u (ltb-false u most_settings q)) ∙ bit_of-zero v
          ∙ sym (ap (λ (b : Bool). ltb v (count_of xs f) && (b && rule_allows xs r v u))
          (le-ltb u (count_of xs g) (let l = ltb-false u most_settings q in let m = few.1 in omega arith))
          ∙ and-false (ltb v (count_of xs f))))
          (bool_cases (ltb u most_settings)))
        where
          room : slot f g * most_settings + most_settings ≤ length turned
          room =
              let s = slot_bound f g below
              (let n = ends r h in let x = (runs-at xs f g r e).1 in let m = n.1 in let k = n.2 in omega arith) in
              let l = t.turneds in
              omega arith

    same-allowed : (f g v u : ℕ)
        → (bit (get_or joined f 0) g && bit (get_or (rows_of forward turned f g) v 0) u) ≡ some_below (rules_of xs) (allows_pair xs f g v u)
    same-allowed f g v u = ap (λ (b : Bool). b && bit (get_or (rows_of forward turned f g) v 0) u) (t.masks f g)
        ∙ cases (some_below (rules_of xs) (joins xs f g)) refl
      where
        cases : (b : Bool) → some_below (rules_of xs) (joins xs f g) ≡ b
            → (b && bit (get_or (rows_of forward turned f g) v 0) u) ≡ some_below (rules_of xs) (allows_pair xs f g v u)
        cases true e =
            let x = some_below-at (rules_of xs) (joins xs f g) e in ⊎_elim
            (λ q. same_row f g x.0 x.1 q v u ∙ sym (allowed-by f g v u x.0 x.1 q).0)
            (λ q. same_column g f x.0 x.1 q u v ∙ sym (allowed-by g f u v x.0 x.1 q).1)
            (or_at (runs xs f g x.0) (runs xs g f x.0) x.2)
        cases false e = sym (not_so _ (λ y.
            let x = some_below-at (rules_of xs) (allows_pair xs f g v u) y in
            never (some_below-by (rules_of xs) (joins xs f g) x.0 x.1 (⊎_elim
            (λ q. or_l (runs xs f g x.0) (runs xs g f x.0) (and_l (runs xs f g x.0) (pairs xs f g v u x.0) q))
            (λ q. or_r (runs xs f g x.0) (runs xs g f x.0) (and_l (runs xs g f x.0) (pairs xs g f u v x.0) q))
            (or_at (runs xs f g x.0 && pairs xs f g v u x.0) (runs xs g f x.0 && pairs xs g f u v x.0) x.2))) e))

    -- The tables hold the sheet's rules over two fields.
    pub tables_hold : rule_problem (fields_of xs) joined forward turned ≡ rules_only (sheet_problem xs)
    unfolding rule_problem sheet_problem
    tables_hold = λ i. record {
      fields = fields_of xs;
      joined = λ f g. t.masks f g i;
      allowed = λ f g v u. same-allowed f g v u i;
      sheet = [];
      triples = [];
    }

    -- and are what the engines ask
    pub tables-wired : Wired (fields_of xs) joined forward turned
    tables-wired = record {
      few = fs.fields-few;
      forwards = t.forwards;
      turneds = t.turneds;
      ends = λ f g e. join_ends f g (sym (t.masks f g) ∙ e);
      symmetric = rw tables_hold (rules-symmetric xs);
    }
