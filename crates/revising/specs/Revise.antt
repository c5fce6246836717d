-- The revision of a set under one triple rule of the table. Assumes nothing.
use Rattle.std.specs.Prelude.{◌≡◌, refl, Bool, false, ◌&&◌, List, ltb, length, get_or, set}
use Rattle.std.proofs.Math.Path.{sym, ap, ap₂}
use Rattle.std.proofs.Common.{◌∙◌, ⊎_elim}
use Rattle.std.proofs.Math.Bool.{true, not, ◌||◌, xor}
use Prim.Native.Nat.{ℕ, ◌+◌, ◌*◌, ◌^◌, ◌≤◌, ◌<◌}
use native.Mathlib.Omega.{arith}
use Rattle.std.specs.Int.Bits.{bit_and, bit_or, bit_xor}
use Rattle.std.proofs.Math.Dec.{eqb}
use Rattle.std.proofs.Math.ListN.{length-set}
use Rattle.std.proofs.Math.Seq.{get_or-set_same, get_or-set_other}
use borrow.Author.Tests.{eqb-true, eq-eqb, lt-ltb, not-true}
use Rattle.limits.specs.Limits.{most_fields, most_settings}
use Rattle.masks.specs.Tests.{never, not_so, bool_cases, iff_eq, and_l, and_r, and-by}
use Rattle.masks.specs.Bits.{bit}
use Rattle.masks.proofs.Bits.{bit_of-zero, bit_bound}
use Rattle.masks.proofs.Words.{bit-and, bit-or, bit-xor, bit-one}
use Rattle.masks.specs.Sets.{has, length-only}
use Rattle.masks.proofs.Sets.{has_ext}
use Rattle.consistency.specs.Problem.{Triple, has_field, has_first, has-second, has-third, field-cases, Problem}
use Rattle.consistency.specs.Triples.{Together, together}
use Rattle.consistency.proofs.Triples.{together_at, together-by}
use Rattle.consistency.specs.Revising.{revised, length-revised, revised_⊆}
use Rattle.consistency.proofs.Revising.{revised-at, revised-by}
use Rattle.network.specs.TripleTable.{triple_count, triple_block, triple_rows, word_at, triple_in, problem_of, TripleTable}
use Rattle.pruning.specs.Drop.{dropped, has-dropped}
use Rattle.revising.specs.Support.{Supported3}
use Rattle.revising.specs.Table.{free_mask, free-small, free-at, free-by}

-- What a revision under triple rule t of the table gives: three masks of supported positions, its fields in W, and what these lack.
pub record Revision (T : List ℕ) (t W : ℕ) (D : List ℕ) (near : ℕ) (none : List ℕ) : Type 0 where
  pub first : ℕ
  pub second : ℕ
  pub third : ℕ
  pub support : Supported3 T (triple_rows t) (free_mask T W D (triple_in T t).first) (free_mask T W D (triple_in T t).second)
      (free_mask T W D (triple_in T t).third) 0 first second third
  pub near-is : (f : ℕ) → bit near f ≡ (has_field (triple_in T t) f && bit W f)
  pub none_first : (v : ℕ) → has none (triple_in T t).first v ≡ (has D (triple_in T t).first v && not (bit first v))
  pub none-second : (v : ℕ) → has none (triple_in T t).second v ≡ (has D (triple_in T t).second v && not (bit second v))
  pub none-third : (v : ℕ) → has none (triple_in T t).third v ≡ (has D (triple_in T t).third v && not (bit third v))

-- ---- as the code makes it

without-kept : (d kept v : ℕ) → bit (bit_xor d (bit_and d kept)) v ≡ (bit d v && not (bit kept v))
unfolding xor
without-kept d kept v =
    bit-xor d (bit_and d kept) v ∙ ap (xor (bit d v)) (bit-and d kept v) ∙ go (bit d v) (bit kept v)
  where
    go : (a b : Bool) → xor a (a && b) ≡ (a && not b)
    go true true = refl
    go true false = refl
    go false b = refl

module _ (n : ℕ) (T : List ℕ) (x : TripleTable n T) (t : ℕ) (l : t < triple_count T) (few : n ≤ most_fields) where
  abbrev R : Triple
  R = triple_in T t

  fields-rise : ((triple_in T t).first < (triple_in T t).second) × ((triple_in T t).second < (triple_in T t).third)
      × ((triple_in T t).third < most_fields)
  fields-rise = let r = x.rise t l in let m = r.2 in (r.0, r.1, omega arith)

  -- what the parts of the code ask
  pub first-at : (triple_block t < length T) × (get_or T (triple_block t) 0 < most_fields)
  unfolding triple_in
  first-at = let long = x.long in let a = fields-rise.0 in let b = fields-rise.1 in let c = fields-rise.2 in (omega arith, omega arith)

  pub second_at : (triple_block t + 1 < length T) × (get_or T (triple_block t + 1) 0 < most_fields)
  unfolding triple_in
  second_at = let long = x.long in let b = fields-rise.1 in let c = fields-rise.2 in (omega arith, omega arith)

  pub third_at : (triple_block t + 2 < length T) × (get_or T (triple_block t + 2) 0 < most_fields)
  unfolding triple_in
  third_at = let long = x.long in (omega arith, fields-rise.2)

  pub rows_at : triple_rows t + most_settings * most_settings ≤ length T
  rows_at = let long = x.long in omega arith

  near_bits : (W f : ℕ)
      → bit (bit_and (bit_or (bit_or (2 ^ (triple_in T t).first) (2 ^ (triple_in T t).second)) (2 ^ (triple_in T t).third)) W) f
      ≡ (has_field (triple_in T t) f && bit W f)
  unfolding has_field
  near_bits W f = bit-and _ W f ∙ ap (λ (b : Bool). b && bit W f)
      (bit-or (bit_or (2 ^ R.first) (2 ^ R.second)) (2 ^ R.third) f
      ∙ ap₂ ◌||◌ (bit-or (2 ^ R.first) (2 ^ R.second) f ∙ ap₂ ◌||◌ (one R.first) (one R.second)) (one R.third)
      ∙ or_assoc (eqb R.first f) (eqb R.second f) (eqb R.third f))
    where
      one : (g : ℕ) → bit (2 ^ g) f ≡ eqb g f
      one g = bit-one g f ∙ iff_eq _ _ (λ e. eq-eqb g f (sym (eqb-true f g e))) (λ e. eq-eqb f g (sym (eqb-true g f e)))

      or_assoc : (a b c : Bool) → ((a || b) || c) ≡ (a || (b || c))
      or_assoc true b c = refl
      or_assoc false b c = refl

  pub revision-made : (W : ℕ) (D N : List ℕ) (first second third : ℕ) → length N ≡ most_fields
      → Supported3 T (triple_rows t) (free_mask T W D (triple_in T t).first) (free_mask T W D (triple_in T t).second)
      (free_mask T W D (triple_in T t).third) 0 first second third
      → Revision T t W D
      (bit_and (bit_or (bit_or (2 ^ (triple_in T t).first) (2 ^ (triple_in T t).second)) (2 ^ (triple_in T t).third)) W)
      (set (set (set N (triple_in T t).first (bit_xor (get_or D (triple_in T t).first 0)
      (bit_and (get_or D (triple_in T t).first 0) first)))
      (triple_in T t).second (bit_xor (get_or D (triple_in T t).second 0) (bit_and (get_or D (triple_in T t).second 0) second)))
      (triple_in T t).third (bit_xor (get_or D (triple_in T t).third 0) (bit_and (get_or D (triple_in T t).third 0) third)))
  unfolding has
  revision-made W D N first second third long s = let ij = fields-rise.0 in let jk = fields-rise.1 in let low = fields-rise.2 in record {
    first = first;
    second = second;
    third = third;
    support = s;
    near-is = near_bits W;
    none_first = λ v. ap (λ (m : ℕ). bit m v) (get_or-set_other N2 k i z 0 (λ e. omega arith)
        ∙ get_or-set_other N1 j i y 0 (λ e. omega arith)
        ∙ get_or-set_same N i w 0 (omega arith)) ∙ without-kept (get_or D i 0) first v;
    none-second = λ v. ap (λ (m : ℕ). bit m v) (get_or-set_other N2 k j z 0 (λ e. omega arith)
        ∙ get_or-set_same N1 j y 0 (let a = length-set N i w in omega arith)) ∙ without-kept (get_or D j 0) second v;
    none-third = λ v. ap (λ (m : ℕ). bit m v)
        (get_or-set_same N2 k z 0 (let a = length-set N i w in let b = length-set N1 j y in omega arith))
        ∙ without-kept (get_or D k 0) third v;
  }
    where
      i : ℕ
      i = (triple_in T t).first

      j : ℕ
      j = (triple_in T t).second

      k : ℕ
      k = (triple_in T t).third

      w : ℕ
      w = bit_xor (get_or D i 0) (bit_and (get_or D i 0) first)

      y : ℕ
      y = bit_xor (get_or D j 0) (bit_and (get_or D j 0) second)

      z : ℕ
      z = bit_xor (get_or D k 0) (bit_and (get_or D k 0) third)

      N1 : List ℕ
      N1 = set N i w

      N2 : List ℕ
      N2 = set N1 j y

  -- the same from what the parts of the code give
  pub revision_of : (W : ℕ) (D N : List ℕ) (i j k lower middle upper first second third a b c : ℕ) → length N ≡ most_fields
      → i ≡ get_or T (triple_block t) 0 → j ≡ get_or T (triple_block t + 1) 0 → k ≡ get_or T (triple_block t + 2) 0
      → lower ≡ free_mask T W D i → middle ≡ free_mask T W D j → upper ≡ free_mask T W D k
      → Supported3 T (triple_rows t) lower middle upper 0 first second third → a ≡ 2 ^ i → b ≡ 2 ^ j → c ≡ 2 ^ k
      → Revision T t W D (bit_and (bit_or (bit_or a b) c) W)
      (set (set (set N i (bit_xor (get_or D i 0) (bit_and (get_or D i 0) first))) j (bit_xor (get_or D j 0)
      (bit_and (get_or D j 0) second)))
      k (bit_xor (get_or D k 0) (bit_and (get_or D k 0) third)))
  unfolding triple_in
  revision_of W D N i j k lower middle upper first second third a b c long ei ej ek el em eu s ea eb ec =
      rw (ea, eb, ec, ei, ej, ek) (revision-made W D N first second third long (rw (ei, ej, ek) at (rw (el, em, eu) at s)))

  -- ---- what it means: the set without these is the set revised

  module _ (joined forward turned : List ℕ) (W : ℕ) (D : List ℕ) (near : ℕ) (none : List ℕ) (r : Revision T t W D near none) where
    abbrev P : Problem
    P = problem_of n joined forward turned T

    low : (g : ℕ) → has_field (triple_in T t) g ≡ true → g < most_fields
    low g e =
        let a = fields-rise.0 in
        let b = fields-rise.1 in
        let c = fields-rise.2 in
        ⊎_elim (λ (q : (triple_in T t).first ≡ g). omega arith)
        (⊎_elim (λ (q : (triple_in T t).second ≡ g). omega arith) (λ (q : (triple_in T t).third ≡ g). omega arith))
        (field-cases (triple_in T t) g e)

    -- the three masks say which positions are supported
    position-low : (g v : ℕ) → has_field (triple_in T t) g ≡ true → bit (free_mask T W D g) v ≡ true → v < most_settings
    position-low g v h e = bit_bound most_settings (free_mask T W D g) v (free-small n T W D g x (low g h)) e

    three : (p q u : ℕ) → bit (free_mask T W D (triple_in T t).first) p ≡ true → bit (free_mask T W D (triple_in T t).second) q ≡ true
        → bit (free_mask T W D (triple_in T t).third) u ≡ true → bit (word_at T (triple_rows t) p q) u ≡ true → (f v : ℕ)
        → ((triple_in T t).first ≡ f → p ≡ v) → ((triple_in T t).second ≡ f → q ≡ v) → ((triple_in T t).third ≡ f → u ≡ v)
        → Together P W D (triple_in T t) f v
    three p q u a b c e f v i j k = record {
      p = p;
      q = q;
      r = u;
      p-free = free-at n joined forward turned T W D R.first (low R.first (has_first R)) p a;
      q-free = free-at n joined forward turned T W D R.second (low R.second (has-second R)) q b;
      r-free = free-at n joined forward turned T W D R.third (low R.third (has-third R)) u c;
      fit = unfold triple_in in and-by _ _ (lt-ltb p most_settings (position-low R.first p (has_first R) a))
          (and-by _ _ (lt-ltb q most_settings (position-low R.second q (has-second R) b)) e);
      p-own = i;
      q-own = j;
      r_own = k;
    }

    -- and back
    bits_of : (f v : ℕ) (y : Together P W D (triple_in T t) f v)
        → (bit r.first y.p ≡ true) × (bit r.second y.q ≡ true) × (bit r.third y.r ≡ true)
    bits_of f v y = r.support.by y.p y.q y.r (bit_of-zero y.p)
        (free-by n joined forward turned T W D R.first (low R.first (has_first R)) y.p y.p-free)
        (free-by n joined forward turned T W D R.second (low R.second (has-second R)) y.q y.q-free)
        (free-by n joined forward turned T W D R.third (low R.third (has-third R)) y.r y.r-free)
        (word y.fit)
      where
        word : (triple_in T t).fits y.p y.q y.r ≡ true → bit (word_at T (triple_rows t) y.p y.q) y.r ≡ true
        word e =
            let both : (ltb y.p most_settings && (ltb y.q most_settings && bit (word_at T (triple_rows t) y.p y.q) y.r)) ≡ true =
            unfold triple_in in e in
            and_r (ltb y.q most_settings) _ (and_r (ltb y.p most_settings) _ both)

    first-is : (v : ℕ) → bit r.first v ≡ together P W D (triple_in T t) (triple_in T t).first v
    first-is v = let a = fields-rise.0 in let b = fields-rise.1 in iff_eq _ _
        (λ e. let s = r.support.first-at v e in together-by P W D R R.first v
        (three v s.1.0 s.1.1 s.0 s.1.2 s.1.3 s.1.4 R.first v
        (λ _. refl) (λ z. absurd (omega arith)) (λ z. absurd (omega arith))))
        (λ e. let y = together_at P W D R R.first v e in
        ap (bit r.first) (sym (y.p-own refl)) ∙ (bits_of R.first v y).0)

    second_is : (v : ℕ) → bit r.second v ≡ together P W D (triple_in T t) (triple_in T t).second v
    second_is v = let a = fields-rise.0 in let b = fields-rise.1 in iff_eq _ _
        (λ e. let s = r.support.second_at v e in together-by P W D R R.second v
        (three s.1.0 v s.1.1 s.1.2 s.0 s.1.3 s.1.4 R.second v
        (λ z. absurd (omega arith)) (λ _. refl) (λ z. absurd (omega arith))))
        (λ e. let y = together_at P W D R R.second v e in
        ap (bit r.second) (sym (y.q-own refl)) ∙ (bits_of R.second v y).1)

    third-is : (v : ℕ) → bit r.third v ≡ together P W D (triple_in T t) (triple_in T t).third v
    third-is v = let a = fields-rise.0 in let b = fields-rise.1 in iff_eq _ _
        (λ e. let s = r.support.third_at v e in together-by P W D R R.third v
        (three s.1.0 s.1.1 v s.1.2 s.1.3 s.0 s.1.4 R.third v
        (λ z. absurd (omega arith)) (λ z. absurd (omega arith)) (λ _. refl)))
        (λ e. let y = together_at P W D R R.third v e in
        ap (bit r.third) (sym (y.r_own refl)) ∙ (bits_of R.third v y).2)

    none_is : (f v : ℕ) → has_field (triple_in T t) f ≡ true → has none f v ≡ (has D f v && not (together P W D (triple_in T t) f v))
    none_is f v h = ⊎_elim
        (λ (q : (triple_in T t).first ≡ f). rw (sym q) (r.none_first v ∙ ap (λ (b : Bool). has D R.first v && not b) (first-is v)))
        (⊎_elim
        (λ (q : (triple_in T t).second ≡ f). rw (sym q) (r.none-second v ∙ ap (λ (b : Bool). has D R.second v && not b) (second_is v)))
        (λ (q : (triple_in T t).third ≡ f). rw (sym q) (r.none-third v ∙ ap (λ (b : Bool). has D R.third v && not b) (third-is v))))
        (field-cases (triple_in T t) f h)

    -- the set without what is not supported is the set revised
    pub dropped-revised : dropped near none D ≡ revised (problem_of n joined forward turned T) W (triple_in T t) D
    dropped-revised = has_ext _ _ (unfold dropped in length-only _ D ∙ sym (length-revised P W R D))
        (λ f v. has-dropped near none D f v ∙ iff_eq _ _ (to f v) (from f v))
      where
        to : (f v : ℕ) → (has D f v && not (bit near f && has none f v)) ≡ true → has (revised P W (triple_in T t) D) f v ≡ true
        to f v e = revised-by P W R D f v (and_l (has D f v) (not (bit near f && has none f v)) e)
            (λ b h. together_at P W D R f v (⊎_elim (λ q. q)
            (λ q. absurd (never (and-by (bit near f) (has none f v) (r.near-is f ∙ and-by (has_field R f) (bit W f) h b)
            (none_is f v h ∙ and-by (has D f v) (not (together P W D R f v)) (and_l (has D f v) (not (bit near f && has none f v)) e)
            (ap not q))) (not-true (bit near f && has none f v) (and_r (has D f v) (not (bit near f && has none f v)) e))))
            (bool_cases (together P W D R f v))))

        from : (f v : ℕ) → has (revised P W (triple_in T t) D) f v ≡ true → (has D f v && not (bit near f && has none f v)) ≡ true
        from f v e = and-by (has D f v) (not (bit near f && has none f v)) (revised_⊆ P W R D f v e)
            (ap not (not_so (bit near f && has none f v) (λ q.
            let m = sym (r.near-is f) ∙ and_l (bit near f) (has none f v) q in
            let h = and_l (has_field R f) (bit W f) m in
            let b = and_r (has_field R f) (bit W f) m in
            let y = together-by P W D R f v (revised-at P W R D f v b h e) in
            never (and_r (has D f v) (not (together P W D R f v)) (sym (none_is f v h) ∙ and_r (bit near f) (has none f v) q)) (ap not y))))
