-- What engine 2 remembers: for a setting that passed its test, the settings that the test left in its field's neighbourhood. While the set
-- holds all of them the test passes, and leaves just them. Assumes nothing.
use Rattle.std.specs.Prelude.{◌≡◌, refl, ◌↔◌, Bool, true, false, List, ℕ, ◌^◌, ◌≤◌, ◌<◌, ltb, length, get_or, set, replicate}
use Rattle.std.proofs.Math.Path.{sym, ap}
use Rattle.std.proofs.Common.{◌∙◌, arith, length-set, get_or-set_same, get_or-set_other}
use Rattle.std.proofs.Math.Logic.{⊎_elim}
use Rattle.std.specs.Int.Bits.{bit_or}
use Rattle.std.proofs.lemmas.Nat.{or_lt}
use Rattle.std.proofs.Math.ListN.{length-replicate, get_or-eq_default}
use Rattle.std.proofs.Math.Pow.{pow-lt}
use borrow.Author.Tests.{eqb-true, eq-eqb, ltb-true, ltb-false}
use Rattle.limits.specs.Limits.{most_fields, most_settings, memory_words}
use Rattle.masks.specs.Tests.{never, bool_cases, eq_cases, or_r, or_at}
use Rattle.masks.specs.Bits.{bit, Within}
use Rattle.masks.proofs.Bits.{bit_of-zero, bit_bound}
use Rattle.masks.proofs.Words.{bit-or, bit-one}
use Rattle.masks.specs.Sets.{has, ◌⊆◌, ⊆_refl, ⊆_trans, get_d_zeros}
use Rattle.consistency.specs.Problem.{Problem, all_fields}
use Rattle.consistency.specs.Passing.{passes_over}
use Rattle.consistency.specs.Left.{left_in}
use Rattle.consistency.proofs.Again.{passes_over_again}
use Rattle.network.specs.Stored.{Stored, words_of}
use Rattle.closing.specs.Asks.{Masks}
use Rattle.visiting.specs.declared.store.CheckResult.{CheckResult}
use Rattle.visiting.specs.declared.store.CheckResult.TheVariants.{Recalled, Passed, Failed}
use Rattle.visiting.specs.Memory.{place_of, places-apart, recall, recall-same, recall-other}

-- that the setting passes
abbrev pub passing : CheckResult → Bool
passing Recalled = true
passing Passed = true
passing Failed = false

-- that it was not tested
abbrev pub is_recalled : CheckResult → Bool
is_recalled Recalled = true
is_recalled Passed = false
is_recalled Failed = false

-- the engine remembers, the setting is known, and S has all that the memory has at its place
abbrev pub Recallable : Bool → List ℕ → List ℕ → ℕ → ℕ → List ℕ → Type 0
Recallable remembers known M f v S = (remembers ≡ true) × (has known f v ≡ true) × (recall M (place_of f v) ⊆ S)

module _ (P : Problem) where
  -- ---- what is remembered of one setting

  -- R is what the test of position v of field f over W leaves in W, in some set that has all of S and in which it passes.
  pub record Remembered (W f v : ℕ) (S R : List ℕ) : Type 0 where
    pub tested : List ℕ
    pub sized : length S ≡ length tested
    pub inside : S ⊆ tested
    pub passed : passes_over P W tested f v ≡ true
    pub rest : R ≡ left_in P W tested f v

  -- while S holds all of it, the test passes in S and leaves just that
  pub remembered_passes : (W f v : ℕ) (S R : List ℕ) → Remembered W f v S R → R ⊆ S
      → (passes_over P W S f v ≡ true) × (R ≡ left_in P W S f v)
  remembered_passes W f v S R m h =
      let a = passes_over_again P W m.tested S f v m.sized m.inside m.passed (rw m.rest at h) in
      (a.0, m.rest ∙ sym a.1)

  -- a test that passed just now
  pub remembered_now : (W f v : ℕ) (S R : List ℕ) → passes_over P W S f v ≡ true → R ≡ left_in P W S f v → Remembered W f v S R
  remembered_now W f v S R e q = record { tested = S; sized = refl; inside = ⊆_refl S; passed = e; rest = q }

  -- the neighbourhood of f: fields of the problem, and f is one of them
  pub record HoodAsks (hood : List ℕ) (f : ℕ) : Type 0 where
    pub fields : Within (get_or hood f 0) (all_fields P)
    pub self : bit (get_or hood f 0) f ≡ true

  -- ---- the memory, where S is the set now: of each known setting the masks at its place are remembered, over its field's neighbourhood

  pub record Store (hood S known M : List ℕ) : Type 0 where
    pub long : memory_words ≤ length M
    pub masks : Masks known
    pub keeps : (g u : ℕ) → has known g u ≡ true → Remembered (get_or hood g 0) g u S (recall M (place_of g u))

  -- nothing is known
  pub store-start : (hood S M : List ℕ) → memory_words ≤ length M → Store hood S (replicate most_fields 0) M
  unfolding has
  store-start hood S M l = record {
    long = l;
    masks = record { long = length-replicate {A = ℕ} most_fields 0; small = λ f. rw (get_d_zeros most_fields f) (omega arith) };
    keeps = λ g u e. absurd (never e (ap (λ (x : ℕ). bit x u) (get_d_zeros most_fields g) ∙ bit_of-zero u));
  }

  -- the set lost settings
  pub store-shrunk : {hood S T known M : List ℕ} → length T ≡ length S → T ⊆ S → Store hood S known M → Store hood T known M
  store-shrunk {S = S} {T = T} n h st = record {
    long = st.long;
    masks = st.masks;
    keeps = λ g u e. let m = st.keeps g u e in record {
      tested = m.tested;
      sized = n ∙ m.sized;
      inside = ⊆_trans T S m.tested h m.inside;
      passed = m.passed;
      rest = m.rest;
    };
  }

  module _ (hood S known M : List ℕ) (st : Store hood S known M) (f v : ℕ) (lf : f < most_fields) (lv : v < most_settings) where
    -- one setting more is known
    abbrev pub known' : List ℕ
    known' = set known f (bit_or (get_or known f 0) (2 ^ v))

    fl : f < length known
    fl = let n = st.masks.long in omega arith

    pub known_added : has known' f v ≡ true
    unfolding has
    known_added =
        ap (λ (x : ℕ). bit x v) (get_or-set_same known f _ 0 fl) ∙ bit-or (get_or known f 0) (2 ^ v) v
        ∙ or_r (bit (get_or known f 0) v) _ (bit-one v v ∙ eq-eqb v v refl)

    -- another setting was known before
    known_before : (g u : ℕ) → has known' g u ≡ true → (g ≡ f → u ≡ v → ⊥) → has known g u ≡ true
    unfolding has
    known_before g u e d = ⊎_elim
        (λ q. ⊎_elim (λ r. rw q r) (λ r. absurd (d q (eqb-true u v (sym (bit-one v u) ∙ r))))
        (or_at (bit (get_or known f 0) u) _ (sym (bit-or (get_or known f 0) (2 ^ v) u)
        ∙ sym (ap (λ (x : ℕ). bit x u) (get_or-set_same known f _ 0 fl)) ∙ (rw q at e))))
        (λ q. sym (ap (λ (x : ℕ). bit x u) (get_or-set_other known f g _ 0 q)) ∙ e) (eq_cases g f)

    -- a known setting is of one of the fields
    known_field : (g u : ℕ) → has known g u ≡ true → g < most_fields
    unfolding has
    known_field g u e = ⊎_elim (λ q. ltb-true g most_fields q)
        (λ q. let past = get_or-eq_default known 0
        (let l = ltb-false g most_fields q in let n = st.masks.long in omega arith) in
        absurd (never e (ap (λ (x : ℕ). bit x u) past ∙ bit_of-zero u)))
        (bool_cases (ltb g most_fields))

    module _ (R : List ℕ) (sized : length R ≡ most_fields) (M' : List ℕ) (s : Stored M (place_of f v) (words_of R) most_fields M') where
      pub memory-same : recall M' (place_of f v) ≡ R
      memory-same = recall-same M (place_of f v) R M' s (let l = st.long in omega arith) sized

      memory-other : (g u : ℕ) → has known g u ≡ true → (g ≡ f → u ≡ v → ⊥) → recall M' (place_of g u) ≡ recall M (place_of g u)
      unfolding has
      memory-other g u e d =
          let lu = bit_bound most_settings (get_or known g 0) u (st.masks.small g) e in
          let lg = known_field g u e in
          recall-other M (place_of f v) R M' s (place_of g u) (let l = st.long in omega arith) (places-apart g u f v lu lv d)

      pub store-add : Remembered (get_or hood f 0) f v S R → Store hood S known' M'
      store-add m = record {
        long = let l = st.long in let z = s.sized in omega arith;
        masks = record { long = length-set known f _ ∙ st.masks.long; small = small };
        keeps = λ g u e. ⊎_elim
            (λ (q : g ≡ f). ⊎_elim (λ (r : u ≡ v). rw (q, r, memory-same) m) (λ r. other g u e (λ _ y. r y)) (eq_cases u v))
            (λ q. other g u e (λ x _. q x)) (eq_cases g f);
      }
        where
          small : (g : ℕ) → get_or known' g 0 < 2 ^ most_settings
          small g = ⊎_elim
              (λ (q : g ≡ f). rw (q, get_or-set_same known f (bit_or (get_or known f 0) (2 ^ v)) 0 fl)
              (or_lt most_settings (get_or known f 0) (2 ^ v) (st.masks.small f) (pow-lt lv)))
              (λ q. rw (get_or-set_other known f g (bit_or (get_or known f 0) (2 ^ v)) 0 q) (st.masks.small g)) (eq_cases g f)

          other : (g u : ℕ) → has known' g u ≡ true → (g ≡ f → u ≡ v → ⊥) → Remembered (get_or hood g 0) g u S (recall M' (place_of g u))
          other g u e d = let k = known_before g u e d in rw (memory-other g u k d) (st.keeps g u k)

  -- ---- the test with the memory

  -- Whether the setting passes, and what the memory has become. Where the engine remembers, a setting that passed is known, and the masks
  -- at its place are what its test leaves in the neighbourhood, whether or not it was tested again. It is recalled, and not tested again,
  -- just where that can be told by what is remembered; then nothing is written.
  pub record Checked (hood S : List ℕ) (remembers : Bool) (f v : ℕ) (r : CheckResult) (known M copy list known' M' copy' list' : List ℕ)
      : Type 0 where
    pub passed : passing r ≡ passes_over P (get_or hood f 0) S f v
    pub store : Store hood S known' M'
    pub kept : remembers ≡ true → passing r ≡ true
        → (has known' f v ≡ true) × (recall M' (place_of f v) ≡ left_in P (get_or hood f 0) S f v)
    pub recalled : (is_recalled r ≡ true) ↔ Recallable remembers known M f v S
    pub untouched : is_recalled r ≡ true → (known' ≡ known) × (M' ≡ M) × (copy' ≡ copy) × (list' ≡ list)
