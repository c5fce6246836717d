-- The triple rules, written one after the other. Assumes nothing.
use Rattle.std.specs.Prelude.{◌≡◌, refl, Bool, true, false, ◌&&◌, List, ℕ, ◌+◌, ◌*◌, ◌≤◌, ◌<◌, ltb, length, get_or, set}
use Rattle.std.proofs.Common.{sym, ap, ◌∙◌, ⊎_elim, eq-or-lt_of_le, arith, length-set, get_or-set_same, get_or-set_other, le-ltb, ltb-true}
use Rattle.std.proofs.Common.{ltb-false}
use Rattle.std.proofs.Math.Bool.{and-false}
use Rattle.limits.specs.Limits.{most_settings, triples_front, triple_words}
use Rattle.masks.specs.Tests.{bool_cases}
use Rattle.masks.specs.Bits.{bit}
use Rattle.masks.proofs.Masks.{bit-mask_of}
use Rattle.sheet.specs.Sources.{Accepted}
use Rattle.accepted.specs.Parts.{count_of, triples_of, triple_first, triple_second, triple_third, triple_allows}
use Rattle.accepted.specs.Facts.{facts}
use Rattle.network.specs.TripleTable.{triple_block, triple_rows, word_at, triple_in}
use Rattle.network.specs.SheetProblem.{sheet_triple}
use Rattle.network.specs.Drafts.{draft_word, ZerosFrom, TripleRows, word-past-first}

-- Triple rule t stands in T from `base` on.
pub record BlockIn (xs : List ℕ) (t : ℕ) (T : List ℕ) (base : ℕ) : Type 0 where
  pub first : get_or T base 0 ≡ triple_first xs t
  pub second : get_or T (base + 1) 0 ≡ triple_second xs t
  pub third : get_or T (base + 2) 0 ≡ triple_third xs t
  pub words : (p q : ℕ) → p < most_settings → q < most_settings → word_at T (base + 3) p q ≡ draft_word xs t p q

-- and nothing else changed
pub record BlockStored (xs : List ℕ) (t : ℕ) (T0 : List ℕ) (base : ℕ) (T : List ℕ) : Type 0 where
  pub sized : length T ≡ length T0
  pub low : (x : ℕ) → x < base → get_or T x 0 ≡ get_or T0 x 0
  pub high : (x : ℕ) → base + triple_words ≤ x → get_or T x 0 ≡ get_or T0 x 0
  pub block : BlockIn xs t T base

-- the three fields written from `base` on
abbrev pub with_fields : List ℕ → ℕ → ℕ → ℕ → ℕ → List ℕ
with_fields T base i j k = set (set (set T base i) (base + 1) j) (base + 2) k

-- there is room for each when it is written
pub second-room : (T : List ℕ) (base i : ℕ) → base + triple_words ≤ length T → base + 1 < length (set T base i)
second-room T base i l = let s = length-set T base i in omega arith

pub third-room : (T : List ℕ) (base i j : ℕ) → base + triple_words ≤ length T → base + 2 < length (set (set T base i) (base + 1) j)
third-room T base i j l = let s = length-set T base i in let r = length-set (set T base i) (base + 1) j in omega arith

module _ (T : List ℕ) (base i j k : ℕ) where
  pub fields-sized : length (with_fields T base i j k) ≡ length T
  fields-sized = length-set (set (set T base i) (base + 1) j) (base + 2) k ∙ length-set (set T base i) (base + 1) j ∙ length-set T base i

  fields-other : (x : ℕ) → (x ≡ base → ⊥) → (x ≡ base + 1 → ⊥) → (x ≡ base + 2 → ⊥) → get_or (with_fields T base i j k) x 0 ≡ get_or T x 0
  fields-other x a b c =
      get_or-set_other (set (set T base i) (base + 1) j) (base + 2) x k 0 c ∙ get_or-set_other (set T base i) (base + 1) x j 0 b
      ∙ get_or-set_other T base x i 0 a

  pub fields-zeros : ZerosFrom base T → ZerosFrom (base + 3) (with_fields T base i j k)
  fields-zeros z x l = fields-other x (λ e. omega arith) (λ e. omega arith) (λ e. omega arith) ∙ z x (omega arith)

  fields_at : base + 3 ≤ length T → (get_or (with_fields T base i j k) base 0 ≡ i) × (get_or (with_fields T base i j k) (base + 1) 0 ≡ j)
      × (get_or (with_fields T base i j k) (base + 2) 0 ≡ k)
  fields_at l =
      let s = length-set T base i in
      let r = length-set (set T base i) (base + 1) j in (
        get_or-set_other (set (set T base i) (base + 1) j) (base + 2) base k 0 (λ e. omega arith)
            ∙ get_or-set_other (set T base i) (base + 1) base j 0 (λ e. omega arith) ∙ get_or-set_same T base i 0 (omega arith),
        get_or-set_other (set (set T base i) (base + 1) j) (base + 2) (base + 1) k 0 (λ e. omega arith)
            ∙ get_or-set_same (set T base i) (base + 1) j 0 (omega arith),
        get_or-set_same (set (set T base i) (base + 1) j) (base + 2) k 0 (omega arith),
      )

-- a triple rule's fields, and then its words
pub block-stored : (xs : List ℕ) (t i j k base : ℕ) (T0 T : List ℕ) → i ≡ triple_first xs t → j ≡ triple_second xs t → k ≡ triple_third xs t
    → base + triple_words ≤ length T0 → ZerosFrom base T0 → count_of xs i ≤ most_settings
    → TripleRows xs t (with_fields T0 base i j k) (base + 3) (count_of xs i) T → BlockStored xs t T0 base T
block-stored xs t i j k base T0 T ei ej ek room zeros few y =
    let three = fields_at T0 base i j k (omega arith) in
    record {
      sized = y.sized ∙ fields-sized T0 base i j k;
      low = λ x l. y.low x (omega arith) ∙ fields-other T0 base i j k x (λ e. omega arith) (λ e. omega arith) (λ e. omega arith);
      high = λ x l. y.rest x (omega arith) ∙ fields-other T0 base i j k x (λ e. omega arith) (λ e. omega arith) (λ e. omega arith);
      block = record {
        first = y.low base (omega arith) ∙ three.0 ∙ ei;
        second = y.low (base + 1) (omega arith) ∙ three.1 ∙ ej;
        third = y.low (base + 2) (omega arith) ∙ three.2 ∙ ek;
        words = λ p q a b. ⊎_elim (λ e. y.done p q (ltb-true p (count_of xs i) e) b)
            (λ e. let l = ltb-false p (count_of xs i) e in
            y.rest (base + 3 + p * most_settings + q) (omega arith)
            ∙ fields-zeros T0 base i j k zeros (base + 3 + p * most_settings + q) (omega arith)
            ∙ word-past-first xs t p q (rw ei at l))
            (bool_cases (ltb p (count_of xs i)));
      };
    }

-- ---- block after block

-- The first m triple rules are written, all words after them are 0, and the front is as it was.
pub record BlocksTo (xs T0 : List ℕ) (m : ℕ) (T : List ℕ) : Type 0 where
  pub sized : length T ≡ length T0
  pub front : (x : ℕ) → x < triples_front → get_or T x 0 ≡ get_or T0 x 0
  pub each : (t : ℕ) → t < m → BlockIn xs t T (triple_block t)
  pub rest : ZerosFrom (triple_block m) T

-- a triple rule whose places are as they were
block-kept : (xs : List ℕ) (t : ℕ) (T T' : List ℕ) (base : ℕ) → BlockIn xs t T base
    → ((x : ℕ) → x < base + triple_words → get_or T' x 0 ≡ get_or T x 0) → BlockIn xs t T' base
block-kept xs t T T' base b e = record {
  first = e base (omega arith) ∙ b.first;
  second = e (base + 1) (omega arith) ∙ b.second;
  third = e (base + 2) (omega arith) ∙ b.third;
  words = λ p q h k. e (base + 3 + p * most_settings + q) (omega arith) ∙ b.words p q h k;
}

module _ (xs T0 : List ℕ) where
  pub blocks_start : ZerosFrom triples_front T0 → BlocksTo xs T0 0 T0
  blocks_start z = record { sized = refl; front = λ x l. refl; each = λ t l. absurd (omega arith); rest = λ x l. z x (omega arith) }

  pub blocks_next : (m base : ℕ) (T T' : List ℕ) → base ≡ triple_block m → BlocksTo xs T0 m T → BlockStored xs m T base T'
      → BlocksTo xs T0 (m + 1) T'
  blocks_next m base T T' e p s = record {
    sized = s.sized ∙ p.sized;
    front = λ x l. s.low x (omega arith) ∙ p.front x l;
    each = λ t l. ⊎_elim (λ (q : t ≡ m). rw (q, sym e) s.block)
        (λ q. block-kept xs t T T' (triple_block t) (p.each t q) (λ x h. s.low x (omega arith)))
        (eq-or-lt_of_le (let k : t ≤ m = omega arith in k));
    rest = λ x l. s.high x (omega arith) ∙ p.rest x (omega arith);
  }

-- a triple rule that is written is that of the sheet
module _ (xs : List ℕ) (a : Accepted xs) (t : ℕ) (h : t < triples_of xs) (T : List ℕ) (b : BlockIn xs t T (triple_block t)) where
  few-first : count_of xs (triple_first xs t) ≤ most_settings
  few-first =
      let fs = facts xs a in
      fs.count-few (triple_first xs t)
      (let x = fs.triple-apart t h in let y = fs.triple-above t h in let z = fs.triple-within t h in omega arith)

  few-second : count_of xs (triple_second xs t) ≤ most_settings
  few-second =
      let fs = facts xs a in
      fs.count-few (triple_second xs t) (let y = fs.triple-above t h in let z = fs.triple-within t h in omega arith)

  same-fits : (p q r : ℕ) → (ltb p most_settings && (ltb q most_settings && bit (word_at T (triple_rows t) p q) r))
      ≡ (ltb p (count_of xs (triple_first xs t))
      && (ltb q (count_of xs (triple_second xs t)) && (ltb r (count_of xs (triple_third xs t)) && triple_allows xs t p q r)))
  same-fits p q r = ⊎_elim
      (λ (x : ltb p most_settings ≡ true). ⊎_elim
      (λ (y : ltb q most_settings ≡ true). rw (x, y)
      (ap (λ (m : ℕ). bit m r) (b.words p q (ltb-true p most_settings x) (ltb-true q most_settings y))
      ∙ bit-mask_of (count_of xs (triple_third xs t))
      (λ r. ltb p (count_of xs (triple_first xs t)) && (ltb q (count_of xs (triple_second xs t)) && triple_allows xs t p q r)) r
      ∙ turn (ltb r (count_of xs (triple_third xs t))) (ltb p (count_of xs (triple_first xs t))) (ltb q (count_of xs (triple_second xs t)))
      (triple_allows xs t p q r)))
      (λ (y : ltb q most_settings ≡ false). rw (
        x,
        y,
        le-ltb q (count_of xs (triple_second xs t))
            (let l = ltb-false q most_settings y in let k = few-second in omega arith),
      ) (sym (and-false (ltb p (count_of xs (triple_first xs t))))))
      (bool_cases (ltb q most_settings)))
      (λ (x : ltb p most_settings ≡ false). rw (
        x,
        le-ltb p (count_of xs (triple_first xs t))
            (let l = ltb-false p most_settings x in let k = few-first in omega arith),
      ))
      (bool_cases (ltb p most_settings))
    where
      turn : (x y z w : Bool) → (x && (y && (z && w))) ≡ (y && (z && (x && w)))
      turn true y z w = refl
      turn false true true w = refl
      turn false true false w = refl
      turn false false z w = refl

  pub block-triple : triple_in T t ≡ sheet_triple xs t
  unfolding triple_in sheet_triple
  block-triple = λ i. record { first = b.first i; second = b.second i; third = b.third i; fits = λ p q r. same-fits p q r i }
