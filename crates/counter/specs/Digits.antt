-- Five words as the binary digits of a count for each position. Assumes nothing.
use Rattle.std.specs.Prelude.{◌≡◌, Bool, true, false, not, ◌&&◌, ◌||◌, List, ℕ, ◌+◌, ◌*◌, ◌≤◌, ◌<◌, eqb, length, get_or, set}
use Rattle.std.proofs.Math.Path.{refl}
use Rattle.std.proofs.Common.{sym, ap, ◌∙◌, arith, eq-eqb, ne_eqb, length-set, get_or-set_same, get_or-set_other}
use Rattle.std.proofs.Math.Bool.{xor}
use Rattle.std.specs.Int.Bits.{bit_and, bit_or, bit_xor}
use Rattle.masks.specs.Bits.{bit}
use Rattle.masks.proofs.Bits.{bit_of-zero}
use Rattle.masks.proofs.Words.{bit-and, bit-or, bit-xor}
use Rattle.masks.specs.Masks.{digit}

-- The count of position a whose digits are the bits a of the words at p, p + 24, p + 48, p + 72 and p + 96.
unfoldable pub digit_count : List ℕ → ℕ → ℕ → ℕ
digit_count C p a =
    digit (bit (get_or C p 0) a) + 2 * digit (bit (get_or C (p + 24) 0) a) + 4 * digit (bit (get_or C (p + 48) 0) a)
    + 8 * digit (bit (get_or C (p + 72) 0) a) + 16 * digit (bit (get_or C (p + 96) 0) a)

-- the positions with some digit
unfoldable pub counted_word : List ℕ → ℕ → ℕ
counted_word C p =
    bit_or (bit_or (bit_or (bit_or (get_or C p 0) (get_or C (p + 24) 0)) (get_or C (p + 48) 0)) (get_or C (p + 72) 0)) (get_or C (p + 96) 0)

-- q is none of the places of the counts at p
abbrev pub Away : ℕ → ℕ → Type 0
Away p q = (q ≡ p → ⊥) × (q ≡ p + 24 → ⊥) × (q ≡ p + 48 → ⊥) × (q ≡ p + 72 → ⊥) × (q ≡ p + 96 → ⊥)

-- Each count of a position of s became one less, where it was not 0; `none` are the positions of s whose count is 0 then.
pub record LoweredWord (C : List ℕ) (p s none : ℕ) (R : List ℕ) : Type 0 where
  pub sized : length R ≡ length C
  pub less : (a : ℕ) → digit (bit s a) ≤ digit_count C p a → digit_count R p a + digit (bit s a) ≡ digit_count C p a
  pub zero : (a : ℕ) → bit none a ≡ (bit s a && eqb (digit_count R p a) 0)
  pub there : (q : ℕ) → Away p q → get_or R q 0 ≡ get_or C q 0

-- Each count of a position of s became one more, where five digits hold it.
pub record RaisedWord (C : List ℕ) (p s : ℕ) (R : List ℕ) : Type 0 where
  pub sized : length R ≡ length C
  pub more : (a : ℕ) → digit_count C p a + digit (bit s a) < 32 → digit_count R p a ≡ digit_count C p a + digit (bit s a)
  pub there : (q : ℕ) → Away p q → get_or R q 0 ≡ get_or C q 0

-- ---- counts of words that are given

-- the same words have the same counts
pub same-words : (C R : List ℕ) (p a : ℕ)
    → get_or R p 0 ≡ get_or C p 0 → get_or R (p + 24) 0 ≡ get_or C (p + 24) 0 → get_or R (p + 48) 0 ≡ get_or C (p + 48) 0
    → get_or R (p + 72) 0 ≡ get_or C (p + 72) 0 → get_or R (p + 96) 0 ≡ get_or C (p + 96) 0 → digit_count R p a ≡ digit_count C p a
unfolding digit_count
same-words C R p a e0 e1 e2 e3 e4 = rw (e0, e1, e2, e3, e4)

-- words with no position count nothing
pub zero-words : (C : List ℕ) (p a : ℕ) → ((q : ℕ) → get_or C q 0 ≡ 0) → digit_count C p a ≡ 0
unfolding digit_count
zero-words C p a e = rw (e p, e (p + 24), e (p + 48), e (p + 72), e (p + 96), bit_of-zero a)

-- ---- the positions whose count is 0

-- a count is 0 where it has no digit
zero-digits : (n : ℕ) (b0 b1 b2 b3 b4 : Bool) → n ≡ digit b0 + 2 * digit b1 + 4 * digit b2 + 8 * digit b3 + 16 * digit b4
    → not ((((b0 || b1) || b2) || b3) || b4) ≡ eqb n 0
zero-digits n true b1 b2 b3 b4 e = sym (ne_eqb n 0 (λ z. omega arith))
zero-digits n false true b2 b3 b4 e = sym (ne_eqb n 0 (λ z. omega arith))
zero-digits n false false true b3 b4 e = sym (ne_eqb n 0 (λ z. omega arith))
zero-digits n false false false true b4 e = sym (ne_eqb n 0 (λ z. omega arith))
zero-digits n false false false false true e = sym (ne_eqb n 0 (λ z. omega arith))
zero-digits n false false false false false e = sym (eq-eqb n 0 e)

bit-counted : (C : List ℕ) (p a : ℕ) → not (bit (counted_word C p) a) ≡ eqb (digit_count C p a) 0
unfolding digit_count counted_word
bit-counted C p a =
    rw (bit-or, bit-or, bit-or, bit-or)
    (zero-digits (digit_count C p a) (bit (get_or C p 0) a) (bit (get_or C (p + 24) 0) a) (bit (get_or C (p + 48) 0) a)
    (bit (get_or C (p + 72) 0) a)
    (bit (get_or C (p + 96) 0) a) refl)

-- x without y, as code finds it
take_out : (x y : Bool) → xor x (x && y) ≡ (x && not y)
unfolding xor
take_out true true = refl
take_out true false = refl
take_out false y = refl

-- the positions of x whose count is 0, as code finds them
pub uncounted-bit : (C : List ℕ) (p x a : ℕ) → bit (bit_xor x (bit_and x (counted_word C p))) a ≡ (bit x a && eqb (digit_count C p a) 0)
uncounted-bit C p x a =
    bit-xor x (bit_and x (counted_word C p)) a ∙ ap (xor (bit x a)) (bit-and x (counted_word C p) a)
    ∙ take_out (bit x a) (bit (counted_word C p) a) ∙ ap (λ (t : Bool). bit x a && t) (bit-counted C p a)

-- ---- one digit, for each position

digit-le : (b : Bool) → digit b ≤ 1
digit-le true = omega arith
digit-le false = omega arith

lower-digit : (x s : Bool) → digit x + 2 * digit (s && xor x s) ≡ digit (xor x s) + digit s
unfolding xor
lower-digit true true = refl
lower-digit true false = refl
lower-digit false true = refl
lower-digit false false = refl

-- x less s is w, and t is what is taken from the next digit
lower-bit : (x s w t a : ℕ) → w ≡ bit_xor x s → t ≡ bit_and s w → digit (bit x a) + 2 * digit (bit t a) ≡ digit (bit w a) + digit (bit s a)
lower-bit x s w t a e f = rw (f, bit-and, e, bit-xor) (lower-digit (bit x a) (bit s a))

raise-digit : (x s : Bool) → digit x + digit s ≡ digit (xor x s) + 2 * digit (s && x)
unfolding xor
raise-digit true true = refl
raise-digit true false = refl
raise-digit false true = refl
raise-digit false false = refl

-- x plus s is w, and t is what goes to the next digit
raise-bit : (x s w t a : ℕ) → w ≡ bit_xor x s → t ≡ bit_and s x → digit (bit x a) + digit (bit s a) ≡ digit (bit w a) + 2 * digit (bit t a)
raise-bit x s w t a e f = rw (f, bit-and, e, bit-xor) (raise-digit (bit x a) (bit s a))

-- ---- words stored

-- w0 to w4 stand at the places of the counts at p, and no other word changed
pub record FiveStored (C : List ℕ) (p w0 w1 w2 w3 w4 : ℕ) (R : List ℕ) : Type 0 where
  pub sized : length R ≡ length C
  pub at0 : get_or R p 0 ≡ w0
  pub at1 : get_or R (p + 24) 0 ≡ w1
  pub at2 : get_or R (p + 48) 0 ≡ w2
  pub at3 : get_or R (p + 72) 0 ≡ w3
  pub at4 : get_or R (p + 96) 0 ≡ w4
  pub there : (q : ℕ) → Away p q → get_or R q 0 ≡ get_or C q 0

-- one word stored
stored_at : (C R : List ℕ) (p w : ℕ) → p < length C → R ≡ set C p w
    → (length R ≡ length C) × (get_or R p 0 ≡ w) × ((q : ℕ) → (q ≡ p → ⊥) → get_or R q 0 ≡ get_or C q 0)
stored_at C R p w l e = rw e (length-set C p w, get_or-set_same C p w 0 l, λ q d. get_or-set_other C p q w 0 d)

-- and one after the other
pub five-stored : (C R0 R1 R2 R3 R : List ℕ) (p w0 w1 w2 w3 w4 : ℕ) → p + 96 < length C
    → R0 ≡ set C p w0 → R1 ≡ set R0 (p + 24) w1 → R2 ≡ set R1 (p + 48) w2 → R3 ≡ set R2 (p + 72) w3 → R ≡ set R3 (p + 96) w4
    → FiveStored C p w0 w1 w2 w3 w4 R
five-stored C R0 R1 R2 R3 R p w0 w1 w2 w3 w4 l e0 e1 e2 e3 e4 =
    let s0 = stored_at C R0 p w0 (omega arith) e0 in
    let s1 = stored_at R0 R1 (p + 24) w1 (omega arith) e1 in
    let s2 = stored_at R1 R2 (p + 48) w2 (omega arith) e2 in
    let s3 = stored_at R2 R3 (p + 72) w3 (omega arith) e3 in
    let s4 = stored_at R3 R (p + 96) w4 (omega arith) e4 in
    record {
      sized = s4.0 ∙ s3.0 ∙ s2.0 ∙ s1.0 ∙ s0.0;
      at0 = s4.2 p (λ z. omega arith) ∙ s3.2 p (λ z. omega arith) ∙ s2.2 p (λ z. omega arith) ∙ s1.2 p (λ z. omega arith) ∙ s0.1;
      at1 = s4.2 (p + 24) (λ z. omega arith) ∙ s3.2 (p + 24) (λ z. omega arith) ∙ s2.2 (p + 24) (λ z. omega arith) ∙ s1.1;
      at2 = s4.2 (p + 48) (λ z. omega arith) ∙ s3.2 (p + 48) (λ z. omega arith) ∙ s2.1;
      at3 = s4.2 (p + 72) (λ z. omega arith) ∙ s3.1;
      at4 = s4.1;
      there = λ q d. s4.2 q d.4 ∙ s3.2 q d.3 ∙ s2.2 q d.2 ∙ s1.2 q d.1 ∙ s0.2 q d.0;
    }

-- ---- the five words lowered, and raised, as code names them

module _ (C : List ℕ) (p s s1 s2 s3 s4 w0 w1 w2 w3 w4 : ℕ) (R : List ℕ) (f : FiveStored C p w0 w1 w2 w3 w4 R)
    (x0 : w0 ≡ bit_xor (get_or C p 0) s) (x1 : w1 ≡ bit_xor (get_or C (p + 24) 0) s1) (x2 : w2 ≡ bit_xor (get_or C (p + 48) 0) s2)
    (x3 : w3 ≡ bit_xor (get_or C (p + 72) 0) s3) (x4 : w4 ≡ bit_xor (get_or C (p + 96) 0) s4) where
  stored-counted : bit_or (bit_or (bit_or (bit_or w0 w1) w2) w3) w4 ≡ counted_word R p
  unfolding counted_word
  stored-counted = rw (f.at0, f.at1, f.at2, f.at3, f.at4)

  lowered-less : s1 ≡ bit_and s w0 → s2 ≡ bit_and s1 w1 → s3 ≡ bit_and s2 w2 → s4 ≡ bit_and s3 w3
      → (a : ℕ) → digit (bit s a) ≤ digit_count C p a → digit_count R p a + digit (bit s a) ≡ digit_count C p a
  unfolding digit_count
  lowered-less y1 y2 y3 y4 a h =
      let e0 = lower-bit (get_or C p 0) s w0 s1 a x0 y1 in
      let e1 = lower-bit (get_or C (p + 24) 0) s1 w1 s2 a x1 y2 in
      let e2 = lower-bit (get_or C (p + 48) 0) s2 w2 s3 a x2 y3 in
      let e3 = lower-bit (get_or C (p + 72) 0) s3 w3 s4 a x3 y4 in
      let e4 = lower-bit (get_or C (p + 96) 0) s4 w4 (bit_and s4 w4) a x4 refl in
      rw (f.at0, f.at1, f.at2, f.at3, f.at4)
      (omega (arith, digit-le (bit w0 a), digit-le (bit w1 a), digit-le (bit w2 a), digit-le (bit w3 a), digit-le (bit w4 a)))

  pub lowered-word : s1 ≡ bit_and s w0 → s2 ≡ bit_and s1 w1 → s3 ≡ bit_and s2 w2 → s4 ≡ bit_and s3 w3
      → LoweredWord C p s (bit_xor s (bit_and s (bit_or (bit_or (bit_or (bit_or w0 w1) w2) w3) w4))) R
  lowered-word y1 y2 y3 y4 = record {
    sized = f.sized;
    less = lowered-less y1 y2 y3 y4;
    zero = λ a. rw stored-counted (uncounted-bit R p s a);
    there = f.there;
  }

  raised_more : s1 ≡ bit_and s (get_or C p 0) → s2 ≡ bit_and s1 (get_or C (p + 24) 0) → s3 ≡ bit_and s2 (get_or C (p + 48) 0)
      → s4 ≡ bit_and s3 (get_or C (p + 72) 0)
      → (a : ℕ) → digit_count C p a + digit (bit s a) < 32 → digit_count R p a ≡ digit_count C p a + digit (bit s a)
  unfolding digit_count
  raised_more y1 y2 y3 y4 a h =
      let e0 = raise-bit (get_or C p 0) s w0 s1 a x0 y1 in
      let e1 = raise-bit (get_or C (p + 24) 0) s1 w1 s2 a x1 y2 in
      let e2 = raise-bit (get_or C (p + 48) 0) s2 w2 s3 a x2 y3 in
      let e3 = raise-bit (get_or C (p + 72) 0) s3 w3 s4 a x3 y4 in
      let e4 = raise-bit (get_or C (p + 96) 0) s4 w4 (bit_and s4 (get_or C (p + 96) 0)) a x4 refl in
      rw (f.at0, f.at1, f.at2, f.at3, f.at4) (omega arith)

  pub raised_word : s1 ≡ bit_and s (get_or C p 0) → s2 ≡ bit_and s1 (get_or C (p + 24) 0) → s3 ≡ bit_and s2 (get_or C (p + 48) 0)
      → s4 ≡ bit_and s3 (get_or C (p + 72) 0) → RaisedWord C p s R
  raised_word y1 y2 y3 y4 = record { sized = f.sized; more = raised_more y1 y2 y3 y4; there = f.there }
