-- There and back: bytes that are numbers are their numbers' bytes, and the bytes of numbers below 2 ^ 28 are read as those.
-- Assumes nothing.
use Rattle.std.specs.Prelude.{◌≡◌, refl, Bool, true, false, ◌&&◌, List, [], ◌∷◌, ◌++◌, ℕ, zero, suc, ◌+◌, ◌-◌, ◌*◌, ◌/◌, ◌%◌, ◌^◌, ◌<◌, ◌≤◌}
use Rattle.std.specs.Prelude.{ltb, eqb, length, drop, get_or, Result, Ok, Err}
use Rattle.std.proofs.Common.{sym, ap, ap₂, ◌∙◌, ⊎_elim, append_assoc, mul-add, mul_assoc, pow-suc, div-lt_iff_lt-mul, add-sub_cancel}
use Rattle.std.proofs.Common.{arith, length-append, drop_of_length-le, drop-drop, lt-ltb, le-ltb, ltb-true, ltb-false, eqb-true}
use Rattle.std.proofs.Math.Nat.{mod-add-div}
use Rattle.std.proofs.Math.Seq.{drop-append_seam}
use Rattle.std.proofs.lemmas.Bool.{eqb-false}
use Rattle.masks.specs.Pick.{pick_true, pick-false}
use Rattle.groups.specs.Groups.{groups, number_at, encode_in, encode, encode-some, encode_in-last, encode_in-suc, groups-number}
use Rattle.groups.specs.Groups.{groups_nothing, groups-empty, found}
use Rattle.groups.specs.declared.groups.Number.{Number}
use Rattle.limits.specs.declared.refusals.Refusal.{Refusal}
use Rattle.limits.specs.declared.refusals.Refusal.TheVariants.{EndsInside}
use Rattle.sheet.specs.Sources.{Item, num, items_from, of_bytes, of_numbers, bytes_of}
use Rattle.sheet.specs.Items.{from-num, from_end, from-fault, from_some}

-- w times a number is w times its lowest group and 128 w times the others
split : (w n : ℕ) → w * (n % 128) + w * 128 * (n / 128) ≡ w * n
split w n = rw (mul_assoc w 128 (n / 128), ← mul-add w (n % 128) (128 * (n / 128))) (ap (λ (k : ℕ). w * k) (mod-add-div n 128))

-- a last group that is not refused, and one that is not 0
not_short : (b w : ℕ) → (1 < w → 0 < b) → (ltb 1 w && eqb b 0) ≡ false
not_short b w h = go (ltb 1 w) (eqb b 0) refl refl
  where
    go : (s t : Bool) → ltb 1 w ≡ s → eqb b 0 ≡ t → (s && t) ≡ false
    go true true p q = absurd (omega (arith, eqb-true b 0 q, h (ltb-true 1 w p)))
    go true false p q = refl
    go false t p q = refl

short-not : (b w : ℕ) → (ltb 1 w && eqb b 0) ≡ false → 1 < w → 0 < b
short-not b w e h = let z = eqb-false b 0 (sym (ap (λ (t : Bool). t && eqb b 0) (lt-ltb 1 w h)) ∙ e) in omega arith

groups-read : (left w v at b : ℕ) (l : List ℕ) → b < 128 → (1 < w → 0 < b) → groups (suc left) w v at (b ∷ l) ≡ found (v + w * b) (at + 1)
unfolding groups
groups-read left w v at b l h k = pick_true (ltb b 128) _ _ (lt-ltb b 128 h) ∙ pick-false _ _ _ (not_short b w k)

groups-on : (left w v at b : ℕ) (l : List ℕ) → 128 ≤ b → b < 256
    → groups (suc left) w v at (b ∷ l) ≡ groups left (w * 128) (v + w * (b - 128)) (at + 1) l
unfolding groups
groups-on left w v at b l h k = pick-false (ltb b 128) _ _ (le-ltb b 128 h) ∙ pick_true (ltb b 256) _ _ (lt-ltb b 256 k)

-- the bytes of a number are read as that number
encoded-one : (left w v at n : ℕ) (rest : List ℕ) → n < 128 → (1 < w → 0 < n)
    → groups (suc left) w v at (encode_in (suc left) n ++ rest) ≡ found (v + w * n) (at + length (encode_in (suc left) n))
encoded-one left w v at n rest q k = rw (encode_in-last (suc left) n (omega arith) q) (groups-read left w v at n rest q k)

encoded-more : (left w v at n : ℕ) (rest : List ℕ) → 128 ≤ n
    → groups left (w * 128) (v + w * (n % 128)) (at + 1) (encode_in left (n / 128) ++ rest)
    ≡ found (v + w * (n % 128) + w * 128 * (n / 128)) (at + 1 + length (encode_in left (n / 128)))
    → groups (suc left) w v at (encode_in (suc left) n ++ rest) ≡ found (v + w * n) (at + length (encode_in (suc left) n))
encoded-more left w v at n rest q e =
    rw (
      encode_in-suc left n q,
      groups-on left w v at (n % 128 + 128) (encode_in left (n / 128) ++ rest) (omega arith) (omega arith),
      add-sub_cancel (n % 128) 128,
    )
    (e ∙ ap₂ found (omega (arith, split w n)) (omega arith))

encoded : (left w v at n : ℕ) (rest : List ℕ) → 0 < w → n < 128 ^ suc left → (1 < w → 0 < n)
    → groups (suc left) w v at (encode_in (suc left) n ++ rest) ≡ found (v + w * n) (at + length (encode_in (suc left) n))
encoded zero w v at n rest p h k = encoded-one zero w v at n rest (omega arith) k
encoded (suc left) w v at n rest p h k =
    go (λ q. encoded left (w * 128) (v + w * (n % 128)) (at + 1) (n / 128) rest (omega arith) less (λ r. omega arith)) (ltb n 128) refl
  where
    less : n / 128 < 128 ^ suc left
    less = (div-lt_iff_lt-mul {k = 128} {x = n} {y = 128 ^ suc left} (omega arith)).1 (rw (← pow-suc 128 (suc left)) h)

    go : (128 ≤ n → groups (suc left) (w * 128) (v + w * (n % 128)) (at + 1) (encode_in (suc left) (n / 128) ++ rest)
        ≡ found (v + w * (n % 128) + w * 128 * (n / 128)) (at + 1 + length (encode_in (suc left) (n / 128))))
        → (t : Bool) → ltb n 128 ≡ t
        → groups (suc (suc left)) w v at (encode_in (suc (suc left)) n ++ rest)
        ≡ found (v + w * n) (at + length (encode_in (suc (suc left)) n))
    go ih true e = encoded-one (suc left) w v at n rest (ltb-true n 128 e) k
    go ih false e = let q = ltb-false n 128 e in encoded-more (suc left) w v at n rest q (ih q)

number-encode : (xs rest : List ℕ) (n : ℕ) → n < 2 ^ 28
    → number_at (xs ++ (encode n ++ rest)) (length xs) ≡ found n (length xs + length (encode n))
unfolding number_at encode
number-encode xs rest n h =
    rw (drop-append_seam xs (encode_in 4 n ++ rest))
    (encoded 3 1 0 (length xs) n rest (omega arith) h (λ q. absurd (omega arith))
    ∙ ap (λ (x : ℕ). found x (length xs + length (encode_in 4 n))) (omega arith))

-- ---- a number that is read has just its bytes

pub record Taken (left w v at : ℕ) (l : List ℕ) (x next : ℕ) : Type 0 where
  pub n : ℕ
  pub rest : List ℕ
  pub bytes : l ≡ encode_in left n ++ rest
  pub value : x ≡ v + w * n
  pub place : next ≡ at + length (encode_in left n)
  pub some : 1 < w → 0 < n

taken-last : (left w v at b x next : ℕ) (l : List ℕ) → b < 128 → (ltb 1 w && eqb b 0) ≡ false → x ≡ v + w * b → next ≡ at + 1
    → Taken (suc left) w v at (b ∷ l) x next
taken-last left w v at b x next l h s e q =
    let one : encode_in (suc left) b ≡ b ∷ [] = encode_in-last (suc left) b (omega arith) h in
    record {
      n = b;
      rest = l;
      bytes = sym (ap (λ (y : List ℕ). y ++ l) one);
      value = e;
      place = q ∙ ap (λ (y : List ℕ). at + length y) (sym one);
      some = short-not b w s;
    }

taken_more : (left w v at b x next : ℕ) (l : List ℕ) → 0 < w → 128 ≤ b → b < 256
    → Taken left (w * 128) (v + w * (b - 128)) (at + 1) l x next
    → Taken (suc left) w v at (b ∷ l) x next
taken_more left w v at b x next l p h k t =
    let m = t.n in
    let n = b - 128 + 128 * m in
    let pos : 0 < m = t.some (omega arith) in
    let more : encode_in (suc left) n ≡ (n % 128 + 128) ∷ encode_in left (n / 128) = encode_in-suc left n (omega arith) in
    let same : encode_in (suc left) n ≡ b ∷ encode_in left m = more ∙ ap₂ ◌∷◌ (omega arith) (ap (encode_in left) (omega arith)) in
    record {
      n = n;
      rest = t.rest;
      bytes = ap (λ (y : List ℕ). b ∷ y) t.bytes ∙ sym (ap (λ (y : List ℕ). y ++ t.rest) same);
      value = t.value ∙ omega (arith, mul-add w (b - 128) (128 * m), mul_assoc w 128 m);
      place = t.place ∙ omega (arith, ap length same);
      some = λ q. omega arith;
    }

taken : (left w v at x next : ℕ) (l : List ℕ) → 0 < w → groups left w v at l ≡ found x next → Taken left w v at l x next
taken zero w v at x next l p e = absurd (groups_nothing w v at x next l e)
taken (suc left) w v at x next [] p e = absurd (groups-empty (suc left) w v at x next e)
taken (suc left) w v at x next (b ∷ l) p e =
    ⊎_elim (λ r. taken-last left w v at b x next l r.0 r.1 r.2 r.3)
    (λ r. taken_more left w v at b x next l p r.0 r.1
    (taken left (w * 128) (v + w * (b - 128)) (at + 1) x next l (omega arith) r.2))
    (groups-number left w v at b x next l e)

number-bytes : (s : List ℕ) (at x next : ℕ) → number_at s at ≡ found x next
    → (drop at s ≡ encode x ++ drop next s) × (next ≡ at + length (encode x))
unfolding number_at encode
number-bytes s at x next e =
    let t = taken 4 1 0 at x next (drop at s) (omega arith) e in
    let q : encode_in 4 t.n ≡ encode_in 4 x = ap (encode_in 4) (let v = t.value in omega arith) in
    let place : next ≡ at + length (encode_in 4 x) = t.place ∙ ap (λ (y : List ℕ). at + length y) q in
    let bytes : drop at s ≡ encode_in 4 x ++ t.rest = t.bytes ∙ ap (λ (y : List ℕ). y ++ t.rest) q in
    let rest : drop next s ≡ t.rest =
    ap (λ (k : ℕ). drop k s) place ∙ sym (drop-drop (length (encode_in 4 x)) at s) ∙ ap (drop (length (encode_in 4 x))) bytes
    ∙ drop-append_seam (encode_in 4 x) t.rest in
    (bytes ∙ ap (λ (y : List ℕ). encode_in 4 x ++ y) (sym rest), place)

-- ---- bytes and lists of numbers as sources

-- numbers below 2 ^ 28, in bytes, are a source of those numbers
from_bytes : (ys xs : List ℕ) → ((k : ℕ) → get_or xs k 0 < 2 ^ 28) → items_from (ys ++ bytes_of xs) (length ys) ≡ of_numbers xs
unfolding bytes_of
from_bytes ys [] h = from_end (ys ++ []) (length ys) (omega (arith, length-append ys []))
from_bytes ys (x ∷ xs) h =
    from-num _ (length ys) x _
    (omega (arith, length-append ys (encode x ++ bytes_of xs), length-append (encode x) (bytes_of xs), encode-some x))
    (number-encode ys (bytes_of xs) x (h 0))
    ∙ ap (λ (is : List Item). num x ∷ is)
    (ap₂ items_from (sym (append_assoc ys (encode x) (bytes_of xs))) (sym (length-append ys (encode x)))
    ∙ from_bytes (ys ++ encode x) xs (λ k. h (suc k)))

pub numbers-bytes : (xs : List ℕ) → ((k : ℕ) → get_or xs k 0 < 2 ^ 28) → of_bytes (bytes_of xs) ≡ of_numbers xs
numbers-bytes xs h = from_bytes [] xs h

-- bytes that are a source of numbers are those numbers' bytes
from_nothing : (s : List ℕ) (at : ℕ) → items_from s at ≡ [] → length s ≤ at
from_nothing s at e = go (ltb at (length s)) refl
  where
    go : (t : Bool) → ltb at (length s) ≡ t → length s ≤ at
    go true q = absurd (omega (arith, from_some s at (ltb-true at (length s) q), ap length e))
    go false q = ltb-false at (length s) q

from_first : (s : List ℕ) (at x : ℕ) (is : List Item) → items_from s at ≡ num x ∷ is
    → (next : ℕ) × (number_at s at ≡ found x next) × (items_from s next ≡ is)
from_first s at x is e = go (ltb at (length s)) refl
  where
    by : (r : Result Number Refusal) → at < length s → number_at s at ≡ r
        → (next : ℕ) × (number_at s at ≡ found x next) × (items_from s next ≡ is)
    by (Ok n) h q =
        let z : num n.value ∷ items_from s n.next ≡ num x ∷ is = sym (from-num s at n.value n.next h q) ∙ e in
        let w : n.value ≡ x = cc in
        (n.next, q ∙ ap (λ (k : ℕ). found k n.next) w, cc)
    by (Err EndsInside) h q =
        let z = sym (from-fault s at EndsInside h q) ∙ e in let y : ◌≡◌ {A = ℕ} 0 1 = cc in absurd (omega arith)
    by (Err r) h q = let z = sym (from-fault s at r h q) ∙ e in let y : ◌≡◌ {A = ℕ} 0 1 = cc in absurd (omega arith)

    go : (t : Bool) → ltb at (length s) ≡ t → (next : ℕ) × (number_at s at ≡ found x next) × (items_from s next ≡ is)
    go true q = by (number_at s at) (ltb-true at (length s) q) refl
    go false q = let z = sym (from_end s at (ltb-false at (length s) q)) ∙ e in let y : ◌≡◌ {A = ℕ} 0 1 = cc in absurd (omega arith)

from-numbers : (xs s : List ℕ) (at : ℕ) → items_from s at ≡ of_numbers xs → drop at s ≡ bytes_of xs
unfolding bytes_of
from-numbers [] s at e = drop_of_length-le s (from_nothing s at e)
from-numbers (x ∷ xs) s at e =
    let r = from_first s at x (of_numbers xs) e in
    (number-bytes s at x r.0 r.1).0 ∙ ap (λ (y : List ℕ). encode x ++ y) (from-numbers xs s r.0 r.2)

pub bytes-numbers : (xs s : List ℕ) → of_bytes s ≡ of_numbers xs → s ≡ bytes_of xs
bytes-numbers xs s e = from-numbers xs s 0 e
