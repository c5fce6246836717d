-- What holds of every accepted sheet. Assumes nothing.
use Rattle.std.specs.Prelude.{◌≡◌, refl, Bool, true, false, List, [], ◌∷◌, ℕ, ◌≤◌, eqb, length}
use Rattle.std.proofs.Common.{sym, ap, ap₂, ◌∙◌, arith, le-leb, eq-eqb, eqb-true}
use Rattle.masks.specs.Pick.{pick, pick_true, pick-false}
use Rattle.limits.specs.Limits.{most_bytes, most_numbers}
use Rattle.limits.specs.Refusals.{RETIRED}
use Rattle.sheet.specs.Sources.{refusal, numbers, of_bytes, of_numbers, bytes_of, Accepted, AcceptedBytes, produced, refusing, giving}
use Rattle.sheet.specs.Sources.{reading}
use Rattle.sheet.specs.Sources.{retired, Writable, writing}
use Rattle.accepted.specs.Round.{numbers-bytes, bytes-numbers}
use Rattle.accepted.specs.Accept.{accepted-numbers, bytes-accepted}
use Rattle.accepted.specs.Sheets.{retired_rules, IsSheet}
use Rattle.accepted.specs.AcceptedSheet.{sheet-in}
use Rattle.accepted.specs.RightSheet.{right-taken}
use Rattle.accepted.specs.Sizes.{sized_in}
use Rattle.accepted.specs.FirstFault.{writable_unretired, writable_accepted, accepted_writable}

-- Just the numbers of right sheets are accepted.
pub accepted-right : (xs : List ℕ) → Accepted xs → IsSheet xs
accepted-right xs e = sheet-in xs e

pub right-is-accepted : (xs : List ℕ) → IsSheet xs → Accepted xs
right-is-accepted xs t = rw t.split (right-taken t.sheet t.right).0

-- The retired kind is met in the numbers of a right sheet just where a rule has it.
pub right-retired : (xs : List ℕ) (t : IsSheet xs) → retired xs ≡ retired_rules t.sheet.rules
right-retired xs t = rw t.split (right-taken t.sheet t.right).1

-- Just the numbers of right sheets with no rule of the retired kind are written.
pub writable_right : (xs : List ℕ) → Writable xs → (t : IsSheet xs) × (retired_rules t.sheet.rules ≡ false)
writable_right xs w =
    let t = accepted-right xs (writable_accepted xs w) in (t, sym (right-retired xs t) ∙ writable_unretired xs w)

pub right-is_writable : (xs : List ℕ) (t : IsSheet xs) → retired_rules t.sheet.rules ≡ false → Writable xs
right-is_writable xs t h = accepted_writable xs (right-is-accepted xs t) (right-retired xs t ∙ h)

-- An accepted sheet has at most 8,184 numbers and 29,273 bytes.
pub most-numbers : (xs : List ℕ) → Accepted xs → length xs ≤ most_numbers
most-numbers xs e = (sized_in xs e).count

pub most-bytes : (xs : List ℕ) → Accepted xs → length (bytes_of xs) ≤ most_bytes
most-bytes xs e = (sized_in xs e).bytes

numbers-of : (xs : List ℕ) → numbers (of_numbers xs) ≡ xs
unfolding numbers
numbers-of [] = refl
numbers-of (x ∷ xs) = ap (λ (l : List ℕ). x ∷ l) (numbers-of xs)

-- Accepted numbers in bytes are read as those numbers.
same_numbers : (xs : List ℕ) → Accepted xs → of_bytes (bytes_of xs) ≡ of_numbers xs
same_numbers xs e = numbers-bytes xs (sized_in xs e).below

-- The numbers that reading gives are exact: every accepted sheet's bytes are theirs, whatever its kinds.
pub exact : (s : List ℕ) → AcceptedBytes s → bytes_of (numbers (of_bytes s)) ≡ s
exact s e = sym (bytes-numbers (numbers (of_bytes s)) s (accepted-numbers (of_bytes s) e))

-- a source that is accepted, over an output with room for its values
given : (number : ℕ) (values before : List ℕ) → number ≡ 0 → length values ≤ length before
    → produced number values before ≡ giving values before
given number values before z h = pick_true _ _ _ (eq-eqb number 0 z) ∙ pick_true _ _ _ (le-leb (length values) (length before) h)

-- So the other way round: the bytes of an accepted list are read to it, whatever its kinds.
pub encoded-read : (xs before : List ℕ) → Accepted xs → reading (bytes_of xs) before ≡ produced 0 xs before
encoded-read xs before e =
    ap₂ (λ (number : ℕ) (values : List ℕ). produced number values before) (ap refusal (same_numbers xs e) ∙ e)
    (ap numbers (same_numbers xs e) ∙ numbers-of xs)

-- Written, then read: the same numbers, for every list that is written; whatever room is lent, and with room for them.
pub written-read_in : (xs before : List ℕ) → Writable xs → reading (bytes_of xs) before ≡ produced 0 xs before
written-read_in xs before w = encoded-read xs before (writable_accepted xs w)

pub written_read : (xs before : List ℕ) → Writable xs → length xs ≤ length before → reading (bytes_of xs) before ≡ giving xs before
written_read xs before w h = written-read_in xs before w ∙ given 0 xs before refl h

-- Read, then written: the same bytes, for every accepted sheet without the retired kind; whatever room is lent, and with room for them.
pub read-written_in : (s before : List ℕ) → AcceptedBytes s → retired (numbers (of_bytes s)) ≡ false
    → writing (numbers (of_bytes s)) before ≡ produced 0 s before
read-written_in s before e h =
    ap₂ (λ (number : ℕ) (values : List ℕ). produced number values before) (accepted_writable _ (bytes-accepted s e) h) (exact s e)

pub read-written : (s before : List ℕ) → AcceptedBytes s → retired (numbers (of_bytes s)) ≡ false → length s ≤ length before
    → writing (numbers (of_bytes s)) before ≡ giving s before
read-written s before e h l = read-written_in s before e h ∙ given 0 s before refl l

-- A sheet with the retired kind is read, and its numbers are refused by 20, with the output as it was.
pub read-refused : (s before : List ℕ) → retired (numbers (of_bytes s)) ≡ true
    → writing (numbers (of_bytes s)) before ≡ refusing RETIRED before
unfolding pick
read-refused s before h = rw h

-- An accepted sheet has at most 29,273 bytes and 8,184 numbers, whichever of the two it is given as.
pub most-sheet-bytes : (s : List ℕ) → AcceptedBytes s → length s ≤ most_bytes
most-sheet-bytes s e = rw (← exact s e) (most-bytes _ (bytes-accepted s e))

pub most-sheet-numbers : (s : List ℕ) → AcceptedBytes s → length (numbers (of_bytes s)) ≤ most_numbers
most-sheet-numbers s e = most-numbers (numbers (of_bytes s)) (bytes-accepted s e)

-- Over an output of 8,184 words or more, reading is never refused by 6.
pub enough-room : (s before : List ℕ) → most_numbers ≤ length before
    → reading s before ≡ pick (eqb (refusal (of_bytes s)) 0) (giving (numbers (of_bytes s)) before) (refusing (refusal (of_bytes s)) before)
enough-room s before h = go (eqb (refusal (of_bytes s)) 0) refl
  where
    go : (t : Bool) → eqb (refusal (of_bytes s)) 0 ≡ t
        → reading s before
        ≡ pick (eqb (refusal (of_bytes s)) 0) (giving (numbers (of_bytes s)) before) (refusing (refusal (of_bytes s)) before)
    go true e =
        let z : refusal (of_bytes s) ≡ 0 = eqb-true (refusal (of_bytes s)) 0 e in
        let l : length (numbers (of_bytes s)) ≤ length before = omega (arith, most-sheet-numbers s z) in
        given (refusal (of_bytes s)) (numbers (of_bytes s)) before z l ∙ sym (pick_true _ _ _ e)
    go false e = pick-false _ _ _ e ∙ sym (pick-false _ _ _ e)
