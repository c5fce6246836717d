-- What the program prints, in bytes: a line per field, or the number of the refusal (01, 'Reading to numbers, writing, printing').
-- Assumes nothing.
use Rattle.std.specs.Prelude.{List, [], ◌∷◌, ◌++◌, ℕ, zero, suc, ◌+◌, ◌/◌, ◌%◌, ltb, eqb, get_or}
use Rattle.masks.specs.Bits.{bit}
use Rattle.masks.specs.Pick.{pick}
use Rattle.accepted.specs.Parts.{fields_of, count_of, setting_of}

-- the numeral of x in `left` digits at most: that of its tens, then the digit of its ones; 48 is the digit 0
unfoldable pub digits : (left x : ℕ) → List ℕ
digits zero x = []
digits (suc left) x = let more = digits left (x / 10) ++ (48 + x % 10) ∷ [] in pick (ltb x 10) ((48 + x) ∷ []) more

-- The decimal numeral of a number.
unfoldable pub decimal : ℕ → List ℕ
decimal x = digits (suc x) x

-- the setting of field f at position v, where the mask offers it
abbrev pub offer : (xs : List ℕ) (f mask v : ℕ) → List ℕ
offer xs f mask v = pick (bit mask v) (setting_of xs f v ∷ []) []

-- The settings of field f that the mask offers at the positions below v, rising.
unfoldable pub offered : (xs : List ℕ) (f mask v : ℕ) → List ℕ
offered xs f mask zero = []
offered xs f mask (suc v) = offered xs f mask v ++ offer xs f mask v

-- for each number a blank and its numeral
unfoldable pub blank_each : List ℕ → List ℕ
blank_each [] = []
blank_each (s ∷ ss) = 32 ∷ decimal s ++ blank_each ss

-- The line of field f: position, colon, then a blank and a setting for each offer, and a line feed.
unfoldable pub line : (xs : List ℕ) (f mask : ℕ) → List ℕ
line xs f mask = decimal f ++ 58 ∷ [] ++ blank_each (offered xs f mask (count_of xs f)) ++ 10 ∷ []

-- The lines of the fields below f, each with its mask of the offers.
unfoldable pub lines : (xs offers : List ℕ) (f : ℕ) → List ℕ
lines xs offers zero = []
lines xs offers (suc f) = lines xs offers f ++ line xs f (get_or offers f 0)

-- `refused` and a blank
abbrev pub refused_word : List ℕ
refused_word = 114 ∷ 101 ∷ 102 ∷ 117 ∷ 115 ∷ 101 ∷ 100 ∷ 32 ∷ []

-- The line of a refusal.
unfoldable pub refused_line : ℕ → List ℕ
refused_line number = refused_word ++ decimal number ++ 10 ∷ []

-- What is printed where open answers with a number and offers to the sheet with the numbers xs.
unfoldable pub text : (xs : List ℕ) (number : ℕ) (offers : List ℕ) → List ℕ
text xs number offers = pick (eqb number 0) (lines xs offers (fields_of xs)) (refused_line number)
