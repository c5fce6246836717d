-- Worked cases of the text, computed from the definitions. Assumes nothing.
use Rattle.std.specs.Prelude.{◌≡◌, refl, List, [], ◌∷◌, ℕ}
use Rattle.masks.specs.Bits.{bit}
use Rattle.masks.specs.Pick.{pick}
use Rattle.accepted.specs.Parts.{field_start}
use Rattle.accepted.specs.Cases.{numbers_of_d}
use Rattle.printing.specs.Text.{digits, decimal, offered, blank_each, line, lines, refused_line, text}

pub numerals : (decimal 0 ≡ 48 ∷ []) × (decimal 10 ≡ 49 ∷ 48 ∷ []) × (decimal 1000000 ≡ 49 ∷ 48 ∷ 48 ∷ 48 ∷ 48 ∷ 48 ∷ 48 ∷ [])
    × (decimal 4294967295 ≡ 52 ∷ 50 ∷ 57 ∷ 52 ∷ 57 ∷ 54 ∷ 55 ∷ 50 ∷ 57 ∷ 53 ∷ [])
unfolding decimal digits pick
numerals = (refl, refl, refl, refl)

-- sheet D: "0: 200 300", "1: 100 200"
abbrev pub text_of_d : List ℕ
text_of_d =
    48 ∷ 58 ∷ 32 ∷ 50 ∷ 48 ∷ 48 ∷ 32 ∷ 51 ∷ 48 ∷ 48 ∷ 10 ∷
    49 ∷ 58 ∷ 32 ∷ 49 ∷ 48 ∷ 48 ∷ 32 ∷ 50 ∷ 48 ∷ 48 ∷ 10 ∷ []

pub text-D : text numbers_of_d 0 (6 ∷ 3 ∷ []) ≡ text_of_d
unfolding text lines line blank_each offered decimal digits field_start bit pick
text-D = refl

-- "refused 14"
abbrev pub text_of14 : List ℕ
text_of14 = 114 ∷ 101 ∷ 102 ∷ 117 ∷ 115 ∷ 101 ∷ 100 ∷ 32 ∷ 49 ∷ 52 ∷ 10 ∷ []

pub text_14 : text [] 14 [] ≡ text_of14
unfolding text refused_line decimal digits pick
text_14 = refl
