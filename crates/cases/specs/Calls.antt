-- The sheets and calls that the cases speak of. Assumes nothing.
use Rattle.std.specs.Prelude.{true, List, [], ◌∷◌, ◌++◌, ℕ}
use Rattle.limits.specs.Limits.{offers_words, rows_words, memory_words}
use Rattle.masks.specs.Masks.{mask_of}
use Rattle.sheet.specs.Sources.{numbers, of_bytes}
use Rattle.accepted.specs.Lists.{tabulate}
use Rattle.accepted.specs.Parts.{fields_of}
use Rattle.ledger.specs.declared.Call.{Call}
use Rattle.ledger.specs.Ledger.{Given, Ledger, number, after}

-- engine 1, the fields of a sheet in rising order, and spaces just long enough
abbrev pub given : List ℕ → Given
given sheet = record {
  sheet = sheet;
  engine = 1;
  order = tabulate (fields_of (numbers (of_bytes sheet))) (λ f. f);
  offers = offers_words;
  rows = rows_words;
  memory = memory_words;
}

-- the selected fields of a sheet: every field, or those of a mask
abbrev pub every : List ℕ → ℕ
every sheet = mask_of (fields_of (numbers (of_bytes sheet))) (λ f. true)

abbrev pub these : ℕ → List ℕ → ℕ
these selected sheet = selected

-- the numbers of calls one after the other, and the ledger after the last
unfoldable pub answers : Given → Ledger → List Call → List ℕ
answers g l [] = []
answers g l (c ∷ cs) = number g c l ∷ answers g (after g c l) cs

unfoldable pub after_all : Given → Ledger → List Call → Ledger
after_all g l [] = l
after_all g l (c ∷ cs) = after_all g (after g c l) cs

-- one field with the setting 300 and no rule
abbrev pub single : List ℕ
single = 0x01 ∷ 0x01 ∷ 0xAC ∷ 0x02 ∷ 0x18 ∷ 0x00 ∷ []

-- fields {0, 65,536, 1,000,000} and {65,535, 999,999}, and a rule of a kind with c, given by its groups
abbrev pub edges : ℕ → List ℕ → List ℕ
edges kind c =
    0x02 ∷ 0x03 ∷ 0x00 ∷ 0x80 ∷ 0x80 ∷ 0x04 ∷ 0xC0 ∷ 0x84 ∷ 0x3D ∷ 0x02 ∷ 0xFF ∷ 0xFF ∷ 0x03 ∷ 0xBF ∷ 0x84 ∷ 0x3D
    ∷ 0x18 ∷ 0x01 ∷ 0x00 ∷ 0x01 ∷ kind ∷ c

-- fields {0 to 5, 97, 98, 102, 103, 999,997, 999,998, 1,000,000}, {0} and the first again, and rules of kind 5 with c, given by its groups,
-- between the second and each other
abbrev pub encoders : List ℕ → List ℕ
encoders c = 3 ∷ (distances ++ 1 ∷ 0 ∷ (distances ++ 0x18 ∷ 2 ∷ 0 ∷ 1 ∷ 5 ∷ (c ++ 1 ∷ 2 ∷ 5 ∷ c)))
  where
    distances : List ℕ
    distances = 13 ∷ 0 ∷ 1 ∷ 2 ∷ 3 ∷ 4 ∷ 5 ∷ 97 ∷ 98 ∷ 102 ∷ 103 ∷ 0xBD ∷ 0x84 ∷ 0x3D ∷ 0xBE ∷ 0x84 ∷ 0x3D ∷ 0xC0 ∷ 0x84 ∷ 0x3D ∷ []

-- three fields {1, 2}, all pairs of kind 3 with c 1, at a reach
abbrev pub three : ℕ → List ℕ
three reach = 3 ∷ 2 ∷ 1 ∷ 2 ∷ 2 ∷ 1 ∷ 2 ∷ 2 ∷ 1 ∷ 2 ∷ reach ∷ 3 ∷ 0 ∷ 1 ∷ 3 ∷ 1 ∷ 0 ∷ 2 ∷ 3 ∷ 1 ∷ 1 ∷ 2 ∷ 3 ∷ 1 ∷ []

-- the same with a fourth field, which has no rule
abbrev pub three_and_one : ℕ → List ℕ
three_and_one reach = 4 ∷ 2 ∷ 1 ∷ 2 ∷ 2 ∷ 1 ∷ 2 ∷ 2 ∷ 1 ∷ 2 ∷ 2 ∷ 1 ∷ 2 ∷ reach ∷ 3 ∷ 0 ∷ 1 ∷ 3 ∷ 1 ∷ 0 ∷ 2 ∷ 3 ∷ 1 ∷ 1 ∷ 2 ∷ 3 ∷ 1 ∷ []

-- fields {1, 2, 3}, {1, 2, 3}, {1, 2}, {1, 2} at reach 1, of which all pairs but the first two differ
abbrev pub two_over_two : List ℕ
two_over_two =
    4 ∷ 3 ∷ 1 ∷ 2 ∷ 3 ∷ 3 ∷ 1 ∷ 2 ∷ 3 ∷ 2 ∷ 1 ∷ 2 ∷ 2 ∷ 1 ∷ 2 ∷ 1
    ∷ 5 ∷ 0 ∷ 2 ∷ 3 ∷ 1 ∷ 0 ∷ 3 ∷ 3 ∷ 1 ∷ 1 ∷ 2 ∷ 3 ∷ 1 ∷ 1 ∷ 3 ∷ 3 ∷ 1 ∷ 2 ∷ 3 ∷ 3 ∷ 1 ∷ []

-- fields {1, 2, 3}, {1, 2}, {1, 2} at reach 1 that all differ, and a fourth {1, 2, 3} equal to the first
abbrev pub three_and_copy : List ℕ
three_and_copy =
    4 ∷ 3 ∷ 1 ∷ 2 ∷ 3 ∷ 2 ∷ 1 ∷ 2 ∷ 2 ∷ 1 ∷ 2 ∷ 3 ∷ 1 ∷ 2 ∷ 3 ∷ 1
    ∷ 4 ∷ 0 ∷ 1 ∷ 3 ∷ 1 ∷ 0 ∷ 2 ∷ 3 ∷ 1 ∷ 0 ∷ 3 ∷ 4 ∷ 0 ∷ 1 ∷ 2 ∷ 3 ∷ 1 ∷ []

-- five fields {1, 2} in a ring, joined ones of kind 3 with c 1, at a reach
abbrev pub five : ℕ → List ℕ
five reach =
    5 ∷ 2 ∷ 1 ∷ 2 ∷ 2 ∷ 1 ∷ 2 ∷ 2 ∷ 1 ∷ 2 ∷ 2 ∷ 1 ∷ 2 ∷ 2 ∷ 1 ∷ 2 ∷ reach
    ∷ 5 ∷ 0 ∷ 1 ∷ 3 ∷ 1 ∷ 0 ∷ 4 ∷ 3 ∷ 1 ∷ 1 ∷ 2 ∷ 3 ∷ 1 ∷ 2 ∷ 3 ∷ 3 ∷ 1 ∷ 3 ∷ 4 ∷ 3 ∷ 1 ∷ []

-- three passes {18, 20, 22}, {15, 16}, {10, 12, 13} at a reach, with no rule and one triple rule with c, which has one group
abbrev pub even_drafts : ℕ → ℕ → List ℕ
even_drafts reach c = 3 ∷ 3 ∷ 18 ∷ 20 ∷ 22 ∷ 2 ∷ 15 ∷ 16 ∷ 3 ∷ 10 ∷ 12 ∷ 13 ∷ reach ∷ 0 ∷ 1 ∷ 0 ∷ 1 ∷ 2 ∷ c ∷ []

-- four fields at a reach, of which all but the third are {0, 1, 2}: field 0 is at least fields 1 and 3, and fields 1, 2 and 3 are in line
abbrev pub line_of : ℕ → List ℕ → List ℕ
line_of reach third =
    4 ∷ 3 ∷ 0 ∷ 1 ∷ 2 ∷ 3 ∷ 0 ∷ 1 ∷ 2 ∷ (third ++ 3 ∷ 0 ∷ 1 ∷ 2 ∷ reach ∷ 2 ∷ 0 ∷ 1 ∷ 1 ∷ 0 ∷ 0 ∷ 3 ∷ 1 ∷ 0 ∷ 1 ∷ 1 ∷ 2 ∷ 3 ∷ 0 ∷ [])

-- fields {1, 2} at a reach, equal where a triple rule with c 0 has them: the first three of four, of which the second and third differ
abbrev pub equal_three : ℕ → List ℕ
equal_three reach = 4 ∷ 2 ∷ 1 ∷ 2 ∷ 2 ∷ 1 ∷ 2 ∷ 2 ∷ 1 ∷ 2 ∷ 2 ∷ 1 ∷ 2 ∷ reach ∷ 1 ∷ 1 ∷ 2 ∷ 3 ∷ 1 ∷ 1 ∷ 0 ∷ 1 ∷ 2 ∷ 0 ∷ []

-- all five by two triple rules, of which the last two differ
abbrev pub equal_five : ℕ → List ℕ
equal_five reach =
    5 ∷ 2 ∷ 1 ∷ 2 ∷ 2 ∷ 1 ∷ 2 ∷ 2 ∷ 1 ∷ 2 ∷ 2 ∷ 1 ∷ 2 ∷ 2 ∷ 1 ∷ 2 ∷ reach ∷ 1 ∷ 3 ∷ 4 ∷ 3 ∷ 1
    ∷ 2 ∷ 0 ∷ 1 ∷ 2 ∷ 0 ∷ 2 ∷ 3 ∷ 4 ∷ 0 ∷ []
