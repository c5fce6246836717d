-- Where the parts of a sheet stand among its numbers. Assumes nothing.
use Rattle.std.specs.Prelude.{◌≡◌, refl, Bool, List, ℕ, zero, suc, ◌+◌, ◌*◌, ◌<◌, eqb, get_or}
use Rattle.std.proofs.Common.{ap, ◌∙◌, add-one, arith, eq-eqb, ne_eqb}
use Rattle.masks.specs.Pick.{pick, pick_true, pick-false}
use Rattle.sheet.specs.Sources.{Accepted}
use Rattle.accepted.specs.Kinds.{allows, even_draft}

-- the place of field f's count; its settings stand after it
unfoldable pub field_start : List ℕ → ℕ → ℕ
field_start xs zero = 1
field_start xs (suc f) = field_start xs f + 1 + get_or xs (field_start xs f) 0

-- how many fields
abbrev pub fields_of : List ℕ → ℕ
fields_of xs = get_or xs 0 0

-- the count of field f's settings
abbrev pub count_of : List ℕ → ℕ → ℕ
count_of xs f = get_or xs (field_start xs f) 0

-- its setting at position v
abbrev pub setting_of : List ℕ → ℕ → ℕ → ℕ
setting_of xs f v = get_or xs (field_start xs f + 1 + v) 0

-- the reach stands after the last field, and the number of rules after it
abbrev pub reach_of : List ℕ → ℕ
reach_of xs = get_or xs (field_start xs (fields_of xs)) 0

abbrev pub rules_of : List ℕ → ℕ
rules_of xs = get_or xs (field_start xs (fields_of xs) + 1) 0

-- how many numbers a rule has that stands at a place, after its fields and its kind
abbrev pub values_at : List ℕ → ℕ → ℕ
values_at xs at = pick (eqb (get_or xs (at + 2) 0) 0) (count_of xs (get_or xs at 0)) 1

-- the place of rule r's first field; the second, the kind and its numbers stand after it
unfoldable pub rule_start : List ℕ → ℕ → ℕ
rule_start xs zero = field_start xs (fields_of xs) + 2
rule_start xs (suc r) = rule_start xs r + 3 + values_at xs (rule_start xs r)

-- the fields i and j of rule r, its kind, and the number at position a of those after it
abbrev pub first_of : List ℕ → ℕ → ℕ
first_of xs r = get_or xs (rule_start xs r) 0

abbrev pub second_of : List ℕ → ℕ → ℕ
second_of xs r = get_or xs (rule_start xs r + 1) 0

abbrev pub kind_of : List ℕ → ℕ → ℕ
kind_of xs r = get_or xs (rule_start xs r + 2) 0

abbrev pub value_of : List ℕ → ℕ → ℕ → ℕ
value_of xs r a = get_or xs (rule_start xs r + 3 + a) 0

-- what a rule has for position a of its first field: the mask of that position (kind 0), or its number c
abbrev pub number_of : List ℕ → ℕ → ℕ → ℕ
number_of xs r a = pick (eqb (kind_of xs r) 0) (value_of xs r a) (value_of xs r 0)

-- whether rule r allows position a of its first field with position b of its second
abbrev pub rule_allows : List ℕ → ℕ → ℕ → ℕ → Bool
rule_allows xs r a b = allows (kind_of xs r) (number_of xs r a) (setting_of xs (first_of xs r) a) (setting_of xs (second_of xs r) b) b

-- the place of the count of triples; past the end where the sheet ends after its rules
abbrev pub triples_at : List ℕ → ℕ
triples_at xs = rule_start xs (rules_of xs)

-- how many triples; 0 where the sheet ends after its rules
abbrev pub triples_of : List ℕ → ℕ
triples_of xs = get_or xs (triples_at xs) 0

-- the place of triple t's first field; the second, the third and its number stand after it
abbrev pub triple_start : List ℕ → ℕ → ℕ
triple_start xs t = triples_at xs + 1 + t * 4

-- the fields i, j and k of triple t, and its number c
abbrev pub triple_first : List ℕ → ℕ → ℕ
triple_first xs t = get_or xs (triple_start xs t) 0

abbrev pub triple_second : List ℕ → ℕ → ℕ
triple_second xs t = get_or xs (triple_start xs t + 1) 0

abbrev pub triple_third : List ℕ → ℕ → ℕ
triple_third xs t = get_or xs (triple_start xs t + 2) 0

abbrev pub triple_number : List ℕ → ℕ → ℕ
triple_number xs t = get_or xs (triple_start xs t + 3) 0

-- whether triple t allows position a of its first field with position b of its second and position d of its third
abbrev pub triple_allows : List ℕ → ℕ → ℕ → ℕ → ℕ → Bool
triple_allows xs t a b d =
    even_draft (triple_number xs t) (setting_of xs (triple_first xs t) a) (setting_of xs (triple_second xs t) b)
    (setting_of xs (triple_third xs t) d)

-- ---- a part that stands at a place

-- field f of a sheet
pub record Field (xs : List ℕ) (f : ℕ) : Type 0 where
  pub accepted : Accepted xs
  pub within : f < fields_of xs

-- and whose count stands at a place
pub record FieldAt (xs : List ℕ) (f place : ℕ) : Type 0 where
  pub field : Field xs f
  pub at : place ≡ field_start xs f

-- rule r of a sheet, whose first field stands at a place
pub record RuleAt (xs : List ℕ) (r place : ℕ) : Type 0 where
  pub accepted : Accepted xs
  pub within : r < rules_of xs
  pub at : place ≡ rule_start xs r

-- triple t of a sheet, whose first field stands at a place
pub record TripleAt (xs : List ℕ) (t place : ℕ) : Type 0 where
  pub accepted : Accepted xs
  pub within : t < triples_of xs
  pub at : place ≡ triple_start xs t

-- ---- the places one after the other

pub field-first : (xs : List ℕ) → field_start xs 0 ≡ 1
unfolding field_start
field-first xs = refl

pub field_next : (xs : List ℕ) (f : ℕ) → field_start xs (f + 1) ≡ field_start xs f + 1 + count_of xs f
unfolding field_start
field_next xs f = rw (add-one f)

pub rule-first : (xs : List ℕ) → rule_start xs 0 ≡ field_start xs (fields_of xs) + 2
unfolding rule_start
rule-first xs = refl

pub rule-next : (xs : List ℕ) (r : ℕ) → rule_start xs (r + 1) ≡ rule_start xs r + 3 + values_at xs (rule_start xs r)
unfolding rule_start
rule-next xs r = rw (add-one r)

pub after-masks : (xs : List ℕ) (r : ℕ) → kind_of xs r ≡ 0 → rule_start xs (r + 1) ≡ rule_start xs r + 3 + count_of xs (first_of xs r)
after-masks xs r z = rule-next xs r ∙ ap (λ (k : ℕ). rule_start xs r + 3 + k) (pick_true _ _ _ (eq-eqb _ 0 z))

pub after-number : (xs : List ℕ) (r : ℕ) → (kind_of xs r ≡ 0 → ⊥) → rule_start xs (r + 1) ≡ rule_start xs r + 3 + 1
after-number xs r z = rule-next xs r ∙ ap (λ (k : ℕ). rule_start xs r + 3 + k) (pick-false _ _ _ (ne_eqb _ 0 z))

pub triple-first : (xs : List ℕ) → triple_start xs 0 ≡ triples_at xs + 1
triple-first xs = omega arith

pub triple-next : (xs : List ℕ) (t : ℕ) → triple_start xs (t + 1) ≡ triple_start xs t + 4
triple-next xs t = omega arith
