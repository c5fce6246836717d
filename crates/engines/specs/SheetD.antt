-- What is asked can be met: on sheet D, with a start set of all its settings, and what the answer then is. Assumes nothing.
use Rattle.std.specs.Prelude.{◌≡◌, refl, Bool, true, false, List, [], ◌∷◌, ◌++◌, ℕ, zero, suc, ◌-◌, ◌^◌, ◌<◌, get_or, take, replicate}
use Rattle.std.proofs.Common.{ap, ◌∙◌, arith}
use Rattle.std.proofs.lemmas.List.{length-replicate}
use Rattle.limits.specs.Limits.{most_fields, most_settings, rows_words, memory_words}
use Rattle.masks.specs.Tests.{never, all_below, some_below}
use Rattle.masks.specs.Bits.{bit}
use Rattle.masks.proofs.Bits.{bit_of-zero, bit_bound}
use Rattle.masks.specs.Masks.{mask_of, keep_in, keep_bits, some_in, some_bit, count_in, count_bits}
use Rattle.masks.specs.Sets.{has, only, count, same, get_d_zeros}
use Rattle.masks.specs.Settings.{cut, empty, some_empty}
use Rattle.masks.specs.Pick.{pick}
use Rattle.consistency.specs.Largest.{sweep, sweeps, largest}
use Rattle.consistency.specs.Problem.{list_triples, all_fields, linked}
use Rattle.consistency.specs.Closing.{partner, supported_by, supported, closing}
use Rattle.consistency.specs.Neighbourhood.{widen, fields_within, neighbourhood}
use Rattle.consistency.specs.Passing.{none_empty, passes_over}
use Rattle.consistency.specs.Offers.{is_selected, stays, offers, wiped_out}
use Rattle.accepted.specs.Parts.{field_start, rule_start, reach_of}
use Rattle.accepted.specs.Cases.{numbers_of_d, sheet-D}
use Rattle.network.specs.SheetProblem.{runs, pairs, sheet_problem}
use Rattle.engines.specs.Engine.{IsOrder, Offered}
use Rattle.engines.specs.Offering.{OfferAsks}

abbrev zeros : ℕ → List ℕ
zeros n = replicate n 0

-- every setting of its two fields
abbrev pub start_of_d : List ℕ
start_of_d = 7 ∷ 7 ∷ zeros (most_fields - 2)

abbrev pub offers_of_d : List ℕ
offers_of_d = 6 ∷ 3 ∷ zeros (most_fields - 2)

-- its fields in rising order
abbrev pub order_of_d : List ℕ
order_of_d = 0 ∷ 1 ∷ []

-- work spaces just long enough, with its numbers at the front of the second
abbrev pub rows_of_d : List ℕ
rows_of_d = zeros rows_words

abbrev pub memory_of_d : List ℕ
memory_of_d = numbers_of_d ++ zeros (memory_words - 15)

order-D : IsOrder 2 order_of_d
order-D = record { sized = refl; low = low; every = every }
  where
    low : (q : ℕ) → q < 2 → get_or order_of_d q 0 < 2
    low zero h = omega arith
    low (suc zero) h = omega arith
    low (suc (suc q)) h = absurd (omega arith)

    every : (f : ℕ) → f < 2 → (q : ℕ) × (q < 2) × (get_or order_of_d q 0 ≡ f)
    every zero h = (0, h, refl)
    every (suc zero) h = (1, h, refl)
    every (suc (suc f)) h = absurd (omega arith)

small-D : (f : ℕ) → get_or start_of_d f 0 < 2 ^ most_settings
small-D zero = omega arith
small-D (suc zero) = omega arith
small-D (suc (suc f)) = rw (get_d_zeros (most_fields - 2) f) (omega arith)

on-D : (f v : ℕ) → has start_of_d f v ≡ true → f < 2
unfolding has
on-D zero v h = omega arith
on-D (suc zero) v h = omega arith
on-D (suc (suc f)) v h = absurd (never h (ap (λ (x : ℕ). bit x v) (get_d_zeros (most_fields - 2) f) ∙ bit_of-zero v))

selected-D : (f : ℕ) → bit 3 f ≡ true → f < 2
selected-D f b = bit_bound 2 3 f (omega arith) b

-- both its fields are selected
pub offer-asks-D : OfferAsks (take 15 memory_of_d) 15 order_of_d 3 start_of_d rows_of_d memory_of_d
offer-asks-D = record {
  accepted = sheet-D.2;
  ends = let n = length-replicate {A = ℕ} (memory_words - 15) 0 in omega arith;
  visits = order-D;
  selected-fields = selected-D;
  masks = record { long = refl; small = small-D };
  on = on-D;
  tables = let n = length-replicate {A = ℕ} rows_words 0 in omega arith;
  room = let n = length-replicate {A = ℕ} (memory_words - 15) 0 in omega arith;
}

abbrev hood_of_d : ℕ → ℕ
hood_of_d = neighbourhood (sheet_problem numbers_of_d) (reach_of numbers_of_d)

computed : (wiped_out (sheet_problem numbers_of_d) hood_of_d 3 start_of_d ≡ false)
    × (offers (sheet_problem numbers_of_d) hood_of_d 3 start_of_d ≡ offers_of_d)
unfolding wiped_out offers stays is_selected passes_over none_empty neighbourhood fields_within widen all_fields closing supported
    supported_by partner largest sweeps sweep some_empty empty cut same count only count_bits count_in some_bit some_in keep_bits keep_in
    mask_of bit some_below all_below sheet_problem runs pairs pick field_start rule_start linked list_triples
computed = (refl, refl)

-- The only answer there: not wiped out, and the offers (6, 3).
pub offered-D : (wiped : Bool) (R : List ℕ)
    → Offered (sheet_problem (take 15 memory_of_d)) (neighbourhood (sheet_problem (take 15 memory_of_d)) (reach_of (take 15 memory_of_d))) 3
    start_of_d wiped R
    → (wiped ≡ false) × (R ≡ offers_of_d)
offered-D wiped R o = let e = o.wipes ∙ computed.0 in (e, o.made e ∙ computed.1)
