-- The order of the causes: ledgers and calls to which two causes apply, and the number given, computed. The ledgers are forged; no
-- sequence of calls makes some of them. Assumes nothing.
use Rattle.std.specs.Prelude.{◌≡◌, refl, List, [], ◌∷◌, ℕ, zero, suc}
use Rattle.limits.specs.Limits.{offers_words, rows_words, memory_words}
use Rattle.masks.specs.Tests.{all_below, some_below}
use Rattle.masks.specs.Bits.{bit}
use Rattle.masks.specs.Masks.{mask_of, keep_in, keep_bits, some_in, some_bit, count_in, count_bits}
use Rattle.masks.specs.Sets.{has, only, count, same, pad}
use Rattle.masks.specs.Settings.{cut, empty, some_empty}
use Rattle.masks.specs.Pick.{pick}
use Rattle.consistency.specs.Largest.{sweep, sweeps, largest}
use Rattle.consistency.specs.Problem.{list_triples, all_fields, linked}
use Rattle.consistency.specs.Closing.{partner, supported_by, supported, closing}
use Rattle.consistency.specs.Neighbourhood.{widen, fields_within, neighbourhood}
use Rattle.consistency.specs.Passing.{none_empty, passes_over}
use Rattle.consistency.specs.Offers.{is_selected, stays, offers, wiped_out}
use Rattle.groups.specs.Groups.{groups, number_at}
use Rattle.grammar.specs.Grammar.{advance}
use Rattle.sheet.specs.Sources.{refusal_from, numbers, items}
use Rattle.accepted.specs.Lists.{tabulate}
use Rattle.accepted.specs.Parts.{field_start, rule_start}
use Rattle.accepted.specs.Outline.{outline_of}
use Rattle.accepted.specs.Cases.{D}
use Rattle.network.specs.SheetProblem.{runs, pairs, sheet_problem}
use Rattle.ledger.specs.declared.Decision.TheVariants.{Choice, Strike}
use Rattle.ledger.specs.declared.Event.{Event}
use Rattle.ledger.specs.declared.Call.TheVariants.{Open, Show, Back}
use Rattle.ledger.specs.Occurrences.{occurrences}
use Rattle.ledger.specs.Ledger.{CHOOSE, STRIKE, WITHDRAW_CHOICE, WITHDRAW_STRIKE, change_by, decides, Ledger}
use Rattle.ledger.specs.Ledger.{same_decision, in_force, without, opened, backed, step, other_chosen, starts, start_set, offers_of, wiped}
use Rattle.ledger.specs.Ledger.{Given, space_short, on_sheet, all_on_sheet, reversible, no_selection, malformed, no_engine, is_order}
use Rattle.ledger.specs.Ledger.{first, judged, causes, number}

-- sheet D with an engine, an order, and spaces just long enough
abbrev given_d : ℕ → List ℕ → Given
given_d engine order = record { sheet = D; engine = engine; order = order; offers = offers_words; rows = rows_words; memory = memory_words }

abbrev rising : List ℕ
rising = 0 ∷ 1 ∷ []

-- a sheet of no bytes, and an offers list of a length
abbrev no_sheet : ℕ → Given
no_sheet words = record { sheet = []; engine = 1; order = rising; offers = words; rows = rows_words; memory = memory_words }

-- a sheet of one field at reach 1
abbrev narrow : ℕ → List ℕ → Given
narrow engine order = record {
  sheet = 1 ∷ 1 ∷ 5 ∷ 1 ∷ 0 ∷ [];
  engine = engine;
  order = order;
  offers = offers_words;
  rows = rows_words;
  memory = memory_words;
}

-- an event of field 0, position 0
abbrev happened : ℕ → Event
happened kind = record { kind = kind; field = 0; position = 0 }

-- a strike added and withdrawn again and again: 2n events
pub past_of : ℕ → List Event
past_of zero = []
past_of (suc n) = happened WITHDRAW_STRIKE ∷ happened STRIKE ∷ past_of n

-- no decision, and 64 events
abbrev full : Ledger
full = record { decisions = []; events = past_of 32; selected = 3 }

-- a strike in force, and 64 events
abbrev struck : Ledger
struck = record {
  decisions = Strike 0 0 ∷ [];
  events = happened STRIKE ∷ happened WITHDRAW_STRIKE ∷ happened STRIKE ∷ past_of 30;
  selected = 3;
}

-- a decision that is not on the sheet; an addition that is not in force; events of no kind
abbrev off : Ledger
off = record { decisions = Choice 2 0 ∷ []; events = []; selected = 3 }

abbrev unheld : Ledger
unheld = record { decisions = []; events = happened CHOOSE ∷ []; selected = 3 }

abbrev strange : ℕ → Ledger
strange kind = record { decisions = []; events = happened kind ∷ []; selected = 3 }

-- sheet D with spaces of so many words
abbrev lent : ℕ → ℕ → ℕ → Given
lent offers rows memory = record { sheet = D; engine = 1; order = rising; offers = offers; rows = rows; memory = memory }

-- a strike in force, and an odd number of events: 63 or 65
abbrev odd : ℕ → Ledger
odd n = record { decisions = Strike 0 0 ∷ []; events = happened STRIKE ∷ past_of n; selected = 3 }

-- the ends of the limits of a call, spelled: 24, 13,248 and 13,824 words are enough and one less is not; event 64 is taken and event 65 is
-- not; 65 events are too many
pub ends_of_limits : (number (lent 24 13248 13824) Show (opened 3) ≡ 0) × (number (lent 23 13248 13824) Show (opened 3) ≡ 6)
    × (number (lent 24 13247 13824) Show (opened 3) ≡ 6) × (number (lent 24 13248 13823) Show (opened 3) ≡ 6)
    × (number (lent 24 13248 13824) (decides WITHDRAW_STRIKE 0 0) (odd 31) ≡ 0)
    × (number (lent 24 13248 13824) (decides STRIKE 1 0) full ≡ 12) × (number (lent 24 13248 13824) Show full ≡ 0)
    × (number (lent 24 13248 13824) Show (odd 32) ≡ 15)
unfolding past_of wiped_out offers stays is_selected passes_over none_empty neighbourhood fields_within linked list_triples widen all_fields
    closing supported supported_by partner largest sweeps sweep some_empty empty cut same count only count_bits count_in some_bit some_in
    keep_bits keep_in mask_of bit has pad some_below all_below tabulate occurrences number first causes judged malformed no_engine is_order
    space_short no_selection reversible all_on_sheet on_sheet in_force same_decision without change_by backed step other_chosen starts
    start_set
    offers_of wiped outline_of refusal_from numbers items number_at groups pick advance field_start rule_start sheet_problem runs pairs
ends_of_limits = (refl, refl, refl, refl, refl, refl, refl, refl)

-- Sheet D has two fields and `narrow` has one: 3 and 1 select all.
pub order_of_causes :
    -- 6 before 1, and 1 before 15 and 18
    (number (no_sheet 23) Show off ≡ 6) × (number (no_sheet 24) Show off ≡ 1) × (number (no_sheet 23) (Open 0) off ≡ 6)
    × (number (no_sheet 24) (Open 0) off ≡ 1)
    -- 15 before 7; open skips it
    × (number (given_d 0 rising) Show off ≡ 15) × (number (given_d 0 rising) Show unheld ≡ 15)
    × (number (given_d 0 rising) Back (strange 0) ≡ 15) × (number (given_d 0 rising) Back (strange 5) ≡ 15)
    × (number (given_d 0 rising) (Open 3) off ≡ 7)
    -- 18 before 7 and 9: no field, a field beyond the sheet; and a session with such a mask is malformed
    × (number (given_d 0 rising) (Open 0) off ≡ 18) × (number (given_d 1 []) (Open 4) off ≡ 18)
    × (number (given_d 0 rising) (Open 7) off ≡ 18) × (number (given_d 1 []) (Open 0xFFFFFFFF) off ≡ 18)
    × (number (given_d 0 rising) Show (opened 0) ≡ 15) × (number (given_d 0 rising) Show (opened 4) ≡ 15)
    × (number (given_d 1 rising) (Open 1) off ≡ 0) × (number (given_d 1 rising) Show (opened 2) ≡ 0)
    -- 7, for the engine and for the decision, before 9; engine 2 is taken at reach 1
    × (number (narrow 0 []) Show (opened 1) ≡ 7)
    × (number (narrow 2 []) (decides CHOOSE 1 0) (opened 1) ≡ 7) × (number (narrow 2 []) (decides CHOOSE 0 1) (opened 1) ≡ 7)
    × (number (narrow 2 []) (decides CHOOSE 0 0) (opened 1) ≡ 9) × (number (narrow 3 []) (decides CHOOSE 0 0) (opened 1) ≡ 9)
    × (number (narrow 2 (0 ∷ [])) (decides CHOOSE 0 0) (opened 1) ≡ 0)
    -- a kind that is none of the four
    × (number (narrow 2 []) (decides 0 0 0) (opened 1) ≡ 7) × (number (narrow 2 []) (decides 5 0 0) (opened 1) ≡ 7)
    -- 9 before 10, 11 and 13
    × (number (given_d 1 (0 ∷ 0 ∷ [])) (decides STRIKE 0 0) struck ≡ 9)
    × (number (given_d 1 (0 ∷ [])) (decides WITHDRAW_CHOICE 0 0) (opened 3) ≡ 9) × (number (given_d 1 (1 ∷ 2 ∷ [])) Back (opened 3) ≡ 9)
    -- 10 and 11 before 12, and 13
    × (number (given_d 1 rising) (decides STRIKE 0 0) struck ≡ 10) × (number (given_d 1 rising) (decides WITHDRAW_CHOICE 0 0) full ≡ 11)
    × (number (given_d 1 rising) Back (opened 3) ≡ 13)
    -- 12 before 14; back is not refused by 12
    × (number (given_d 1 rising) (decides CHOOSE 0 0) full ≡ 12) × (number (given_d 1 rising) (decides CHOOSE 0 0) (opened 3) ≡ 14)
    × (number (given_d 1 rising) Back full ≡ 0)
unfolding past_of wiped_out offers stays is_selected passes_over none_empty neighbourhood fields_within linked list_triples widen all_fields
    closing supported supported_by partner largest sweeps sweep some_empty empty cut same count only count_bits count_in some_bit some_in
    keep_bits keep_in mask_of bit has pad some_below all_below tabulate occurrences number first causes judged malformed no_engine is_order
    space_short no_selection reversible all_on_sheet on_sheet in_force same_decision without change_by backed step other_chosen starts
    start_set
    offers_of wiped outline_of refusal_from numbers items number_at groups pick advance field_start rule_start sheet_problem runs pairs
order_of_causes = (
  refl,
  refl,
  refl,
  refl,
  refl,
  refl,
  refl,
  refl,
  refl,
  refl,
  refl,
  refl,
  refl,
  refl,
  refl,
  refl,
  refl,
  refl,
  refl,
  refl,
  refl,
  refl,
  refl,
  refl,
  refl,
  refl,
  refl,
  refl,
  refl,
  refl,
  refl,
  refl,
  refl,
  refl,
)
