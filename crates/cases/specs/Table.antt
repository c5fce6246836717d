-- The starred cases of the scope (01, 'Trials at the mill') and cases of the requests (02), one table under one theorem that the checker
-- computes. Assumes nothing.
use Rattle.std.specs.Prelude.{◌≡◌, refl, Bool, true, false, not, ◌&&◌, List, [], ◌∷◌, ◌++◌, ℕ}
use Rattle.masks.specs.Tests.{all_below, some_below}
use Rattle.masks.specs.Bits.{bit}
use Rattle.masks.specs.Masks.{mask_of, keep_in, keep_bits, some_in, some_bit, count_in, count_bits}
use Rattle.masks.specs.Sets.{has, only, count, same, pad}
use Rattle.masks.specs.Settings.{cut, empty, some_empty}
use Rattle.masks.specs.Restrict.{restrict}
use Rattle.masks.specs.Pick.{pick}
use Rattle.consistency.specs.Largest.{sweep, sweeps, largest}
use Rattle.consistency.specs.Problem.{has_field, list_triples, Problem, all_fields, triple_has, linked}
use Rattle.consistency.specs.Triples.{takes, third_fits, second_fits, together}
use Rattle.consistency.specs.Closing.{partner, supported_by, supported_by_triple, supported, closing}
use Rattle.consistency.specs.Neighbourhood.{widen, fields_within, neighbourhood}
use Rattle.consistency.specs.Passing.{none_empty, passes_over}
use Rattle.consistency.specs.Offers.{is_selected, stays, offers, wiped_out}
use Rattle.consistency.specs.Left.{left_in}
use Rattle.groups.specs.Groups.{groups, number_at}
use Rattle.grammar.specs.Grammar.{advance}
use Rattle.sheet.specs.Sources.{refusal_from, numbers, items, of_bytes}
use Rattle.accepted.specs.Lists.{tabulate}
use Rattle.accepted.specs.Parts.{field_start, rule_start}
use Rattle.accepted.specs.Outline.{outline_of}
use Rattle.accepted.specs.Cases.{D}
use Rattle.network.specs.SheetProblem.{runs, pairs, sheet_triple, sheet_problem}
use Rattle.ledger.specs.declared.Call.{Call}
use Rattle.ledger.specs.declared.Call.TheVariants.{Open, Show, Back, CoilOn}
use Rattle.ledger.specs.Occurrences.{occurrences}
use Rattle.ledger.specs.Ledger.{CHOOSE, STRIKE, WITHDRAW_STRIKE, change_by, decides, same_decision, in_force, without, opened, backed, step}
use Rattle.ledger.specs.Ledger.{other_chosen, starts, start_set, offers_of, wiped, space_short, on_sheet, all_on_sheet, reversible}
use Rattle.ledger.specs.Ledger.{no_selection, malformed, no_engine, is_order, first, judged, causes, number, after}
use Rattle.cases.specs.Problems.{all_different, ring}
use Rattle.cases.specs.Calls.{given, every, these, answers, after_all, single, edges, encoders, three, three_and_one}
use Rattle.cases.specs.Calls.{five, two_over_two, three_and_copy, even_drafts, line_of, equal_three, equal_five}

pub data Case : Type 0 where
  -- a problem, a reach, a mask of selected fields, a set; its closing over every field, its offers, and whether it is wiped out
  consistency : Problem → ℕ → ℕ → List ℕ → List ℕ → List ℕ → Bool → Case
  -- a problem, a reach, a set, a field and a position; what its test, which passes, leaves in the field's neighbourhood
  leaves : Problem → ℕ → List ℕ → ℕ → ℕ → List ℕ → Case
  -- the bytes of a sheet, a set, and its closing over every field
  closes : List ℕ → List ℕ → List ℕ → Case
  -- the bytes of a sheet, the selected fields that it is opened with, the calls after that, and the numbers of all of them
  calls : List ℕ → (List ℕ → ℕ) → List Call → List ℕ → Case
  -- and, where the last is accepted, the masks of the offers after it
  shown : List ℕ → (List ℕ → ℕ) → List Call → List ℕ → List ℕ → Case

-- two answers are the same
agree : Bool → Bool → Bool
agree true b = b
agree false b = not b

-- It opens all that it computes with, so a theorem says `unfolding all_hold` and no more.
unfoldable pub holds : Case → Bool
unfolding agree restrict wiped_out offers stays is_selected passes_over none_empty neighbourhood fields_within widen linked triple_has
    has_field all_fields closing supported supported_by supported_by_triple together second_fits third_fits takes list_triples sheet_triple
    partner largest sweeps sweep some_empty empty cut same count only count_bits count_in some_bit some_in keep_bits keep_in mask_of bit has
    pad some_below all_below answers after_all tabulate occurrences number after first causes judged malformed no_engine is_order
    space_short no_selection reversible all_on_sheet on_sheet in_force same_decision without change_by backed step other_chosen starts
    start_set offers_of wiped outline_of refusal_from numbers items number_at groups pick advance field_start rule_start sheet_problem runs
    pairs
holds (consistency P k selected S closed offered wiped) =
    let hood = neighbourhood P k in
    same (closing P (all_fields P) S) closed && same (offers P hood selected S) offered && agree (wiped_out P hood selected S) wiped
holds (leaves P k S f v masks) = passes_over P (neighbourhood P k f) S f v && same (left_in P (neighbourhood P k f) S f v) masks
holds (closes sheet S closed) =
    let P = sheet_problem (numbers (of_bytes sheet)) in
    same (closing P (all_fields P) S) closed
holds (calls sheet selected cs ks) = same (answers (given sheet) (opened 0) (Open (selected sheet) ∷ cs)) ks
holds (shown sheet selected cs ks masks) =
    same (answers (given sheet) (opened 0) (Open (selected sheet) ∷ cs)) ks
    && same (offers_of (numbers (of_bytes sheet)) (after_all (given sheet) (opened 0) (Open (selected sheet) ∷ cs))) masks

unfoldable pub all_hold : List Case → Bool
unfolding holds
all_hold [] = true
all_hold (c ∷ cs) = holds c && all_hold cs

abbrev pub table : List Case
table =
    -- three fields {1, 2}, all pairs: closing keeps all, and reach 1 and 24 wipe out
    consistency (all_different 3 3) 1 7 (3 ∷ 3 ∷ 3 ∷ []) (3 ∷ 3 ∷ 3 ∷ []) (0 ∷ 0 ∷ 0 ∷ []) true
    ∷ consistency (all_different 3 3) 24 7 (3 ∷ 3 ∷ 3 ∷ []) (3 ∷ 3 ∷ 3 ∷ []) (0 ∷ 0 ∷ 0 ∷ []) true
    -- five such fields in a ring: reach 1 keeps all, reach 2 wipes out
    ∷ consistency (ring 5) 1 31 (3 ∷ 3 ∷ 3 ∷ 3 ∷ 3 ∷ []) (3 ∷ 3 ∷ 3 ∷ 3 ∷ 3 ∷ []) (3 ∷ 3 ∷ 3 ∷ 3 ∷ 3 ∷ []) false
    ∷ consistency (ring 5) 2 31 (3 ∷ 3 ∷ 3 ∷ 3 ∷ 3 ∷ []) (3 ∷ 3 ∷ 3 ∷ 3 ∷ 3 ∷ []) (0 ∷ 0 ∷ 0 ∷ 0 ∷ 0 ∷ []) true
    -- the three fields and a fourth with no rule, reach 1: some field is empty
    ∷ consistency (all_different 3 4) 1 15 (3 ∷ 3 ∷ 3 ∷ 3 ∷ []) (3 ∷ 3 ∷ 3 ∷ 3 ∷ []) (0 ∷ 0 ∷ 0 ∷ 3 ∷ []) true
    -- sheet D
    ∷ shown D every [] (0 ∷ []) (6 ∷ 3 ∷ [])
    ∷ shown D every (decides STRIKE 0 2 ∷ []) (0 ∷ 0 ∷ []) (2 ∷ 1 ∷ [])
    ∷ calls D every (decides STRIKE 0 2 ∷ decides CHOOSE 1 1 ∷ []) (0 ∷ 0 ∷ 14 ∷ [])
    ∷ shown D every (decides STRIKE 0 2 ∷ decides CHOOSE 1 0 ∷ decides WITHDRAW_STRIKE 0 2 ∷ []) (0 ∷ 0 ∷ 0 ∷ 0 ∷ []) (6 ∷ 1 ∷ [])
    ∷ calls D every (decides CHOOSE 0 0 ∷ []) (0 ∷ 14 ∷ [])
    ∷ shown D every (decides STRIKE 0 0 ∷ []) (0 ∷ 0 ∷ []) (6 ∷ 3 ∷ [])
    -- of two choices in a field neither stays; a choice that is struck does not stay, and stays once the strike is withdrawn
    ∷ calls D every (decides CHOOSE 0 1 ∷ decides CHOOSE 0 2 ∷ []) (0 ∷ 0 ∷ 14 ∷ [])
    ∷ calls D every (decides CHOOSE 1 0 ∷ decides STRIKE 1 0 ∷ []) (0 ∷ 0 ∷ 14 ∷ [])
    ∷ shown D every (decides STRIKE 1 0 ∷ decides WITHDRAW_STRIKE 1 0 ∷ decides CHOOSE 1 0 ∷ []) (0 ∷ 0 ∷ 0 ∷ 0 ∷ []) (6 ∷ 1 ∷ [])
    -- a withdrawal, of a choice (3) or a strike (4), of a field or position that is not on the sheet, and of one that is not in force: none
    -- was made; it was withdrawn; only the other sort is in force, or the same of another field or position
    ∷ calls D every (decides 3 2 0 ∷ decides 4 2 0 ∷ decides 3 0 3 ∷ decides 4 1 3 ∷ []) (0 ∷ 7 ∷ 7 ∷ 7 ∷ 7 ∷ [])
    ∷ calls D every (decides 3 0 1 ∷ decides 4 0 1 ∷ decides STRIKE 0 0 ∷ decides 4 0 0 ∷ decides 4 0 0 ∷ [])
    (0 ∷ 11 ∷ 11 ∷ 0 ∷ 0 ∷ 11 ∷ [])
    ∷ shown D every (decides CHOOSE 0 1 ∷ decides 4 0 1 ∷ decides 3 1 1 ∷ decides 3 0 2 ∷ []) (0 ∷ 0 ∷ 11 ∷ 11 ∷ 11 ∷ []) (2 ∷ 1 ∷ [])
    -- one field, one setting
    ∷ shown single every [] (0 ∷ []) (1 ∷ [])
    -- the problems above, as sheets
    ∷ closes (three 1) (3 ∷ 3 ∷ 3 ∷ []) (3 ∷ 3 ∷ 3 ∷ [])
    ∷ closes (five 1) (3 ∷ 3 ∷ 3 ∷ 3 ∷ 3 ∷ []) (3 ∷ 3 ∷ 3 ∷ 3 ∷ 3 ∷ [])
    ∷ calls (three 1) every [] (14 ∷ [])
    ∷ calls (three 24) every [] (14 ∷ [])
    ∷ shown (five 1) every [] (0 ∷ []) (3 ∷ 3 ∷ 3 ∷ 3 ∷ 3 ∷ [])
    ∷ calls (five 2) every [] (14 ∷ [])
    ∷ calls (three_and_one 1) every [] (14 ∷ [])
    -- 02, request 3: settings and c near 65,536 and near 1,000,000. Kinds 1 and 2, c 1, where sums that wrap at either would offer all;
    -- kind 1, c 1,000,000, where no pair is allowed
    ∷ shown (edges 1 (0x01 ∷ [])) every [] (0 ∷ []) (6 ∷ 3 ∷ [])
    ∷ shown (edges 2 (0x01 ∷ [])) every [] (0 ∷ []) (3 ∷ 3 ∷ [])
    ∷ calls (edges 1 (0xC0 ∷ 0x84 ∷ 0x3D ∷ [])) every [] (14 ∷ [])
    -- kind 3, c 934,465; kind 4, c 1 and c 1,000,000; kind 5, c 999,999
    ∷ shown (edges 3 (0xC1 ∷ 0x84 ∷ 0x39 ∷ [])) every [] (0 ∷ []) (5 ∷ 3 ∷ [])
    ∷ shown (edges 4 (0x01 ∷ [])) every [] (0 ∷ []) (6 ∷ 3 ∷ [])
    ∷ shown (edges 4 (0xC0 ∷ 0x84 ∷ 0x3D ∷ [])) every [] (0 ∷ []) (7 ∷ 3 ∷ [])
    ∷ shown (edges 5 (0xBF ∷ 0x84 ∷ 0x3D ∷ [])) every [] (0 ∷ []) (1 ∷ 2 ∷ [])
    -- c of one more than 1,000,000
    ∷ calls (edges 1 (0xC1 ∷ 0x84 ∷ 0x3D ∷ [])) every [] (3 ∷ [])
    -- 02, request 6: kind 5. c 0, 1 and 2 allow the distances 0 to 2, 3 and 4; c 100 allows 98 and 102; c 1,000,000 allows 999,998 and
    -- 1,000,000
    ∷ shown (encoders (0 ∷ [])) every [] (0 ∷ []) (0x7 ∷ 1 ∷ 0x7 ∷ [])
    ∷ shown (encoders (1 ∷ [])) every [] (0 ∷ []) (0xF ∷ 1 ∷ 0xF ∷ [])
    ∷ shown (encoders (2 ∷ [])) every [] (0 ∷ []) (0x1F ∷ 1 ∷ 0x1F ∷ [])
    ∷ shown (encoders (100 ∷ [])) every [] (0 ∷ []) (0x180 ∷ 1 ∷ 0x180 ∷ [])
    ∷ shown (encoders (0xC0 ∷ 0x84 ∷ 0x3D ∷ [])) every [] (0 ∷ []) (0x1800 ∷ 1 ∷ 0x1800 ∷ [])
    -- 02, request 2: what a passed test leaves in the neighbourhood. Six fields in a ring at reach 1 and 2; two fields and a third with no
    -- rule, which is outside the neighbourhood at reach 1 and in it at reach 24
    ∷ leaves (ring 6) 1 (3 ∷ 3 ∷ 3 ∷ 3 ∷ 3 ∷ 3 ∷ []) 0 0 (1 ∷ 2 ∷ 0 ∷ 0 ∷ 0 ∷ 2 ∷ [])
    ∷ leaves (ring 6) 2 (3 ∷ 3 ∷ 3 ∷ 3 ∷ 3 ∷ 3 ∷ []) 0 0 (1 ∷ 2 ∷ 1 ∷ 0 ∷ 1 ∷ 2 ∷ [])
    ∷ leaves (all_different 2 3) 1 (3 ∷ 3 ∷ 3 ∷ []) 0 0 (1 ∷ 2 ∷ 0 ∷ [])
    ∷ leaves (all_different 2 3) 24 (3 ∷ 3 ∷ 3 ∷ []) 0 0 (1 ∷ 2 ∷ 3 ∷ [])
    -- 02, request 7: selected fields. Closing keeps every setting of this sheet; the test of field 0 leaves it 3 alone, and so does that of
    -- field 1. With field 0 selected there is less than after closing and more than with every field selected
    ∷ closes two_over_two (7 ∷ 7 ∷ 3 ∷ 3 ∷ []) (7 ∷ 7 ∷ 3 ∷ 3 ∷ [])
    ∷ shown two_over_two (these 1) [] (0 ∷ []) (4 ∷ 7 ∷ 3 ∷ 3 ∷ [])
    ∷ shown two_over_two (these 2) [] (0 ∷ []) (7 ∷ 4 ∷ 3 ∷ 3 ∷ [])
    ∷ shown two_over_two (these 12) [] (0 ∷ []) (7 ∷ 7 ∷ 3 ∷ 3 ∷ [])
    ∷ shown two_over_two every [] (0 ∷ []) (4 ∷ 4 ∷ 3 ∷ 3 ∷ [])
    -- what a removal leaves without a partner goes in fields that are not selected too
    ∷ shown three_and_copy (these 1) [] (0 ∷ []) (4 ∷ 3 ∷ 3 ∷ 4 ∷ [])
    ∷ shown three_and_copy (these 6) [] (0 ∷ []) (7 ∷ 3 ∷ 3 ∷ 7 ∷ [])
    -- three fields for which there is no set_up, and a fourth: wiped out where one of the three is selected, and not where the fourth
    -- alone is, at either reach; then a choice in one of the three wipes out by closing
    ∷ consistency (all_different 3 4) 1 1 (3 ∷ 3 ∷ 3 ∷ 3 ∷ []) (3 ∷ 3 ∷ 3 ∷ 3 ∷ []) (0 ∷ 0 ∷ 0 ∷ 3 ∷ []) true
    ∷ consistency (all_different 3 4) 1 8 (3 ∷ 3 ∷ 3 ∷ 3 ∷ []) (3 ∷ 3 ∷ 3 ∷ 3 ∷ []) (3 ∷ 3 ∷ 3 ∷ 3 ∷ []) false
    ∷ consistency (all_different 3 4) 24 8 (3 ∷ 3 ∷ 3 ∷ 3 ∷ []) (3 ∷ 3 ∷ 3 ∷ 3 ∷ []) (3 ∷ 3 ∷ 3 ∷ 3 ∷ []) false
    ∷ calls (three_and_one 1) (these 1) [] (14 ∷ [])
    ∷ calls (three_and_one 1) (these 8) (decides CHOOSE 0 0 ∷ []) (0 ∷ 14 ∷ [])
    -- the mask stays through every call but an accepted open; without one a session has no mask, and 15 comes
    ∷ shown two_over_two (these 1) (decides STRIKE 1 0 ∷ CoilOn ∷ decides STRIKE 1 1 ∷ Back ∷ Open 16 ∷ Show ∷ [])
    (0 ∷ 0 ∷ 0 ∷ 0 ∷ 0 ∷ 18 ∷ 0 ∷ []) (4 ∷ 6 ∷ 3 ∷ 3 ∷ [])
    ∷ shown two_over_two (these 1) (Open 2 ∷ []) (0 ∷ 0 ∷ []) (7 ∷ 4 ∷ 3 ∷ 3 ∷ [])
    ∷ calls two_over_two (these 0) (Show ∷ Open 16 ∷ Open 31 ∷ Show ∷ []) (18 ∷ 15 ∷ 18 ∷ 18 ∷ 15 ∷ [])
    -- 02, request 12: triple rules. Three passes in line: closing alone drops the last setting of the last pass, and a choice narrows the
    -- other two; c 1 lets it stay
    ∷ closes (even_drafts 1 0) (7 ∷ 3 ∷ 7 ∷ []) (7 ∷ 3 ∷ 3 ∷ [])
    ∷ shown (even_drafts 1 0) every (decides CHOOSE 1 1 ∷ []) (0 ∷ 0 ∷ []) (6 ∷ 2 ∷ 3 ∷ [])
    ∷ calls (even_drafts 24 0) every (decides CHOOSE 1 1 ∷ decides CHOOSE 0 0 ∷ []) (0 ∷ 0 ∷ 14 ∷ [])
    ∷ shown (even_drafts 24 1) every (decides CHOOSE 2 2 ∷ []) (0 ∷ 0 ∷ []) (3 ∷ 3 ∷ 4 ∷ [])
    -- at reach 1 field 2 is outside the neighbourhood of field 0. The triple rule counts there: where field 2 has no setting 0, field 0
    -- loses its own. Where field 2 has it, struck, it still supports; a larger reach drops it
    ∷ shown (line_of 1 (2 ∷ 1 ∷ 2 ∷ [])) every [] (0 ∷ []) (6 ∷ 7 ∷ 3 ∷ 7 ∷ [])
    ∷ shown (line_of 1 (3 ∷ 0 ∷ 1 ∷ 2 ∷ [])) every (decides STRIKE 2 0 ∷ []) (0 ∷ 0 ∷ []) (7 ∷ 7 ∷ 6 ∷ 7 ∷ [])
    ∷ shown (line_of 2 (3 ∷ 0 ∷ 1 ∷ 2 ∷ [])) every (decides STRIKE 2 0 ∷ []) (0 ∷ 0 ∷ []) (6 ∷ 7 ∷ 6 ∷ 7 ∷ [])
    ∷ shown (line_of 24 (3 ∷ 0 ∷ 1 ∷ 2 ∷ [])) every (decides STRIKE 2 0 ∷ []) (0 ∷ 0 ∷ []) (6 ∷ 7 ∷ 6 ∷ 7 ∷ [])
    -- the second and third field of a triple rule are neighbours too: four fields {1, 2} at reach 1, the first and third differ, the first
    -- three are in line, and the second is selected
    ∷ calls
    (0x04 ∷ 0x02 ∷ 0x01 ∷ 0x02 ∷ 0x02 ∷ 0x01 ∷ 0x02 ∷ 0x02 ∷ 0x01 ∷ 0x02 ∷ 0x02 ∷ 0x01 ∷ 0x02
    ∷ 0x01 ∷ 0x01 ∷ 0x00 ∷ 0x02 ∷ 0x03 ∷ 0x01 ∷ 0x01 ∷ 0x00 ∷ 0x01 ∷ 0x02 ∷ 0x00 ∷ [])
    (these 2) [] (14 ∷ [])
    -- neighbours by a triple rule alone, and by a walk over two of them
    ∷ calls (equal_three 1) (these 1) [] (14 ∷ [])
    ∷ shown (equal_three 1) (these 8) [] (0 ∷ []) (3 ∷ 3 ∷ 3 ∷ 3 ∷ [])
    ∷ shown (equal_five 1) (these 1) [] (0 ∷ []) (3 ∷ 3 ∷ 3 ∷ 3 ∷ 3 ∷ [])
    ∷ calls (equal_five 2) (these 1) [] (14 ∷ [])
    -- a count of 0 after the rules is 3, and anything after the last triple rule is 5
    ∷ calls (D ++ 0 ∷ []) every [] (3 ∷ [])
    ∷ calls (even_drafts 24 0 ++ 0 ∷ []) every [] (5 ∷ [])
    ∷ []

-- THE THEOREM: every case of the table holds.
pub cases_hold : all_hold table ≡ true
unfolding all_hold
cases_hold = refl
