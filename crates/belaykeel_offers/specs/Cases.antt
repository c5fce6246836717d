-- The pages of three inputs, computed from the definitions: bytes in, bytes out. Assumes nothing.
use Rattle.std.specs.Prelude.{◌≡◌, refl, List, [], ◌∷◌, ℕ}
use Rattle.masks.specs.Tests.{all_below, some_below}
use Rattle.masks.specs.Bits.{bit}
use Rattle.masks.specs.Masks.{mask_of, keep_in, keep_bits, some_in, some_bit, count_in, count_bits}
use Rattle.masks.specs.Sets.{has, only, count, same, pad}
use Rattle.masks.specs.Settings.{cut, empty, some_empty}
use Rattle.masks.specs.Pick.{pick}
use Rattle.consistency.specs.Largest.{sweep, sweeps, largest}
use Rattle.consistency.specs.Problem.{list_triples, all_fields, linked}
use Rattle.consistency.specs.Closing.{partner, supported_by, supported, closing}
use Rattle.consistency.specs.Neighbourhood.{widen, fields_within, neighbourhood}
use Rattle.consistency.specs.Passing.{none_empty, passes_over}
use Rattle.consistency.specs.Offers.{is_selected, stays, offers, wiped_out}
use Rattle.groups.specs.Groups.{groups, number_at}
use Rattle.grammar.specs.Grammar.{advance}
use Rattle.sheet.specs.Sources.{refusal_from, numbers, items}
use Rattle.accepted.specs.Lists.{tabulate}
use Rattle.accepted.specs.Parts.{field_start, rule_start}
use Rattle.accepted.specs.Outline.{outline_of}
use Rattle.accepted.specs.Cases.{D}
use Rattle.network.specs.SheetProblem.{runs, pairs, sheet_problem}
use Rattle.ledger.specs.Occurrences.{occurrences}
use Rattle.ledger.specs.Ledger.{same_decision, in_force, step, other_chosen, starts, start_set, offers_of, wiped, space_short, no_selection}
use Rattle.ledger.specs.Ledger.{no_engine, is_order, first, judged, causes, number}
use Rattle.session.specs.View.{list_in, listed, decisions_of, past, view}
use Rattle.answering.specs.Answer.{result}
use Rattle.printing.specs.Text.{digits, decimal, offered, blank_each, line, lines, refused_line, text}
use Rattle.printing.specs.Cases.{text_of_d, text_of14}
use Rattle.belaykeel_offers.specs.Page.{page_of}

-- It opens all that a page is computed with, so a theorem says `unfolding computed` and no more.
unfoldable computed : List ℕ → List ℕ
unfolding page_of text lines line blank_each offered decimal digits refused_line result view past decisions_of listed list_in
    number causes judged first is_order no_engine space_short wiped offers_of start_set starts other_chosen step in_force same_decision
    occurrences sheet_problem pairs runs outline_of rule_start field_start tabulate items numbers refusal_from advance number_at groups
    no_selection wiped_out offers stays is_selected passes_over none_empty neighbourhood fields_within widen closing supported supported_by
    partner all_fields largest sweeps sweep pick some_empty empty cut pad same count only has count_bits count_in some_bit some_in keep_bits
    keep_in mask_of bit some_below all_below list_triples linked
computed s = page_of s

-- sheet D
pub page-D : page_of D ≡ text_of_d
unfolding computed
page-D = refl

-- three fields {1, 2} that all differ, at reach 1: "refused 14"
pub page_14 : page_of (3 ∷ 2 ∷ 1 ∷ 2 ∷ 2 ∷ 1 ∷ 2 ∷ 2 ∷ 1 ∷ 2 ∷ 1 ∷ 3 ∷ 0 ∷ 1 ∷ 3 ∷ 1 ∷ 0 ∷ 2 ∷ 3 ∷ 1 ∷ 1 ∷ 2 ∷ 3 ∷ 1 ∷ []) ≡ text_of14
unfolding computed
page_14 = refl

-- no bytes: "refused 1"
pub page-none : page_of [] ≡ 114 ∷ 101 ∷ 102 ∷ 117 ∷ 115 ∷ 101 ∷ 100 ∷ 32 ∷ 49 ∷ 10 ∷ []
unfolding computed
page-none = refl
