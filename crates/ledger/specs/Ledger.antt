-- The plain ledger (01, 'Ledger and calls'; 02, request 7): what it holds, the number that it gives a call, its step, and its offers, which
-- it works out from the sheet and what it holds alone. Assumes nothing.
use Rattle.std.specs.Prelude.{Bool, true, false, not, ◌&&◌, ◌||◌, List, [], ◌∷◌, ◌++◌, ℕ, eqb, ltb, length, get_or}
use Rattle.limits.specs.Limits.{most_events, offers_words, rows_words, memory_words}
use Rattle.limits.specs.Refusals.{TOO_SHORT, UNKNOWN, NO_ORDER, ADDED_AGAIN, NOT_IN_FORCE, NO_ROOM, NOTHING_PAST}
use Rattle.limits.specs.Refusals.{WIPED_OUT, MALFORMED, NO_SELECTION}
use Rattle.masks.specs.Tests.{all_below}
use Rattle.masks.specs.Masks.{keep_bits, some_bit}
use Rattle.masks.specs.Sets.{has}
use Rattle.masks.specs.Pick.{pick}
use Rattle.consistency.specs.Neighbourhood.{neighbourhood}
use Rattle.consistency.specs.Offers.{offers, wiped_out}
use Rattle.sheet.specs.Sources.{refusal, numbers, of_bytes}
use Rattle.accepted.specs.declared.outline.Outline.{Outline}
use Rattle.accepted.specs.Lists.{tabulate}
use Rattle.accepted.specs.Parts.{reach_of}
use Rattle.accepted.specs.Outline.{outline_of}
use Rattle.network.specs.SheetProblem.{sheet_problem}
use Rattle.ledger.specs.Occurrences.{occurrences}
use Rattle.ledger.specs.declared.Event.{Event}
use Rattle.ledger.specs.declared.Decision.{Decision}
use Rattle.ledger.specs.declared.Decision.TheVariants.{Choice, Strike}
use Rattle.ledger.specs.declared.Change.{Change}
use Rattle.ledger.specs.declared.Change.TheVariants.{Adds, Withdraws, Neither}
use Rattle.ledger.specs.declared.Call.{Call}
use Rattle.ledger.specs.declared.Call.TheVariants.{Open, Show, Decide, Back, CoilOn}

-- ---- events: what they do to the decisions

-- the kinds of events: choose 1, strike 2, withdraw choice 3, withdraw strike 4
abbrev pub CHOOSE : ℕ
CHOOSE = 1

abbrev pub STRIKE : ℕ
STRIKE = 2

abbrev pub WITHDRAW_CHOICE : ℕ
WITHDRAW_CHOICE = 3

abbrev pub WITHDRAW_STRIKE : ℕ
WITHDRAW_STRIKE = 4

-- An event of none of the four kinds does nothing; no step of the ledger adds one, but a forged session may hold one.
unfoldable pub change_by : (kind f v : ℕ) → Change
change_by kind f v =
    pick (eqb kind CHOOSE) (Adds (Choice f v))
    (pick (eqb kind STRIKE) (Adds (Strike f v))
    (pick (eqb kind WITHDRAW_CHOICE) (Withdraws (Choice f v))
    (pick (eqb kind WITHDRAW_STRIKE) (Withdraws (Strike f v))
    Neither)))

abbrev pub change_of : Event → Change
change_of e = change_by e.kind e.field e.position

-- the call that changes the decisions by an event of a kind: choose, strike or a withdrawal
abbrev pub decides : (kind field position : ℕ) → Call
decides kind field position = Decide (record { kind = kind; field = field; position = position })

-- ---- what the ledger holds

-- The decisions in force, of which it matters only which they are, the past events, the latest first, and the mask of the selected fields.
pub record Ledger : Type 0 where
  pub decisions : List Decision
  pub events : List Event
  pub selected : ℕ

unfoldable pub same_decision : Decision → Decision → Bool
same_decision (Choice f v) (Choice g u) = eqb f g && eqb v u
same_decision (Choice f v) (Strike g u) = false
same_decision (Strike f v) (Choice g u) = false
same_decision (Strike f v) (Strike g u) = eqb f g && eqb v u

unfoldable pub in_force : List Decision → Decision → Bool
in_force [] d = false
in_force (e ∷ ds) d = same_decision e d || in_force ds d

abbrev pub with : Decision → List Decision → List Decision
with d ds = d ∷ ds

unfoldable pub without : Decision → List Decision → List Decision
without d [] = []
without d (e ∷ ds) = pick (same_decision e d) (without d ds) (e ∷ without d ds)

-- ---- its steps

-- the decisions after a change
abbrev pub applied : Change → List Decision → List Decision
applied (Adds d) ds = with d ds
applied (Withdraws d) ds = without d ds
applied Neither ds = ds

-- and before it: an added decision goes, a withdrawn one returns
abbrev pub reverted : Change → List Decision → List Decision
reverted (Adds d) ds = without d ds
reverted (Withdraws d) ds = with d ds
reverted Neither ds = ds

-- no decisions, no events, and a mask of selected fields
abbrev pub opened : ℕ → Ledger
opened selected = record { decisions = []; events = []; selected = selected }

-- the latest event dropped and reversed
unfoldable pub backed : List Event → List Decision → ℕ → Ledger
backed [] ds selected = record { decisions = ds; events = []; selected = selected }
backed (e ∷ es) ds selected = record { decisions = reverted (change_of e) ds; events = es; selected = selected }

-- The ledger after a call that is accepted. Open sets the mask; every other call leaves it.
unfoldable pub step : Call → Ledger → Ledger
step (Open selected) l = opened selected
step Show l = l
step (Decide e) l = record { decisions = applied (change_of e) l.decisions; events = e ∷ l.events; selected = l.selected }
step Back l = backed l.events l.decisions l.selected
step CoilOn l = record { decisions = l.decisions; events = []; selected = l.selected }

-- ---- its offers. xs are the numbers of the sheet, o is its outline.

-- the mask of every position of field f
abbrev pub settings : Outline → ℕ → ℕ
settings o f = get_or o.full f 0

-- a position of field f other than v is chosen
unfoldable pub other_chosen : Outline → List Decision → ℕ → ℕ → Bool
other_chosen o ds f v = some_bit (settings o f) (λ u. in_force ds (Choice f u) && not (eqb u v))

-- Position v of field f stays in the start set where it is not struck and no other one is chosen: with no choice every position that is not
-- struck, with one choice only the chosen one if not struck, with two or more none.
unfoldable pub starts : Outline → List Decision → ℕ → ℕ → Bool
starts o ds f v = not (in_force ds (Strike f v)) && not (other_chosen o ds f v)

-- for each field a mask
unfoldable pub start_set : Outline → List Decision → List ℕ
start_set o ds = tabulate o.fields (λ f. keep_bits (settings o f) (starts o ds f))

-- at the sheet's reach, under the mask that the ledger holds
unfoldable pub offers_of : List ℕ → Ledger → List ℕ
offers_of xs l =
    let P = sheet_problem xs in
    offers P (neighbourhood P (reach_of xs)) l.selected (start_set (outline_of xs) l.decisions)

unfoldable pub wiped : List ℕ → Ledger → Bool
wiped xs l =
    let P = sheet_problem xs in
    wiped_out P (neighbourhood P (reach_of xs)) l.selected (start_set (outline_of xs) l.decisions)

-- ---- causes of a refusal

-- whether it applies, and its number
pub record Cause : Type 0 where
  pub applies : Bool
  pub number : ℕ

abbrev pub because : Bool → ℕ → Cause
because t k = record { applies = t; number = k }

-- the number of the first cause that applies; 0 where none does
unfoldable pub first : List Cause → ℕ
first [] = 0
first (c ∷ cs) = pick c.applies c.number (first cs)

-- what a call is given beside the session: the sheet's bytes, an engine, an order, and how many words the offers list and the work
-- spaces have
pub record Given : Type 0 where
  pub sheet : List ℕ
  pub engine : ℕ
  pub order : List ℕ
  pub offers : ℕ
  pub rows : ℕ
  pub memory : ℕ

-- ---- the spaces: 6

unfoldable pub space_short : Given → Bool
space_short g = ltb g.offers offers_words || (ltb g.rows rows_words || ltb g.memory memory_words)

abbrev pub space_causes : Given → List Cause
space_causes g = because (space_short g) TOO_SHORT ∷ []

-- ---- the sheet: 1 to 5

abbrev pub sheet_causes : List ℕ → List Cause
sheet_causes sheet = because (not (eqb (refusal (of_bytes sheet)) 0)) (refusal (of_bytes sheet)) ∷ []

-- ---- the mask of selected fields that open is given: 18

-- it is empty, or names a field beyond the sheet
unfoldable pub no_selection : Outline → ℕ → Bool
no_selection o selected = eqb selected 0 || some_bit selected (λ f. not (ltb f o.fields))

abbrev pub selection_causes : Outline → ℕ → List Cause
selection_causes o selected = because (no_selection o selected) NO_SELECTION ∷ []

-- ---- the session: 15, and at open 18 in its place

unfoldable pub on_sheet : Outline → Decision → Bool
on_sheet o (Choice f v) = has o.full f v
on_sheet o (Strike f v) = has o.full f v

unfoldable pub all_on_sheet : Outline → List Decision → Bool
all_on_sheet o [] = true
all_on_sheet o (d ∷ ds) = on_sheet o d && all_on_sheet o ds

-- a change that can be reversed: of a decision on the sheet, and an addition is in force, a withdrawal is not
abbrev pub revertible : Outline → Change → List Decision → Bool
revertible o (Adds d) ds = on_sheet o d && in_force ds d
revertible o (Withdraws d) ds = on_sheet o d && not (in_force ds d)
revertible o Neither ds = false

-- the events can be reversed from the latest on
unfoldable pub reversible : Outline → List Event → List Decision → Bool
reversible o [] ds = true
reversible o (e ∷ es) ds = revertible o (change_of e) ds && reversible o es (reverted (change_of e) ds)

-- a decision is not on the sheet, there are too many events, they cannot be reversed, or open would refuse the mask
unfoldable pub malformed : Outline → Ledger → Bool
malformed o l =
    not (all_on_sheet o l.decisions)
    || (ltb most_events (length l.events) || (not (reversible o l.events l.decisions) || no_selection o l.selected))

abbrev pub form_causes : Outline → Ledger → List Cause
form_causes o l = because (malformed o l) MALFORMED ∷ []

abbrev pub session_causes : Outline → Call → Ledger → List Cause
session_causes o (Open selected) l = selection_causes o selected
session_causes o Show l = form_causes o l
session_causes o (Decide e) l = form_causes o l
session_causes o Back l = form_causes o l
session_causes o CoilOn l = form_causes o l

-- ---- the engine: 7

unfoldable pub no_engine : ℕ → Bool
no_engine engine = eqb engine 0 || ltb 3 engine

abbrev pub engine_causes : ℕ → List Cause
engine_causes engine = because (no_engine engine) UNKNOWN ∷ []

-- ---- the decision that a call names: 7, also where its kind is none of the four

abbrev pub off_sheet : Outline → Change → Bool
off_sheet o (Adds d) = not (on_sheet o d)
off_sheet o (Withdraws d) = not (on_sheet o d)
off_sheet o Neither = true

abbrev pub setting_causes : Outline → Event → List Cause
setting_causes o e = because (off_sheet o (change_of e)) UNKNOWN ∷ []

abbrev pub place_causes : Outline → Call → List Cause
place_causes o (Open selected) = []
place_causes o Show = []
place_causes o (Decide e) = setting_causes o e
place_causes o Back = []
place_causes o CoilOn = []

-- ---- the order: 9

-- a list of n bytes holding every field position just one time
unfoldable pub is_order : ℕ → List ℕ → Bool
is_order n order = eqb (length order) n && all_below n (λ f. eqb (occurrences f order) 1)

abbrev pub order_causes : Outline → List ℕ → List Cause
order_causes o order = because (not (is_order o.fields order)) NO_ORDER ∷ []

-- ---- the step: 10, 11 and 12 for a call that changes the decisions, 13 for back

abbrev pub added_again : Change → List Decision → Bool
added_again (Adds d) ds = in_force ds d
added_again (Withdraws d) ds = false
added_again Neither ds = false

abbrev pub withdrawn_unheld : Change → List Decision → Bool
withdrawn_unheld (Adds d) ds = false
withdrawn_unheld (Withdraws d) ds = not (in_force ds d)
withdrawn_unheld Neither ds = false

abbrev pub change_causes : Event → Ledger → List Cause
change_causes e l =
    because (added_again (change_of e) l.decisions) ADDED_AGAIN
    ∷ because (withdrawn_unheld (change_of e) l.decisions) NOT_IN_FORCE
    ∷ because (eqb (length l.events) most_events) NO_ROOM
    ∷ []

abbrev pub step_causes : Call → Ledger → List Cause
step_causes (Open selected) l = []
step_causes Show l = []
step_causes (Decide e) l = change_causes e l
step_causes Back l = because (eqb (length l.events) 0) NOTHING_PAST ∷ []
step_causes CoilOn l = []

-- ---- the offers: 14

abbrev pub offers_causes : List ℕ → Ledger → List Cause
offers_causes xs l = because (wiped xs l) WIPED_OUT ∷ []

-- ---- all of them, in the order of 01 and 02

-- 15 (at open 18), 7, 9, 10, 11, 13, 12, for an accepted sheet
unfoldable pub judged : Outline → Call → ℕ → List ℕ → Ledger → List Cause
judged o c engine order l =
    session_causes o c l ++ (engine_causes engine ++ (place_causes o c ++ (order_causes o order ++ step_causes c l)))

-- 6; 1 to 5; these; 14
unfoldable pub causes : Given → Call → Ledger → List Cause
causes g c l =
    let xs = numbers (of_bytes g.sheet) in
    space_causes g ++ (sheet_causes g.sheet ++ (judged (outline_of xs) c g.engine g.order l ++ offers_causes xs (step c l)))

-- The number of a call.
unfoldable pub number : Given → Call → Ledger → ℕ
number g c l = first (causes g c l)

-- The ledger after a call, accepted or refused.
unfoldable pub after : Given → Call → Ledger → Ledger
after g c l = pick (eqb (number g c l) 0) (step c l) l
