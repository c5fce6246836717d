-- The numbers of the refusals (01's table, and 02), under the names that they have in code and header. Assumes nothing.
use Rattle.std.specs.Prelude.{Bool, true, false, ℕ, Result, Ok, Err}
use Rattle.limits.specs.declared.refusals.Refusal.{Refusal}
use Rattle.limits.specs.declared.refusals.Refusal.TheVariants.{EndsInside, IllFormed, OutOfRange, OutOfOrder, Surplus, TooShort}
use Rattle.limits.specs.declared.refusals.Refusal.TheVariants.{Unknown, NoOrder, AddedAgain, NotInForce, NoRoom, NothingPast}
use Rattle.limits.specs.declared.refusals.Refusal.TheVariants.{WipedOut, Malformed, NoSelection, Retired}

-- bytes or numbers end inside the sheet
abbrev pub ENDS_INSIDE : ℕ
ENDS_INSIDE = 1

-- a fourth group continues, or a last group is 0 after another group
abbrev pub ILL_FORMED : ℕ
ILL_FORMED = 2

-- a number is outside its range
abbrev pub OUT_OF_RANGE : ℕ
OUT_OF_RANGE = 3

-- settings, rules or triples do not rise, or the fields of a rule or triple do not
abbrev pub OUT_OF_ORDER : ℕ
OUT_OF_ORDER = 4

-- bytes or numbers follow the sheet's end
abbrev pub SURPLUS : ℕ
SURPLUS = 5

-- the offers list, a work space or the output is too short
abbrev pub TOO_SHORT : ℕ
TOO_SHORT = 6

-- the engine is not 1 to 3, or the field or position is not on the sheet
abbrev pub UNKNOWN : ℕ
UNKNOWN = 7

-- no call gives it (02, request 2): in 01 it was engine 2 with a reach below 24
abbrev pub TOO_NARROW : ℕ
TOO_NARROW = 8

-- the order does not hold every field just one time
abbrev pub NO_ORDER : ℕ
NO_ORDER = 9

-- the decision to add is in force
abbrev pub ADDED_AGAIN : ℕ
ADDED_AGAIN = 10

-- the decision to withdraw is not in force
abbrev pub NOT_IN_FORCE : ℕ
NOT_IN_FORCE = 11

-- 64 events and one to add
abbrev pub NO_ROOM : ℕ
NO_ROOM = 12

-- back with no event
abbrev pub NOTHING_PAST : ℕ
NOTHING_PAST = 13

-- wiped out under the decisions that would hold after the call
abbrev pub WIPED_OUT : ℕ
WIPED_OUT = 14

-- the session is malformed
abbrev pub MALFORMED : ℕ
MALFORMED = 15

-- the mask of selected fields that open is given is empty or names a field beyond the sheet (02, request 7)
abbrev pub NO_SELECTION : ℕ
NO_SELECTION = 18

-- the writer met the retired kind (02, request 9)
abbrev pub RETIRED : ℕ
RETIRED = 20

-- the number of a refusal
abbrev pub number : Refusal → ℕ
number EndsInside = ENDS_INSIDE
number IllFormed = ILL_FORMED
number OutOfRange = OUT_OF_RANGE
number OutOfOrder = OUT_OF_ORDER
number Surplus = SURPLUS
number TooShort = TOO_SHORT
number Unknown = UNKNOWN
number NoOrder = NO_ORDER
number AddedAgain = ADDED_AGAIN
number NotInForce = NOT_IN_FORCE
number NoRoom = NO_ROOM
number NothingPast = NOTHING_PAST
number WipedOut = WIPED_OUT
number Malformed = MALFORMED
number NoSelection = NO_SELECTION
number Retired = RETIRED

-- the number of a call: 0 where it is accepted
abbrev pub number_of : {A : Type 0} → Result A Refusal → ℕ
number_of (Ok x) = 0
number_of (Err refusal) = number refusal

-- whether a set was wiped out: a field of it has nothing left
abbrev pub is_wiped : {A E : Type 0} → Result A E → Bool
is_wiped (Ok x) = false
is_wiped (Err e) = true

-- the fields that lost settings, where it was not
abbrev pub fields_in : {E : Type 0} → Result ℕ E → ℕ
fields_in (Ok x) = x
fields_in (Err e) = 0
