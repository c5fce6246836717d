-- A source of numbers, bytes or a list: 0 where it is a sheet, and else the number of its refusal; and what reading and writing give.
-- Assumes nothing.
use Rattle.std.specs.Prelude.{◌≡◌, Bool, false, ◌||◌, List, [], ◌∷◌, ◌++◌, map, ℕ, zero, suc, ◌-◌, ltb, leb, eqb, length, drop}
use Rattle.std.specs.Prelude.{Result, Ok, Err}
use Rattle.masks.specs.Pick.{pick}
use Rattle.groups.specs.Groups.{number_at, encode}
use Rattle.groups.specs.declared.groups.Number.{Number}
use Rattle.limits.specs.Limits.{retired_kind}
use Rattle.limits.specs.Refusals.{ENDS_INSIDE, ILL_FORMED, SURPLUS, TOO_SHORT, RETIRED, number, number_of}
use Rattle.limits.specs.declared.refusals.Refusal.{Refusal}
use Rattle.limits.specs.declared.refusals.Refusal.TheVariants.{EndsInside}
use Rattle.grammar.specs.Grammar.{advance, start, no_counts, at_end}
use Rattle.grammar.specs.declared.grammar.Expected.{Expected}
use Rattle.grammar.specs.declared.grammar.Expected.TheVariants.{Fields, Count, Setting, Reach, Rules, First, Second, Kind, Mask, Amount}
use Rattle.grammar.specs.declared.grammar.Expected.TheVariants.{Triples, TripleFirst, TripleSecond, TripleThird, TripleAmount}
use Rattle.grammar.specs.declared.grammar.State.{State}
use Rattle.grammar.specs.declared.grammar.State.TheVariants.{Wants, Complete}
use Rattle.sheet.specs.declared.answer.Answer.{Answer}

-- What a source has: a number, bytes that end inside a number, or groups that are no number.
pub data Item : Type 0 where
  num : ℕ → Item
  cut : Item
  ill : Item

-- An item that follows: judged where a number is expected, and SURPLUS after the last triple.
abbrev pub meets : State → (ℕ → Expected → ℕ) → ℕ
meets (Wants n e) judged = judged n e
meets Complete judged = SURPLUS

-- What a number leads to: a state, from which there is more to come, or a refusal, which ends.
abbrev pub led : {A : Type 0} → Result State Refusal → (State → A) → (Refusal → A) → A
led (Ok st) more ends = more st
led (Err r) more ends = ends r

-- Item after item from a state on, with the counts ds of the fields so far: the first faulty one decides.
unfoldable pub refusal_from : State → List ℕ → List Item → ℕ
refusal_from st ds [] = number_of (at_end st)
refusal_from st ds (num x ∷ is) = meets st (λ n e. led (advance n e ds x).0 (λ t. refusal_from t (advance n e ds x).1 is) number)
refusal_from st ds (cut ∷ is) = meets st (λ n e. ENDS_INSIDE)
refusal_from st ds (ill ∷ is) = meets st (λ n e. ILL_FORMED)

-- so after a number
abbrev pub refusal_after : Result State Refusal → List ℕ → List Item → ℕ
refusal_after r ds is = led r (λ t. refusal_from t ds is) number

-- the number of a source's refusal, from its beginning on: 0 where it is a sheet
abbrev pub refusal : List Item → ℕ
refusal is = refusal_from start no_counts is

-- the numbers of a source, up to what is none
unfoldable pub numbers : List Item → List ℕ
numbers [] = []
numbers (num x ∷ is) = x ∷ numbers is
numbers (cut ∷ is) = []
numbers (ill ∷ is) = []

-- why no number stands at a place of bytes: they end inside it, or their groups are none
abbrev pub fault : Refusal → Item
fault EndsInside = cut
fault r = ill

-- the item that stands at a place, and those after a number
abbrev pub items_by : Result Number Refusal → (ℕ → List Item) → List Item
items_by (Ok n) rest = num n.value ∷ rest n.next
items_by (Err r) rest = fault r ∷ []

-- the items of the bytes s from a place on, of which there are no more than `most`
unfoldable pub items : (most : ℕ) → List ℕ → ℕ → List Item
items zero s at = []
items (suc most) s at = pick (ltb at (length s)) (items_by (number_at s at) (items most s)) []

abbrev pub items_from : List ℕ → ℕ → List Item
items_from s at = items (length s - at) s at

-- Bytes and lists of numbers as sources.
abbrev pub of_bytes : List ℕ → List Item
of_bytes s = items_from s 0

abbrev pub of_numbers : List ℕ → List Item
of_numbers xs = map num xs

-- A list of numbers, and bytes, that are a sheet.
abbrev pub Accepted : List ℕ → Type 0
Accepted xs = refusal (of_numbers xs) ≡ 0

abbrev pub AcceptedBytes : List ℕ → Type 0
AcceptedBytes s = refusal (of_bytes s) ≡ 0

-- numbers in bytes
unfoldable pub bytes_of : List ℕ → List ℕ
bytes_of [] = []
bytes_of (x ∷ xs) = encode x ++ bytes_of xs

-- ---- the writer's own refusal: a kind is read that is no longer written (02, request 9)

-- x is the retired kind, where a kind is expected
abbrev pub is_retired : Expected → ℕ → Bool
is_retired Fields x = false
is_retired (Count f) x = false
is_retired (Setting f more floor) x = false
is_retired Reach x = false
is_retired Rules x = false
is_retired (First rules floor) x = false
is_retired (Second rules floor i) x = false
is_retired (Kind rules i j) x = eqb x retired_kind
is_retired (Mask rules floor j more) x = false
is_retired (Amount rules floor) x = false
is_retired Triples x = false
is_retired (TripleFirst triples floor) x = false
is_retired (TripleSecond triples floor i) x = false
is_retired (TripleThird triples floor i j) x = false
is_retired (TripleAmount triples floor) x = false

-- Number after number from a state on: whether the retired kind is met before a fault of the grammar.
unfoldable pub retired_from : State → List ℕ → List ℕ → Bool
retired_from st ds [] = false
retired_from (Wants n e) ds (x ∷ xs) =
    is_retired e x || led (advance n e ds x).0 (λ t. retired_from t (advance n e ds x).1 xs) (λ r. false)
retired_from Complete ds (x ∷ xs) = false

-- so after a number
abbrev pub retired_after : Result State Refusal → List ℕ → List ℕ → Bool
retired_after r ds xs = led r (λ t. retired_from t ds xs) (λ r. false)

-- so from the beginning of a list on
abbrev pub retired : List ℕ → Bool
retired xs = retired_from start no_counts xs

-- The number of a list's refusal by the writer, 0 where it is written. The retired kind, met before a fault of the grammar, is the first
-- fault; it is in the range of the kinds, so that no 3 for that number comes before it. Where it is not met, the grammar decides.
abbrev pub writer_refusal : List ℕ → ℕ
writer_refusal xs = pick (retired xs) RETIRED (refusal (of_numbers xs))

-- A list of numbers that is written, where there is room.
abbrev pub Writable : List ℕ → Type 0
Writable xs = writer_refusal xs ≡ 0

-- ---- what a call gives

-- a number, and a length that is 0 for a refusal
abbrev pub answered : ℕ → ℕ → Answer
answered number size = record { number = number; length = pick (eqb number 0) size 0 }

-- so of a length, or of a refusal
abbrev pub answer_of : Result ℕ Refusal → Answer
answer_of (Ok size) = answered 0 size
answer_of (Err r) = answered (number r) 0

-- a source checked, with the length of what it would give
abbrev pub checked : List Item → List ℕ → Answer
checked is values = answered (refusal is) (length values)

-- a list checked for the writer
abbrev pub checked_list : List ℕ → Answer
checked_list xs = answered (writer_refusal xs) (length (bytes_of xs))

-- An answer, and what the output holds after the call.
pub record Produced : Type 0 where
  pub answer : Answer
  pub output : List ℕ

-- a refusal leaves the output as it was
abbrev pub refusing : ℕ → List ℕ → Produced
refusing number before = record { answer = answered number 0; output = before }

-- the values in front; places past them are untouched
abbrev pub giving : List ℕ → List ℕ → Produced
giving values before = record { answer = answered 0 (length values); output = values ++ drop (length values) before }

-- checks 1 to 5, and the writer's 20, come first, and 6 last
abbrev pub produced : (number : ℕ) (values before : List ℕ) → Produced
produced number values before =
    pick (eqb number 0)
    (pick (leb (length values) (length before)) (giving values before) (refusing TOO_SHORT before))
    (refusing number before)

-- Reading the bytes s to a list of numbers, over the output `before`.
abbrev pub reading : List ℕ → List ℕ → Produced
reading s before = produced (refusal (of_bytes s)) (numbers (of_bytes s)) before

-- Writing the numbers xs as bytes.
abbrev pub writing : List ℕ → List ℕ → Produced
writing xs before = produced (writer_refusal xs) (bytes_of xs) before

-- A call's answer and its output afterwards are those that are produced.
pub record Gives (o : Produced) (answer : Answer) (after : List ℕ) : Type 0 where
  pub answers : answer ≡ o.answer
  pub outputs : after ≡ o.output
