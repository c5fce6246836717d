-- Worked cases of the sheet, computed from the definitions. Assumes nothing.
use Rattle.std.specs.Prelude.{◌≡◌, refl, Bool, true, false, List, [], ◌∷◌, ◌++◌, map, ℕ, ◌+◌}
use Rattle.masks.specs.Pick.{pick}
use Rattle.groups.specs.Groups.{groups, number_at, encode, encode_in}
use Rattle.grammar.specs.Grammar.{advance}
use Rattle.sheet.specs.Sources.{refusal_from, refusal, numbers, items, of_bytes, of_numbers, bytes_of, retired_from, writer_refusal}
use Rattle.accepted.specs.Lists.{tabulate}
use Rattle.accepted.specs.Kinds.{allows, even_draft}

-- sheet D, in bytes and in numbers
abbrev pub D : List ℕ
D = 0x02 ∷ 0x03 ∷ 0x64 ∷ 0xC8 ∷ 0x01 ∷ 0xAC ∷ 0x02 ∷ 0x03 ∷ 0x64 ∷ 0xC8 ∷ 0x01 ∷ 0xAC ∷ 0x02 ∷ 0x18 ∷ 0x01 ∷ 0x00 ∷ 0x01 ∷ 0x01 ∷ 0x64 ∷ []

abbrev pub numbers_of_d : List ℕ
numbers_of_d = 2 ∷ 3 ∷ 100 ∷ 200 ∷ 300 ∷ 3 ∷ 100 ∷ 200 ∷ 300 ∷ 24 ∷ 1 ∷ 0 ∷ 1 ∷ 1 ∷ 100 ∷ []

pub sheet-D : (refusal (of_bytes D) ≡ 0) × (numbers (of_bytes D) ≡ numbers_of_d) × (refusal (of_numbers numbers_of_d) ≡ 0)
    × (bytes_of numbers_of_d ≡ D) × (writer_refusal numbers_of_d ≡ 0)
unfolding refusal_from retired_from numbers items number_at groups pick advance bytes_of encode encode_in
sheet-D = (refl, refl, refl, refl, refl)

-- what the groups of a number refuse
pub refused-groups : (refusal (of_bytes (0x80 ∷ 0x00 ∷ [])) ≡ 2) × (refusal (of_bytes (0x80 ∷ 0x80 ∷ 0x80 ∷ 0x80 ∷ [])) ≡ 2)
    × (refusal (of_bytes (0x80 ∷ 0x80 ∷ 0x80 ∷ [])) ≡ 1) × (refusal (of_bytes []) ≡ 1)
unfolding refusal_from items number_at groups pick advance
refused-groups = (refl, refl, refl, refl)

-- 25 fields; a setting twice; i = j; a 0 after the rules, which is no count of triples
pub refused-numbers : (refusal (of_numbers (25 ∷ [])) ≡ 3) × (refusal (of_numbers (1 ∷ 2 ∷ 5 ∷ 5 ∷ [])) ≡ 4)
    × (refusal (of_numbers (2 ∷ 1 ∷ 5 ∷ 1 ∷ 5 ∷ 1 ∷ 1 ∷ 1 ∷ 1 ∷ [])) ≡ 4) × (refusal (of_numbers (1 ∷ 1 ∷ 5 ∷ 24 ∷ 0 ∷ 0 ∷ [])) ≡ 3)
unfolding refusal_from pick advance
refused-numbers = (refl, refl, refl, refl)

-- the refusals of lists that differ in one number
abbrev each_refusal : (ℕ → List ℕ) → List ℕ → List ℕ
each_refusal list = map (λ (x : ℕ). refusal (of_numbers (list x)))

-- both ends of each range, spelled: fields, settings of a field, reach, rules. What is in its range is not refused before the list ends
pub ends_of_ranges : (each_refusal (λ x. x ∷ []) (0 ∷ 1 ∷ 24 ∷ 25 ∷ []) ≡ 3 ∷ 1 ∷ 1 ∷ 3 ∷ [])
    × (each_refusal (λ x. 1 ∷ x ∷ []) (0 ∷ 1 ∷ 24 ∷ 25 ∷ []) ≡ 3 ∷ 1 ∷ 1 ∷ 3 ∷ [])
    × (each_refusal (λ x. 1 ∷ 1 ∷ 5 ∷ x ∷ []) (0 ∷ 1 ∷ 24 ∷ 25 ∷ []) ≡ 3 ∷ 1 ∷ 1 ∷ 3 ∷ [])
    × (each_refusal (λ x. 2 ∷ 1 ∷ 5 ∷ 1 ∷ 5 ∷ 24 ∷ x ∷ []) (0 ∷ 1 ∷ 276 ∷ 277 ∷ []) ≡ 0 ∷ 1 ∷ 1 ∷ 3 ∷ [])
unfolding refusal_from pick advance
ends_of_ranges = (refl, refl, refl, refl)

-- ---- the largest setting and the largest c (02, request 3)

-- One field with the setting x, and two fields with a rule of a kind with c. Their other numbers have one group, so that this is a list of
-- numbers where x and c are numbers, and bytes where they are groups.
abbrev with_setting : List ℕ → List ℕ
with_setting x = 1 ∷ 1 ∷ (x ++ 24 ∷ 0 ∷ [])

abbrev with_amount : ℕ → List ℕ → List ℕ
with_amount kind c = 2 ∷ 1 ∷ 0 ∷ 1 ∷ 0 ∷ 24 ∷ 1 ∷ 0 ∷ 1 ∷ kind ∷ c

-- the refusals of a number as a setting, and as the c of the kinds 1 to 5
abbrev refusals : (List ℕ → ℕ) → List ℕ → List ℕ
refusals refused x =
    refused (with_setting x) ∷ refused (with_amount 1 x) ∷ refused (with_amount 2 x)
    ∷ refused (with_amount 3 x) ∷ refused (with_amount 4 x) ∷ refused (with_amount 5 x) ∷ []

-- the refusal of bytes
abbrev unread : List ℕ → ℕ
unread s = refusal (of_bytes s)

-- 1,000,000 is written and read, 1,000,001 is not; kind 2 is not written
pub largest-setting : (refusals writer_refusal (1000000 ∷ []) ≡ 0 ∷ 0 ∷ 20 ∷ 0 ∷ 0 ∷ 0 ∷ [])
    × (refusals writer_refusal (1000001 ∷ []) ≡ 3 ∷ 3 ∷ 20 ∷ 3 ∷ 3 ∷ 3 ∷ [])
    × (refusals unread (0xC0 ∷ 0x84 ∷ 0x3D ∷ []) ≡ 0 ∷ 0 ∷ 0 ∷ 0 ∷ 0 ∷ 0 ∷ [])
    × (refusals unread (0xC1 ∷ 0x84 ∷ 0x3D ∷ []) ≡ 3 ∷ 3 ∷ 3 ∷ 3 ∷ 3 ∷ 3 ∷ [])
unfolding refusal_from retired_from items number_at groups pick advance
largest-setting = (refl, refl, refl, refl)

-- ---- what the kinds allow near 65,536 and near 1,000,000

-- whether a rule of a kind, not 0, allows the settings p and q: their positions do not matter
abbrev pair : (kind c p q : ℕ) → Bool
pair kind c p q = allows kind c p q 0

-- q + c and p + c do not wrap: neither at 65,536 nor at 1,000,000
pub sums_whole : (pair 1 1 65536 65535 ≡ true) × (pair 1 1 0 65535 ≡ false) × (pair 1 1000000 1000000 0 ≡ true)
    × (pair 1 1000000 1000000 1 ≡ false) × (pair 1 1000000 1000000 1000000 ≡ false)
    × (pair 2 1 65535 65536 ≡ true) × (pair 2 1 65535 0 ≡ false) × (pair 2 1000000 0 1000000 ≡ true)
    × (pair 2 1000000 1 1000000 ≡ false) × (pair 2 1000000 1000000 1000000 ≡ false)
unfolding pick
sums_whole = (refl, refl, refl, refl, refl, refl, refl, refl, refl, refl)

-- so for the distance
pub distances-whole : (pair 3 65536 65536 0 ≡ true) × (pair 3 65536 0 65535 ≡ false)
    × (pair 3 1000000 0 1000000 ≡ true) × (pair 3 1000000 1000000 1 ≡ false)
    × (pair 4 65535 0 65535 ≡ true) × (pair 4 65535 65536 0 ≡ false)
    × (pair 4 999999 1 1000000 ≡ true) × (pair 4 999999 1000000 0 ≡ false)
    × (pair 5 65536 0 65536 ≡ true) × (pair 5 0 65536 0 ≡ false)
    × (pair 5 1000000 1000000 0 ≡ true) × (pair 5 1000000 0 999997 ≡ false)
unfolding pick
distances-whole = (refl, refl, refl, refl, refl, refl, refl, refl, refl, refl, refl, refl)

-- ---- equal within the encoder (02, request 6)

-- For n distances from d on, 1 where kind 5 with c allows a pair that far apart, and 0 where it does not: the larger setting is that of i,
-- then that of j.
abbrev equals : (c d n : ℕ) → List ℕ × List ℕ
equals c d n = (tabulate n (λ k. pick (pair 5 c (d + k) 0) 1 0), tabulate n (λ k. pick (pair 5 c 0 (d + k)) 1 0))

-- the same for both
abbrev twice : List ℕ → List ℕ × List ℕ
twice xs = (xs, xs)

-- c 100 allows 98 to 102, and neither 97 nor 103; c 0 allows 0 to 2, c 1 allows 0 to 3, c 2 allows 0 to 4; c 1,000,000 allows the largest
-- distance and two less, but not three less
pub equal_within_encoder : (equals 100 97 7 ≡ twice (0 ∷ 1 ∷ 1 ∷ 1 ∷ 1 ∷ 1 ∷ 0 ∷ []))
    × (equals 0 0 4 ≡ twice (1 ∷ 1 ∷ 1 ∷ 0 ∷ []))
    × (equals 1 0 5 ≡ twice (1 ∷ 1 ∷ 1 ∷ 1 ∷ 0 ∷ []))
    × (equals 2 0 6 ≡ twice (1 ∷ 1 ∷ 1 ∷ 1 ∷ 1 ∷ 0 ∷ []))
    × (equals 1000000 999997 4 ≡ twice (0 ∷ 1 ∷ 1 ∷ 1 ∷ []))
unfolding pick tabulate
equal_within_encoder = (refl, refl, refl, refl, refl)

-- ---- the retired kind (02, request 9)

-- kind 2 is read; it is not written, also where the list ends after it, goes on with a c out of range, or with a 0
pub retired-kind : (unread (with_amount 2 (5 ∷ [])) ≡ 0) × (numbers (of_bytes (with_amount 2 (5 ∷ []))) ≡ with_amount 2 (5 ∷ []))
    × (writer_refusal (with_amount 2 (5 ∷ [])) ≡ 20) × (writer_refusal (with_amount 2 []) ≡ 20)
    × (writer_refusal (with_amount 2 (1000001 ∷ [])) ≡ 20) × (writer_refusal (with_amount 2 (5 ∷ 0 ∷ [])) ≡ 20)
unfolding refusal_from retired_from numbers items number_at groups pick advance
retired-kind = (refl, refl, refl, refl, refl, refl)

-- before kind 2: a setting out of range; settings that do not rise; i = j; the end. A kind of 6 is out of range. Kind 2 after kind 6.
pub faults_before : (writer_refusal (2 ∷ 1 ∷ 1000001 ∷ 1 ∷ 0 ∷ 24 ∷ 1 ∷ 0 ∷ 1 ∷ 2 ∷ 5 ∷ []) ≡ 3)
    × (writer_refusal (2 ∷ 2 ∷ 7 ∷ 7 ∷ 1 ∷ 0 ∷ 24 ∷ 1 ∷ 0 ∷ 1 ∷ 2 ∷ 5 ∷ []) ≡ 4)
    × (writer_refusal (2 ∷ 1 ∷ 0 ∷ 1 ∷ 0 ∷ 24 ∷ 1 ∷ 1 ∷ 1 ∷ 2 ∷ 5 ∷ []) ≡ 4)
    × (writer_refusal (2 ∷ 1 ∷ 0 ∷ 1 ∷ 0 ∷ 24 ∷ 1 ∷ 0 ∷ 1 ∷ []) ≡ 1)
    × (writer_refusal (with_amount 6 (5 ∷ [])) ≡ 3)
    × (writer_refusal (3 ∷ 1 ∷ 0 ∷ 1 ∷ 0 ∷ 1 ∷ 0 ∷ 24 ∷ 2 ∷ 0 ∷ 1 ∷ 6 ∷ 5 ∷ 0 ∷ 2 ∷ 2 ∷ 5 ∷ []) ≡ 3)
unfolding refusal_from retired_from pick advance
faults_before = (refl, refl, refl, refl, refl, refl)

-- 2 at every place but that of a kind: fields, counts, settings, reach, rules, i, j, masks, c
pub other_twos : (writer_refusal (2 ∷ 2 ∷ 2 ∷ 3 ∷ 2 ∷ 2 ∷ 3 ∷ 2 ∷ 1 ∷ 0 ∷ 1 ∷ 0 ∷ 2 ∷ 2 ∷ []) ≡ 0)
    × (writer_refusal (4 ∷ 1 ∷ 2 ∷ 1 ∷ 2 ∷ 1 ∷ 2 ∷ 1 ∷ 2 ∷ 2 ∷ 2 ∷ 1 ∷ 2 ∷ 1 ∷ 2 ∷ 2 ∷ 3 ∷ 3 ∷ 2 ∷ []) ≡ 0)
unfolding refusal_from retired_from pick advance
other_twos = (refl, refl)

-- ---- triples (02, request 12)

-- Four fields of one setting and no rules, and what follows them: its refusal as a list and as bytes, for numbers of one group.
abbrev four : List ℕ → List ℕ
four ys = 4 ∷ 1 ∷ 0 ∷ 1 ∷ 0 ∷ 1 ∷ 0 ∷ 1 ∷ 0 ∷ 24 ∷ 0 ∷ ys

abbrev both : List ℕ → ℕ × ℕ
both ys = (writer_refusal (four ys), unread (four ys))

-- none; all four that four fields have; one with c 1,000,000 and one with c 1,000,001, as a list and as bytes
pub triples-taken : (both [] ≡ (0, 0))
    × (both (4 ∷ 0 ∷ 1 ∷ 2 ∷ 5 ∷ 0 ∷ 1 ∷ 3 ∷ 5 ∷ 0 ∷ 2 ∷ 3 ∷ 5 ∷ 1 ∷ 2 ∷ 3 ∷ 5 ∷ []) ≡ (0, 0))
    × (writer_refusal (four (1 ∷ 0 ∷ 1 ∷ 2 ∷ 1000000 ∷ [])) ≡ 0) × (unread (four (1 ∷ 0 ∷ 1 ∷ 2 ∷ 0xC0 ∷ 0x84 ∷ 0x3D ∷ [])) ≡ 0)
    × (writer_refusal (four (1 ∷ 0 ∷ 1 ∷ 2 ∷ 1000001 ∷ [])) ≡ 3) × (unread (four (1 ∷ 0 ∷ 1 ∷ 2 ∷ 0xC1 ∷ 0x84 ∷ 0x3D ∷ [])) ≡ 3)
unfolding refusal_from retired_from items number_at groups pick advance
triples-taken = (refl, refl, refl, refl, refl, refl)

-- ends inside: after the count, i, j, k, and where one of two triples stands
pub triples-cut : (both (1 ∷ []) ≡ (1, 1)) × (both (1 ∷ 0 ∷ []) ≡ (1, 1)) × (both (1 ∷ 0 ∷ 1 ∷ []) ≡ (1, 1))
    × (both (1 ∷ 0 ∷ 1 ∷ 2 ∷ []) ≡ (1, 1)) × (both (2 ∷ 0 ∷ 1 ∷ 2 ∷ 5 ∷ []) ≡ (1, 1)) × (both (32 ∷ []) ≡ (1, 1))
unfolding refusal_from retired_from items number_at groups pick advance
triples-cut = (refl, refl, refl, refl, refl, refl)

-- out of range: a count of 0 and of 33; i, j and k of 4, also where the order does not hold
pub triples-out_of_range : (both (0 ∷ []) ≡ (3, 3)) × (both (33 ∷ []) ≡ (3, 3)) × (both (1 ∷ 4 ∷ []) ≡ (3, 3))
    × (both (1 ∷ 3 ∷ 4 ∷ []) ≡ (3, 3)) × (both (1 ∷ 0 ∷ 1 ∷ 4 ∷ []) ≡ (3, 3)) × (both (2 ∷ 1 ∷ 2 ∷ 3 ∷ 5 ∷ 0 ∷ 1 ∷ 4 ∷ []) ≡ (3, 3))
unfolding refusal_from retired_from items number_at groups pick advance
triples-out_of_range = (refl, refl, refl, refl, refl, refl)

-- out of order: i not below j, at j; j not below k, at k; triples that do not rise, at k: by k, j and i, and one twice
pub triples-out_of_order : (both (1 ∷ 1 ∷ 1 ∷ []) ≡ (4, 4)) × (both (1 ∷ 1 ∷ 0 ∷ []) ≡ (4, 4)) × (both (1 ∷ 0 ∷ 2 ∷ 2 ∷ []) ≡ (4, 4))
    × (both (1 ∷ 0 ∷ 2 ∷ 1 ∷ []) ≡ (4, 4)) × (both (2 ∷ 0 ∷ 1 ∷ 3 ∷ 5 ∷ 0 ∷ 1 ∷ 2 ∷ []) ≡ (4, 4))
    × (both (2 ∷ 0 ∷ 2 ∷ 3 ∷ 5 ∷ 0 ∷ 1 ∷ 3 ∷ []) ≡ (4, 4)) × (both (2 ∷ 1 ∷ 2 ∷ 3 ∷ 5 ∷ 0 ∷ 2 ∷ 3 ∷ []) ≡ (4, 4))
    × (both (2 ∷ 0 ∷ 1 ∷ 2 ∷ 5 ∷ 0 ∷ 1 ∷ 2 ∷ []) ≡ (4, 4))
unfolding refusal_from retired_from items number_at groups pick advance
triples-out_of_order = (refl, refl, refl, refl, refl, refl, refl, refl)

-- five such fields, and two triples
abbrev five : List ℕ → List ℕ
five ys = 5 ∷ 1 ∷ 0 ∷ 1 ∷ 0 ∷ 1 ∷ 0 ∷ 1 ∷ 0 ∷ 1 ∷ 0 ∷ 24 ∷ 0 ∷ 2 ∷ ys

-- they rise by i, then j, then k: of five fields, k falls where j rises, and the other way round
pub triples-by-first : (refusal (of_numbers (five (0 ∷ 1 ∷ 4 ∷ 5 ∷ 0 ∷ 2 ∷ 3 ∷ 5 ∷ []))) ≡ 0)
    × (refusal (of_numbers (five (0 ∷ 2 ∷ 3 ∷ 5 ∷ 0 ∷ 1 ∷ 4 ∷ 5 ∷ []))) ≡ 4)
    × (refusal (of_numbers (five (0 ∷ 3 ∷ 4 ∷ 5 ∷ 1 ∷ 2 ∷ 3 ∷ 5 ∷ []))) ≡ 0)
    × (refusal (of_numbers (five (1 ∷ 2 ∷ 3 ∷ 5 ∷ 0 ∷ 3 ∷ 4 ∷ 5 ∷ []))) ≡ 4)
unfolding refusal_from pick advance
triples-by-first = (refl, refl, refl, refl)

-- a triple that cannot rise any more is not refused before k: the list ends after i, and after j
pub triples-judged-at-third : (both (2 ∷ 1 ∷ 2 ∷ 3 ∷ 5 ∷ 0 ∷ []) ≡ (1, 1)) × (both (2 ∷ 1 ∷ 2 ∷ 3 ∷ 5 ∷ 0 ∷ 1 ∷ []) ≡ (1, 1))
    × (both (2 ∷ 0 ∷ 2 ∷ 3 ∷ 5 ∷ 0 ∷ 1 ∷ []) ≡ (1, 1))
unfolding refusal_from retired_from items number_at groups pick advance
triples-judged-at-third = (refl, refl, refl)

-- after the last triple: a number, bytes that end inside a number, and groups that are no number. After the rules, where a count may stand,
-- the groups are judged. Sheet D twice: 2 triples, and a field of 3.
pub triples-surplus : (both (1 ∷ 0 ∷ 1 ∷ 2 ∷ 5 ∷ 0 ∷ []) ≡ (5, 5)) × (unread (four (1 ∷ 0 ∷ 1 ∷ 2 ∷ 5 ∷ 0x80 ∷ [])) ≡ 5)
    × (unread (four (1 ∷ 0 ∷ 1 ∷ 2 ∷ 5 ∷ 0x80 ∷ 0x00 ∷ [])) ≡ 5)
    × (unread (four (0x80 ∷ [])) ≡ 1) × (unread (four (0x80 ∷ 0x00 ∷ [])) ≡ 2) × (unread (D ++ D) ≡ 3)
unfolding refusal_from retired_from items number_at groups pick advance
triples-surplus = (refl, refl, refl, refl, refl, refl)

-- p + r and 2 * q differ by at most c: with c 0 and 1 on either side, and near 1,000,000
pub even-drafts : (even_draft 0 100 200 300 ≡ true) × (even_draft 0 100 200 301 ≡ false) × (even_draft 1 100 200 301 ≡ true)
    × (even_draft 0 100 200 299 ≡ false) × (even_draft 1 100 200 299 ≡ true) × (even_draft 1 99 200 299 ≡ false)
    × (even_draft 0 1 2 1 ≡ false) × (even_draft 0 1000000 1000000 1000000 ≡ true)
    × (even_draft 1000000 1000000 500000 1000000 ≡ true) × (even_draft 999999 1000000 500000 1000000 ≡ false)
    × (even_draft 1000000 0 500000 0 ≡ true) × (even_draft 999999 0 500000 0 ≡ false) × (even_draft 1000000 0 1000000 0 ≡ false)
unfolding pick
even-drafts = (refl, refl, refl, refl, refl, refl, refl, refl, refl, refl, refl, refl, refl)
