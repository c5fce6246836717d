-- The limits of 01 and 02, each named once. Assumes nothing.
use Rattle.std.specs.Prelude.{ℕ}

-- fields n, 1 to 24
abbrev pub most_fields : ℕ
most_fields = 24

-- the count of a field's settings, 1 to 24
abbrev pub most_settings : ℕ
most_settings = 24

-- a setting, and the number c of a rule or triple, in micrometres, 0 to 1,000,000 (02, request 3)
abbrev pub largest_setting : ℕ
largest_setting = 1000000

-- how far the distance of a pair may be from c under kind 5, in micrometres (02, request 6)
abbrev pub encoder_tolerance : ℕ
encoder_tolerance = 2

-- the reach, 1 to 24; at 24 the neighbourhood of a field is every field and every rule
abbrev pub whole_reach : ℕ
whole_reach = 24

-- rules e, 0 to 276
abbrev pub most_rules : ℕ
most_rules = 276

-- triple rules, 1 to 32 where a sheet has some (02, request 12)
abbrev pub most_triples : ℕ
most_triples = 32

-- a rule's kind, 0 to 5
abbrev pub last_kind : ℕ
last_kind = 5

-- the kind that is read but no longer written (02, request 9)
abbrev pub retired_kind : ℕ
retired_kind = 2

-- the bytes of a sheet, and its numbers
abbrev pub most_bytes : ℕ
most_bytes = 29273

abbrev pub most_numbers : ℕ
most_numbers = 8184

-- the events of a session
abbrev pub most_events : ℕ
most_events = 64

-- the least words of the offers list and of the two work spaces
abbrev pub offers_words : ℕ
offers_words = 24

abbrev pub rows_words : ℕ
rows_words = 13248

abbrev pub memory_words : ℕ
memory_words = 13824

-- the words of one of the two tables that the first work space holds
abbrev pub table_words : ℕ
table_words = 6624

-- What closing by AC-4 has (02, request 5): the words of the counts towards a field, five for each field, one for each binary digit of a
-- count; the words of all counts; those of all support sets, one for each setting and field; and a place for each setting.
abbrev pub counts_words : ℕ
counts_words = 120

abbrev pub counter_words : ℕ
counter_words = 2880

abbrev pub support_words : ℕ
support_words = 13824

abbrev pub list_places : ℕ
list_places = 576

-- The table of the triple rules (02, request 12): the words before the first of them, those of one, and those of the whole table.
abbrev pub triples_front : ℕ
triples_front = 49

abbrev pub triple_words : ℕ
triple_words = 579

abbrev pub triples_words : ℕ
triples_words = 18577

-- the bytes of the text that the program prints: 24 lines of at most 2 + 1 + 24 * (1 + 10) + 1
abbrev pub text_bytes : ℕ
text_bytes = 6432
