-- The most bytes of the parts of the text. Assumes nothing.
use Rattle.std.specs.Prelude.{ℕ, ◌+◌, ◌*◌}
use Rattle.limits.specs.Limits.{most_settings}

-- a word of 32 bits has at most ten digits
abbrev pub most_digits : ℕ
most_digits = 10

-- a blank and a setting
abbrev pub offer_room : ℕ
offer_room = 1 + most_digits

abbrev pub offers_room : ℕ
offers_room = most_settings * offer_room

-- a position of two digits, a colon, the settings and a line feed
abbrev pub line_room : ℕ
line_room = 2 + 1 + offers_room + 1
