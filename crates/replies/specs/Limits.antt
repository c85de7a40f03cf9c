-- The limits of document 01's table of replies; that of the items is document 02's (request 11).
use Rattle.std.specs.Prelude.{ℕ}

-- refusal 1, and 5 for a result
abbrev pub file_limit : ℕ
file_limit = 16777216

-- refusal 1 of the listing
abbrev pub listing_limit : ℕ
listing_limit = 16384

-- refusal 6: items of a new tag
abbrev pub count_limit : ℕ
count_limit = 41

-- refusal 6: item bytes of a new tag
abbrev pub area_limit : ℕ
area_limit = 32768
