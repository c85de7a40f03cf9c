-- What the search for a footer and the reading of a tag answer and write.
use Rattle.std.specs.Prelude.{ℕ, Bool, ◌&&◌, cond, List, [], ◌∷◌, length, leb}
use Rattle.std.specs.Prelude.{Option, None, Some, Result, Ok, Err}
use Rattle.replies.specs.Limits.{file_limit}
use Rattle.replies.specs.Refusal.{Test, need, refusal_of, Plan, no, yes, planned}
use Rattle.replies.specs.declared.Refusal.{Refusal}
use Rattle.replies.specs.declared.Refusal.TheVariants.{FileTooLong, NoRoom}
use Rattle.items.specs.Items.{Item, area_bytes}
use Rattle.ape.specs.Tag.{find_footer, read_tag}
use Rattle.items.specs.declared.Size.{Size}

-- refusal 1: the file is not too long
abbrev pub lent_fits : List ℕ → Test
lent_fits file = need FileTooLong (leb (length file) file_limit)

-- refusal 5: a result of n bytes has room, and is not too long
abbrev pub has_room : ℕ → ℕ → Bool
has_room room n = leb n room && leb n file_limit

-- the same for these bytes, as a test
abbrev pub room_for : ℕ → List ℕ → Test
room_for room w = need NoRoom (has_room room (length w))

-- ---- find_ape_footer

-- the place of the footer, that there is none, or the refusal
abbrev pub footer_answer : Plan (Option ℕ) → Result (Option ℕ) Refusal
footer_answer (no r) = Err r
footer_answer (yes f) = Ok f

-- the search: refusal 1
abbrev pub footer_plan : List ℕ → Plan (Option ℕ)
footer_plan file = planned (refusal_of (lent_fits file ∷ [])) (find_footer file)

-- ---- read_ape_tag

-- the item area of what was read: nothing for no tag
abbrev pub read_area : Option (List Item) → List ℕ
read_area None = []
read_area (Some ts) = area_bytes ts

-- items and bytes, where the bytes are at most `room`
abbrev pub measured_as : ℕ → List Item → Option Size
measured_as room ts = cond (leb (length (area_bytes ts)) room) (Some (record { count = length ts; length = length (area_bytes ts) })) None

-- items that are read, if their area has room
abbrev pub items_plan : ℕ → List Item → Plan (Option (List Item))
items_plan room ts = planned (refusal_of (room_for room (area_bytes ts) ∷ [])) (Some ts)

-- the reading: refusals 1 and 5
unfoldable pub read_plan : List ℕ → ℕ → Plan (Option (List Item))
read_plan file room = planned (refusal_of (lent_fits file ∷ room_for room (read_area (read_tag file)) ∷ [])) (read_tag file)

-- that there is no tag, the count of its items and the length of their area, or the refusal
abbrev pub read_answer : Plan (Option (List Item)) → Result (Option Size) Refusal
read_answer (no r) = Err r
read_answer (yes None) = Ok None
read_answer (yes (Some ts)) = Ok (Some (record { count = length ts; length = length (area_bytes ts) }))

-- what is written: nothing when refused
abbrev pub read_bytes : Plan (Option (List Item)) → List ℕ
read_bytes (no r) = []
read_bytes (yes t) = read_area t
