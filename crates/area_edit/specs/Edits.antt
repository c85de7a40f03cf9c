-- Edits of a lent item area (document 01, "Editing and writing"): refused, or new items that are written to the front of the output.
use Rattle.std.specs.Prelude.{ℕ, ◌+◌, Bool, Result, Ok, Err, ◌&&◌, List, [], ◌∷◌, ◌++◌, length, leb}
use Rattle.lists.specs.Choice.{is_some}
use Rattle.lists.specs.Le.{u32le, read_u32}
use Rattle.lists.specs.Write.{part}
use Rattle.replies.specs.Limits.{file_limit}
use Rattle.replies.specs.Refusal.{Test, need, refusal_of, Plan, no, yes, planned}
use Rattle.replies.specs.declared.Refusal.{Refusal}
use Rattle.replies.specs.declared.Refusal.TheVariants.{MalformedArea, BadKey, NotUtf8, NoRoom}
use Rattle.utf8.specs.Utf8.{valid}
use Rattle.keys.specs.Keys.{upper_all, is_key}
use Rattle.items.specs.Items.{Item, area_bytes, as_text, parse, items_in, set_item}
use Rattle.items.specs.declared.Size.{Size}

-- refusal 5: the area of the items fits into `room` bytes and into a file
abbrev pub fits : ℕ → List Item → Bool
fits room ts = leb (length (area_bytes ts)) room && leb (length (area_bytes ts)) file_limit

-- the items of an area of n, edited by f, for `room` bytes; `tests` are those of the edit itself
unfoldable pub edited : List Test → (List Item → List Item) → ℕ → List ℕ → ℕ → Plan (List Item)
edited tests f n s room =
    planned (refusal_of (need MalformedArea (is_some (parse n s)) ∷ need NoRoom (fits room (f (items_in n s))) ∷ tests)) (f (items_in n s))

-- the answer: the refusal, or how many items were written and how many bytes
abbrev pub answer : Plan (List Item) → Result Size Refusal
answer (no r) = Err r
answer (yes ts) = Ok (record { count = length ts; length = length (area_bytes ts) })

-- what is written: nothing where it is refused
abbrev pub bytes : Plan (List Item) → List ℕ
bytes (no r) = []
bytes (yes ts) = area_bytes ts

-- ---- set

-- refusals 12, 3, 4 and 5
abbrev pub set_plan : List ℕ → List ℕ → ℕ → List ℕ → ℕ → Plan (List Item)
set_plan key value n s room = edited (need BadKey (is_key key) ∷ need NotUtf8 (valid value) ∷ []) (set_item key value) n s room

-- ---- the bytes that set writes

-- the item of s from a, whose key ends at k, with another value, as text
unfoldable pub changed : List ℕ → ℕ → ℕ → List ℕ → List ℕ
changed s a k value = ((u32le (length value) ++ u32le (as_text (read_u32 s (a + 4)))) ++ part (a + 8) (k + 1) s) ++ value

-- an item, its key in upper case
unfoldable pub fresh : List ℕ → List ℕ → List ℕ
fresh key value = (((u32le (length value) ++ u32le 0) ++ upper_all key) ++ (0 ∷ [])) ++ value

-- s with another value in the item from a to e, whose key ends at k
unfoldable pub replaced : List ℕ → ℕ → ℕ → ℕ → List ℕ → List ℕ
replaced s a k e value = (part 0 a s ++ changed s a k value) ++ part e (length s) s

-- s with one more item behind it
unfoldable pub appended : List ℕ → List ℕ → List ℕ → List ℕ
appended s key value = s ++ fresh key value
