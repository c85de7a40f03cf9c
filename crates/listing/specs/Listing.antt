-- The text that lists the tag of a file (document 01, "Slip and listing").
use Rattle.std.specs.Prelude.{ℕ, ◌+◌, ◌/◌, ◌%◌, Bool, true, false, not, ◌&&◌, cond, List, [], ◌∷◌, ◌++◌, length, ltb, leb, eqb}
use Rattle.std.specs.Prelude.{Option, None, Some}
use Rattle.replies.specs.Limits.{listing_limit}
use Rattle.lists.specs.Bytes.{ascii}
use Rattle.decimal.specs.Writing.{decimal}
use Rattle.items.specs.Items.{Item}
use Rattle.ape.specs.Tag.{read_tag}

-- a lowercase hex digit
abbrev pub hex_digit : ℕ → ℕ
hex_digit d = cond (ltb d 10) (0x30 + d) (0x57 + d)

-- a backslash and two hex digits
abbrev pub escaped : ℕ → List ℕ
escaped b = 0x5C ∷ hex_digit (b / 16) ∷ hex_digit (b % 16) ∷ []

-- what prints as it is: hex 20..7E but for the backslash, and in a key but for `=`
abbrev pub is_plain : Bool → ℕ → Bool
is_plain key b = leb 0x20 b && (leb b 0x7E && (not (eqb b 0x5C) && not (key && eqb b 0x3D)))

-- a byte as it prints
abbrev pub printed : Bool → ℕ → List ℕ
printed key b = cond (is_plain key b) (b ∷ []) (escaped b)

-- one byte after another
unfoldable pub printed_all : Bool → List ℕ → List ℕ
printed_all key [] = []
printed_all key (b ∷ s) = printed key b ++ printed_all key s

-- `key=value` and LF
unfoldable pub line : List ℕ → List ℕ → List ℕ
line key value = ((printed_all true key ++ (0x3D ∷ [])) ++ printed_all false value) ++ (0x0A ∷ [])

-- a line for each item
unfoldable pub lines : List Item → List ℕ
lines [] = []
lines (t ∷ ts) = line t.key t.value ++ lines ts

-- the number of items that were read, and their lines
unfoldable pub listed : Option (List Item) → List ℕ
listed None = ascii "items=none" ++ (0x0A ∷ [])
listed (Some ts) = ((ascii "items=" ++ decimal 1 9 (length ts)) ++ (0x0A ∷ [])) ++ lines ts

-- the text of a file
unfoldable pub listing : List ℕ → List ℕ
listing file = cond (leb (length file) listing_limit) (listed (read_tag file)) (ascii "refused=1" ++ (0x0A ∷ []))
