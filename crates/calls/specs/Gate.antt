-- The editing gate (document 01, "Level and undo"; its test of the header is document 02's, request 4), and refusal 6's limits of a tag.
use Rattle.std.specs.Prelude.{ℕ, ◌+◌, ◌/◌, ◌%◌, Bool, true, false, ◌&&◌, ◌||◌, cond, List, [], ◌∷◌, length, drop, ltb, leb, eqb}
use Rattle.std.specs.Prelude.{Option, None, Some}
use Rattle.lists.specs.Bytes.{starts_with}
use Rattle.lists.specs.Choice.{found, provided, is_some}
use Rattle.lists.specs.Le.{read_u32}
use Rattle.replies.specs.Limits.{count_limit, area_limit}
use Rattle.frame.specs.Tail.{preamble, has_header, tag_start}
use Rattle.utf8.specs.Utf8.{valid}
use Rattle.items.specs.Items.{Item, area_bytes, type_of, is_binary, parse}
use Rattle.ape.specs.Tag.{find_footer, footed, started, version_at, size_at, count_at, area_at}

-- ---- what the gate asks of the footer that stands at f

-- the version of APEv2
abbrev pub is_version2 : List ℕ → ℕ → Bool
is_version2 s f = eqb (version_at s f) 2000

-- the size counts the footer at least
abbrev pub counts_footer : List ℕ → ℕ → Bool
counts_footer s f = leb 32 (size_at s f)

-- the tag starts in the file
abbrev pub has_start : List ℕ → ℕ → Bool
has_start s f = started (tag_start s f) false (λ n. true)

-- not more items than refusal 6 lets a new tag have
abbrev pub count_fits : List ℕ → ℕ → Bool
count_fits s f = leb (count_at s f) count_limit

-- not more item bytes than refusal 6 lets a new tag have
abbrev pub area_fits : List ℕ → ℕ → Bool
area_fits s f = leb (size_at s f) (32 + area_limit)

-- flag bit 29: this is the header
abbrev pub is_header : ℕ → Bool
is_header flags = eqb (flags / 0x20000000 % 2) 1

-- the header of the footer at f stands at h: the preamble, the version of APEv2, the footer's size and count, bit 29
unfoldable pub header_at : List ℕ → ℕ → ℕ → Bool
header_at s f h =
    starts_with preamble (drop h s)
    && (is_version2 s h && (eqb (size_at s h) (size_at s f) && (eqb (count_at s h) (count_at s f) && is_header (read_u32 s (h + 20)))))

-- if flag bit 31 says that there is a header, it stands where the tag starts: 32 bytes before the items
abbrev pub is_headed : List ℕ → ℕ → Bool
is_headed s f = cond (has_header (read_u32 s (f + 20))) (started (tag_start s f) false (header_at s f)) true

-- all of these
unfoldable pub fit : List ℕ → ℕ → Bool
fit s f = is_version2 s f && (counts_footer s f && (has_start s f && (count_fits s f && (area_fits s f && is_headed s f))))

-- ---- what it asks of the items

-- types 0 to 2, and no bit beside those of the type and read-only
abbrev pub flags_fit : ℕ → Bool
flags_fit flags = leb (type_of flags) 2 && ltb flags 8

-- such flags, a UTF-8 key, and a UTF-8 value unless it is binary
unfoldable pub item_valid : Item → Bool
item_valid t = flags_fit t.flags && (valid t.key && (is_binary t.flags || valid t.value))

-- every item
unfoldable pub all_valid : List Item → Bool
all_valid [] = true
all_valid (t ∷ ts) = item_valid t && all_valid ts

-- ---- the gate

-- the items that it finds: no footer, no items; else exactly `count` items ending at the footer, each of them valid; none: not fit for editing
unfoldable pub gate_items : List ℕ → Option (List Item)
gate_items s = footed (find_footer s) (Some []) (λ f. cond (fit s f) (provided all_valid (parse (count_at s f) (area_at s f))) None)

-- does it pass a file?
unfoldable pub passes_gate : List ℕ → Bool
passes_gate s = is_some (gate_items s)

-- the items of a file that it passes
unfoldable pub items_of : List ℕ → List Item
items_of s = found (gate_items s) [] (λ ts. ts)

-- ---- a new tag

-- refusal 6: not too many items, nor too many item bytes
unfoldable pub tag_fits : List Item → Bool
tag_fits ts = leb (length ts) count_limit && leb (length (area_bytes ts)) area_limit
