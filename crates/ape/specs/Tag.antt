-- Tags in files: the APEv2 specification's layout, and document 01's "Footer and tail", "Item area, UTF-8 and reading" and "Editing and writing".
use Rattle.std.specs.Prelude.{ℕ, zero, suc, ◌+◌, ◌-◌, ◌&&◌, cond, List, [], ◌∷◌, ◌++◌, length, take, drop, leb, eqb}
use Rattle.std.specs.Prelude.{Option, None, Some}
use Rattle.lists.specs.Choice.{found}
use Rattle.lists.specs.Le.{u32le, read_u32}
use Rattle.frame.specs.Tail.{preamble, stands_at, ends_with_id3v1, tag_start}
use Rattle.lossy.specs.Lossy.{lossy}
use Rattle.items.specs.Items.{Item, area_bytes, is_binary, head}

-- ---- a tag as bytes

-- a header or a footer: preamble, version 2000, size, count, flags, eight zero bytes
unfoldable pub block_bytes : ℕ → ℕ → ℕ → List ℕ
block_bytes size count flags =
    preamble ++ (u32le 2000 ++ (u32le size ++ (u32le count ++ (u32le flags ++ (0 ∷ 0 ∷ 0 ∷ 0 ∷ 0 ∷ 0 ∷ 0 ∷ 0 ∷ [])))))

-- flag bits 31 and 29: the tag has a header, and this is it
abbrev pub header_flags : ℕ
header_flags = 0xA0000000

-- flag bit 31
abbrev pub footer_flags : ℕ
footer_flags = 0x80000000

-- header, items, footer; the size counts items and footer
unfoldable pub tag_bytes : List Item → List ℕ
tag_bytes ts =
    let size = length (area_bytes ts) + 32 in
    block_bytes size (length ts) header_flags ++ (area_bytes ts ++ block_bytes size (length ts) footer_flags)

-- nothing is written for no items
unfoldable pub serialize : List Item → List ℕ
serialize [] = []
serialize (t ∷ ts) = tag_bytes (t ∷ ts)

-- ---- the footer of a file

-- at EOF-32; else at EOF-160, if `TAG` stands at EOF-128
unfoldable pub find_footer : List ℕ → Option ℕ
find_footer s =
    cond (stands_at 32 preamble s) (Some (length s - 32))
    (cond (stands_at 160 preamble s && ends_with_id3v1 s) (Some (length s - 160)) None)

-- a search for a footer taken apart
abbrev pub footed : {A : Type 0} → Option ℕ → A → (ℕ → A) → A
footed None a g = a
footed (Some f) a g = g f

-- a search for a start taken apart
abbrev pub started : {A : Type 0} → Option ℕ → A → (ℕ → A) → A
started None a g = a
started (Some n) a g = g n

-- the version that the footer at f holds
abbrev pub version_at : List ℕ → ℕ → ℕ
version_at s f = read_u32 s (f + 8)

-- the size that the footer at f holds
abbrev pub size_at : List ℕ → ℕ → ℕ
size_at s f = read_u32 s (f + 12)

-- the count of items that the footer at f holds
abbrev pub count_at : List ℕ → ℕ → ℕ
count_at s f = read_u32 s (f + 16)

-- the bytes from the first item to the footer: none if the size is under 32
unfoldable pub area_at : List ℕ → ℕ → List ℕ
area_at s f = take (size_at s f - 32) (drop (f + 32 - size_at s f) s)

-- ---- reading

-- a value as it is read: a binary one as found, any other through `lossy`
unfoldable pub read_value : ℕ → List ℕ → List ℕ
read_value flags value = cond (is_binary flags) value (lossy value)

-- an item of these flags, this key and this value as it is read
abbrev pub converted : ℕ → List ℕ → List ℕ → Item
converted flags key value = record { key = lossy key; value = read_value flags value; flags = flags }

-- at most n items, until none is whole
unfoldable pub read_items : ℕ → List ℕ → List Item
read_items zero s = []
read_items (suc n) s = found (head s) [] (λ h. converted h.item.flags h.item.key h.item.value ∷ read_items n h.rest)

-- no tag without a footer, of another version, or where the size passes the footer's end; the header is not looked at
unfoldable pub read_tag : List ℕ → Option (List Item)
read_tag s =
    footed (find_footer s) None (λ f.
    cond (eqb (version_at s f) 2000 && leb (size_at s f) (f + 32)) (Some (read_items (count_at s f) (area_at s f))) None)

-- ---- replacement

-- what precedes a file's tag and what follows it
pub record Split : Type 0 where
  pub front : List ℕ
  pub back : List ℕ

-- an ID3v1 block at the end of the audio moves behind the tag, if nothing else follows
unfoldable pub moved : List ℕ → List ℕ → Split
moved audio [] =
    let n = length audio - 128 in
    cond (ends_with_id3v1 audio) (record { front = take n audio; back = drop n audio }) (record { front = audio; back = [] })
moved audio (b ∷ bs) = record { front = audio; back = b ∷ bs }

-- with a footer and a start, audio is what precedes the start and the rest follows the footer; else all is audio
unfoldable pub split : List ℕ → Split
split s =
    footed (find_footer s) (moved s []) (λ f. started (tag_start s f) (moved s []) (λ a. moved (take a s) (drop (f + 32) s)))

-- a file of three parts
unfoldable pub file_of : List ℕ → List Item → List ℕ → List ℕ
file_of front ts back = front ++ (serialize ts ++ back)

-- a file with its tag replaced by these items
unfoldable pub replaced : List ℕ → List Item → List ℕ
replaced s ts = file_of (split s).front ts (split s).back
