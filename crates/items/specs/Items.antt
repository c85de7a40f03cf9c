-- Items as bytes, and items by key (document 01, "Item area, UTF-8 and reading" and "Editing and writing").
use Rattle.std.specs.Prelude.{ℕ, zero, suc, ◌+◌, ◌/◌, ◌%◌, Bool, cond, List, [], ◌∷◌, ◌++◌, length, take, drop, leb, ltb, eqb}
use Rattle.std.specs.Prelude.{Option, None, Some, option_map}
use Rattle.lists.specs.Bytes.{place_of}
use Rattle.lists.specs.Choice.{found}
use Rattle.lists.specs.Le.{u32le, read_u32}
use Rattle.keys.specs.Keys.{upper_all, same_key}

-- ---- items as bytes

-- a key, its value, and the item's flags
pub record Item : Type 0 where
  pub key : List ℕ
  pub value : List ℕ
  pub flags : ℕ

-- value length, flags, key, a zero byte, value
unfoldable pub item_bytes : Item → List ℕ
item_bytes t = u32le (length t.value) ++ (u32le t.flags ++ (t.key ++ (0 ∷ t.value)))

-- an item area: one item after another
unfoldable pub area_bytes : List Item → List ℕ
area_bytes [] = []
area_bytes (t ∷ ts) = item_bytes t ++ area_bytes ts

-- how many bytes an item has
abbrev pub size_of : Item → ℕ
size_of t = 9 + length t.key + length t.value

-- ---- flags

-- bit 0
abbrev pub read_only : ℕ → ℕ
read_only flags = flags % 2

-- bits 2..1: 0 text, 1 binary, 2 external, 3 reserved
abbrev pub type_of : ℕ → ℕ
type_of flags = flags / 2 % 4

-- a binary value
abbrev pub is_binary : ℕ → Bool
is_binary flags = eqb (type_of flags) 1

-- the flags of a value that is set: bit 0 kept and all others cleared, so that it is text
abbrev pub as_text : ℕ → ℕ
as_text flags = read_only flags

-- ---- items read back

-- the first item of a list of bytes, and what follows it
pub record Head : Type 0 where
  pub item : Item
  pub rest : List ℕ

-- b begins with a key, a zero byte and a value of n bytes: none if there is no zero byte or the value passes the end
unfoldable pub head_at : ℕ → ℕ → List ℕ → Option Head
head_at n flags b =
    let k = place_of 0 b in
    let v = drop (k + 1) b in
    cond (leb (k + 1 + n) (length b))
    (Some (record { item = record { key = take k b; value = take n v; flags = flags }; rest = drop n v }))
    None

-- the first item: none too if fewer than 8 bytes are left, since `drop 8` then leaves nothing
unfoldable pub head : List ℕ → Option Head
head s = head_at (read_u32 s 0) (read_u32 s 4) (drop 8 s)

-- exactly n items, and nothing behind them; none: malformed
unfoldable pub parse : ℕ → List ℕ → Option (List Item)
parse zero [] = Some []
parse zero (x ∷ s) = None
parse (suc n) s = found (head s) None (λ h. option_map (λ ts. h.item ∷ ts) (parse n h.rest))

-- the items of a well-formed area
abbrev pub items_in : ℕ → List ℕ → List Item
items_in n s = found (parse n s) [] (λ ts. ts)

-- ---- items by key

-- the value of the first match
unfoldable pub get_item : List ℕ → List Item → Option (List ℕ)
get_item key [] = None
get_item key (t ∷ ts) = cond (same_key key t.key) (Some t.value) (get_item key ts)

-- an item with another value, which is text
abbrev pub with_value : List ℕ → Item → Item
with_value value t = record { key = t.key; value = value; flags = as_text t.flags }

-- a text item: flags zero
abbrev pub text_item : List ℕ → List ℕ → Item
text_item key value = record { key = key; value = value; flags = 0 }

-- a new item: text, its key in ASCII upper case
abbrev pub new_item : List ℕ → List ℕ → Item
new_item key value = text_item (upper_all key) value

-- the first match keeps its spelling, its place and whether it is read-only; else appended
unfoldable pub set_item : List ℕ → List ℕ → List Item → List Item
set_item key value [] = new_item key value ∷ []
set_item key value (t ∷ ts) = cond (same_key key t.key) (with_value value t ∷ ts) (t ∷ set_item key value ts)

-- how many items have a key that passes the test
unfoldable pub count_of : (List ℕ → Bool) → List Item → ℕ
count_of p [] = 0
count_of p (t ∷ ts) = cond (p t.key) 1 0 + count_of p ts

-- does an item behind the first match match too?
abbrev pub is_repeated : List ℕ → List Item → Bool
is_repeated key ts = ltb 1 (count_of (same_key key) ts)

-- the items whose keys do not pass the test
unfoldable pub without : (List ℕ → Bool) → List Item → List Item
without p [] = []
without p (t ∷ ts) = cond (p t.key) (without p ts) (t ∷ without p ts)

-- every match goes
abbrev pub remove_item : List ℕ → List Item → List Item
remove_item key ts = without (same_key key) ts
