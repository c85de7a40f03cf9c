-- `set_replaygain` of the source on a lent item area: the five ReplayGain items, set one after another.
use Rattle.std.specs.Prelude.{ℕ, ◌+◌, Option, Bool, true, ◌&&◌, cond, List, [], ◌∷◌, map, length, drop, leb, ltb}
use Rattle.replies.specs.Limits.{file_limit}
use Rattle.replies.specs.Refusal.{need, Plan}
use Rattle.replies.specs.declared.Refusal.TheVariants.{NotUtf8}
use Rattle.utf8.specs.Utf8.{valid}
use Rattle.keys.specs.Keys.{which_of, keys}
use Rattle.items.specs.Items.{Item, area_bytes, set_item, text_item, new_item}
use Rattle.area_edit.specs.Edits.{edited}

-- the items of the first list, set one after another
unfoldable pub set_each : List Item → List Item → List Item
set_each [] ts = ts
set_each (p ∷ ps) ts = set_each ps (set_item p.key p.value ts)

-- REPLAYGAIN_KEYS: the last five of the eight
unfoldable pub gain_keys : List (List ℕ)
gain_keys = drop 3 keys

-- the marked texts, each with its key
unfoldable pub marked : List (List ℕ) → List Bool → List (List ℕ) → List Item
marked [] bs vs = []
marked (k ∷ ks) [] vs = []
marked (k ∷ ks) (b ∷ bs) [] = []
marked (k ∷ ks) (b ∷ bs) (v ∷ vs) = cond b (text_item k v ∷ marked ks bs vs) (marked ks bs vs)

-- a text is set unless it is empty
abbrev pub marks : List (List ℕ) → List Bool
marks texts = map (λ v. ltb 0 (length v)) texts

-- the texts that are set, each with its key
abbrev pub present : List (List ℕ) → List Item
present texts = marked gain_keys (marks texts) texts

-- every text is UTF-8
abbrev pub all_valid : List (List ℕ) → Bool
all_valid [] = true
all_valid (v ∷ vs) = valid v && all_valid vs

-- refusals 12, 4 and 5
abbrev pub set_gains_plan : List (List ℕ) → ℕ → List ℕ → ℕ → Plan (List Item)
set_gains_plan texts n s room = edited (need NotUtf8 (all_valid texts) ∷ []) (set_each (present texts)) n s room

-- ---- the pass that sets them

-- the place of a key among the five
unfoldable pub gain_place : List ℕ → Option ℕ
gain_place key = which_of gain_keys key

-- as an item is appended
abbrev pub capital : Item → Item
capital p = new_item p.key p.value

-- the bytes of the marked texts as they are appended
unfoldable pub added : List (List ℕ) → List Bool → List (List ℕ) → List ℕ
added ks bs vs = area_bytes (map capital (marked ks bs vs))

-- a size as far as it matters: all above the limit of a file are one
unfoldable pub capped : ℕ → ℕ
capped n = cond (leb n file_limit) n (file_limit + 1)
