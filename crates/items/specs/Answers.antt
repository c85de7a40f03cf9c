-- What the functions over an area answer, said over its items.
use Rattle.std.specs.Prelude.{ℕ, ◌+◌, ◌-◌, Bool, true, false, cond, List, [], ◌∷◌, length, take, drop, leb}
use Rattle.std.specs.Prelude.{Option, None, Some, option_map, Result, Ok, Err}
use Rattle.lists.specs.Choice.{found, is_some}
use Rattle.replies.specs.Refusal.{need, refusal_of, Plan, no, yes, planned, number_of}
use Rattle.replies.specs.declared.Refusal.{Refusal}
use Rattle.replies.specs.declared.Refusal.TheVariants.{MalformedArea, BadKey}
use Rattle.keys.specs.Keys.{same_key, is_key}
use Rattle.items.specs.Items.{Item, Head, size_of, head, parse, items_in, count_of, is_repeated}
use Rattle.items.specs.declared.Stepped.{Stepped}
use Rattle.items.specs.declared.Stepped.TheVariants.{Item as ItemAt, Malformed as BadItem, End}
use Rattle.items.specs.declared.Place.{Place}
use Rattle.items.specs.declared.FirstMatch.{FirstMatch}
use Rattle.items.specs.declared.Found.{Found}

-- ---- a step

-- where the parts of an item stand that begins at `at`
abbrev pub places_of : ℕ → Head → Stepped
places_of at h =
    ItemAt h.item.flags (at + 8) (at + 8 + length h.item.key) (at + 8 + length h.item.key + 1) (at + size_of h.item)

-- what stands at a place
abbrev pub step_of : List ℕ → ℕ → Stepped
step_of s at = cond (leb (length s) at) End (found (head (drop at s)) BadItem (λ h. places_of at h))

-- ---- the first match

-- among items that stand one after another from `at`: its start, the end of its key, its end
unfoldable pub locate_in : List ℕ → ℕ → List Item → Option Place
locate_in key at [] = None
locate_in key at (t ∷ ts) =
    cond (same_key key t.key) (Some (record { start = at; key_end = at + 8 + length t.key; end = at + size_of t })) (locate_in key (at + size_of t) ts)

-- among the n items that stand from `at` to the end
abbrev pub locate_from : List ℕ → List ℕ → ℕ → ℕ → Result (Option Place) Refusal
locate_from s key at n = found (parse n (drop at s)) (Err MalformedArea) (λ ts. Ok (locate_in key at ts))

-- in an area
abbrev pub locate_of : List ℕ → ℕ → List ℕ → Result (Option Place) Refusal
locate_of s n key = locate_from s key 0 n

-- ---- the first match, before the items behind it are tested

-- where it ends
abbrev pub end_of : Result (Option FirstMatch) Refusal → ℕ
end_of (Ok (Some m)) = m.place.end
end_of (Ok None) = 0
end_of (Err r) = 0

-- the place that it gives: the items left behind it must be well formed
abbrev pub place_by : List ℕ → Result (Option FirstMatch) Refusal → Result (Option Place) Refusal
place_by s (Ok (Some m)) = cond (is_some (parse m.left (drop m.place.end s))) (Ok (Some m.place)) (Err MalformedArea)
place_by s (Ok None) = Ok None
place_by s (Err r) = Err r

-- how many match: itself and those behind it
abbrev pub count_by : List ℕ → List ℕ → Result (Option FirstMatch) Refusal → ℕ
count_by s key (Ok (Some m)) =
    cond (is_some (parse m.left (drop m.place.end s))) (1 + count_of (same_key key) (items_in m.left (drop m.place.end s))) 0
count_by s key (Ok None) = 0
count_by s key (Err r) = 0

-- ---- get

-- the place of a value, its length, and whether a later item matches
abbrev pub found_at : Option Place → Bool → Option Found
found_at o repeated = option_map (λ p. record { start = p.key_end + 1; length = p.end - (p.key_end + 1); repeated = repeated }) o

-- the same, or the refusal
abbrev pub found_by : Plan (Option Place) → Bool → Result (Option Found) Refusal
found_by (no r) repeated = Err r
found_by (yes o) repeated = Ok (found_at o repeated)

-- refused for the area or the key, or where the value of the first match stands and whether a later item matches
unfoldable pub find_of : List ℕ → ℕ → List ℕ → Result (Option Found) Refusal
find_of s n key =
    found_by (planned (refusal_of (need MalformedArea (is_some (parse n s)) ∷ need BadKey (is_key key) ∷ [])) (locate_in key 0 (items_in n s)))
    (is_repeated key (items_in n s))

-- the value that was found
abbrev pub value_of : List ℕ → Found → List ℕ
value_of s f = take f.length (drop f.start s)

-- where it begins in the area; at the front where it would begin past the end
abbrev pub value_start : List ℕ → Found → ℕ
value_start s f = cond (leb f.start (length s)) f.start 0

-- the part that get hands out: empty unless found
abbrev pub part_of : List ℕ → Result (Option Found) Refusal → List ℕ
part_of s (Ok (Some f)) = value_of s f
part_of s (Ok None) = []
part_of s (Err r) = []

-- where that part begins in the area; at the front where none was found
abbrev pub part_start : List ℕ → Result (Option Found) Refusal → ℕ
part_start s (Ok (Some f)) = value_start s f
part_start s (Ok None) = 0
part_start s (Err r) = 0

-- the reply: 0, or the number of the refusal
abbrev pub reply_to : Result (Option Found) Refusal → ℕ
reply_to (Ok o) = 0
reply_to (Err r) = number_of r

-- whether there is a value
abbrev pub is_there : Result (Option Found) Refusal → Bool
is_there (Ok (Some f)) = true
is_there (Ok None) = false
is_there (Err r) = false

-- whether a later item matches: not where there is no value
abbrev pub found_repeated : Result (Option Found) Refusal → Bool
found_repeated (Ok (Some f)) = f.repeated
found_repeated (Ok None) = false
found_repeated (Err r) = false
