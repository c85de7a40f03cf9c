-- Edits of a lent item area that drop items (document 01, "Editing and writing").
use Rattle.std.specs.Prelude.{◌≡◌, ℕ, Bool, Option, option_map, List, [], ◌∷◌, length}
use Rattle.lists.specs.Bytes.{Small}
use Rattle.replies.specs.Refusal.{need, Plan}
use Rattle.replies.specs.declared.Refusal.TheVariants.{BadKey}
use Rattle.keys.specs.Keys.{is_key}
use Rattle.items.specs.Items.{Item, area_bytes, parse, without, remove_item}
use Rattle.items.specs.declared.Size.{Size}
use Rattle.area_edit.specs.Edits.{edited}

-- what a call at a key may answer is what the test says of it
abbrev pub Tests : (List ℕ → Bool → Type 0) → (List ℕ → Bool) → Type 0
Tests post p = (key : List ℕ) (b : Bool) → Small key → post key b → b ≡ p key

-- how many items f makes of those of an area, and how many bytes they have
abbrev pub measured_of : (List Item → List Item) → ℕ → List ℕ → Option Size
measured_of f n s = option_map (λ ts. record { count = length (f ts); length = length (area_bytes (f ts)) }) (parse n s)

-- ---- the calls

-- refusals 12, 3 and 5
abbrev pub remove_plan : List ℕ → ℕ → List ℕ → ℕ → Plan (List Item)
remove_plan key n s room = edited (need BadKey (is_key key) ∷ []) (remove_item key) n s room

-- the items whose keys pass the test go; refusals 12 and 5
abbrev pub drop_plan : (List ℕ → Bool) → ℕ → List ℕ → ℕ → Plan (List Item)
drop_plan p n s room = edited [] (without p) n s room
