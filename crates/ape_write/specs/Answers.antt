-- What the call answers and writes that makes a tag.
use Rattle.std.specs.Prelude.{Result, Ok, Err}
use Rattle.std.specs.Prelude.{ℕ, ◌+◌, cond, List, [], ◌∷◌, ◌++◌, length, eqb}
use Rattle.lists.specs.Choice.{is_some}
use Rattle.replies.specs.Refusal.{Test, need, refusal_of, Plan, no, yes, planned}
use Rattle.replies.specs.declared.Refusal.{Refusal}
use Rattle.replies.specs.declared.Refusal.TheVariants.{MalformedArea}
use Rattle.items.specs.Items.{parse, items_in}
use Rattle.ape.specs.Tag.{block_bytes, header_flags, footer_flags, serialize}
use Rattle.ape.specs.Answers.{room_for}

-- refusal 12: the area is exactly so many items
abbrev pub area_fits : ℕ → List ℕ → Test
area_fits count area = need MalformedArea (is_some (parse count area))

-- a tag of so many items whose area is given
unfoldable pub tag_parts : List ℕ → ℕ → List ℕ
tag_parts area count =
    let size = length area + 32 in
    block_bytes size count header_flags ++ (area ++ block_bytes size count footer_flags)

-- how long a tag is: nothing for no items, else 64 bytes besides them
abbrev pub tag_length : ℕ → ℕ → ℕ
tag_length n count = cond (eqb count 0) 0 (n + 64)

-- the length of what is written, or the refusal
abbrev pub written_answer : Plan (List ℕ) → Result ℕ Refusal
written_answer (no r) = Err r
written_answer (yes w) = Ok (length w)

-- what is written: nothing when refused
abbrev pub written_bytes : Plan (List ℕ) → List ℕ
written_bytes (no r) = []
written_bytes (yes w) = w

-- serialize_ape_tag
unfoldable pub serialize_plan : List ℕ → ℕ → ℕ → Plan (List ℕ)
serialize_plan area count room =
    let w = serialize (items_in count area) in
    planned (refusal_of (area_fits count area ∷ room_for room w ∷ [])) w
