-- The undo steps that an area holds: `get_undo_gain` of the source, with refusal 12.
use Rattle.std.specs.Prelude.{ℕ, ℤ, List, [], ◌∷◌, Option, option_map, Result, Ok, Err}
use Rattle.lists.specs.Choice.{is_some}
use Rattle.replies.specs.Refusal.{need, refusal_of, Plan, no, yes, planned}
use Rattle.replies.specs.declared.Refusal.{Refusal}
use Rattle.replies.specs.declared.Refusal.TheVariants.{MalformedArea}
use Rattle.keys.specs.Keys.{undo_key}
use Rattle.values.specs.Undo.{parse_undo}
use Rattle.items.specs.Items.{parse, items_in, get_item}

-- the left number of an undo text, if there is one
abbrev pub steps_of : Option (List ℕ) → Option ℤ
steps_of o = option_map (λ text. (parse_undo text).left) o

-- the answer: the refusal, none, or the steps
abbrev pub gain_by : Plan (Option (List ℕ)) → Result (Option ℤ) Refusal
gain_by (no r) = Err r
gain_by (yes text) = Ok (steps_of text)

-- the left number of the first undo item
unfoldable pub undo_gain_of : List ℕ → ℕ → Result (Option ℤ) Refusal
undo_gain_of s n = gain_by (planned (refusal_of (need MalformedArea (is_some (parse n s)) ∷ [])) (get_item undo_key (items_in n s)))
