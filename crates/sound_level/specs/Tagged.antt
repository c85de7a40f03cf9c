-- The tests and the items of level that do not depend on single gains, only on their range.
use Rattle.std.specs.Prelude.{ℕ, true, List, [], ◌∷◌}
use Rattle.lists.specs.Choice.{found}
use Rattle.replies.specs.Refusal.{Test, need, refusal_of, Plan, planned}
use Rattle.replies.specs.declared.Refusal.TheVariants.{NotEditable, SecondUndo, FlagDiffers, UndoOutOfRange, TagTooLarge}
use Rattle.values.specs.declared.Range.{Range}
use Rattle.items.specs.Items.{Item}
use Rattle.ape.specs.Tag.{replaced}
use Rattle.ape.specs.Answers.{room_for}
use Rattle.calls.specs.Gate.{passes_gate, items_of, tag_fits}
use Rattle.calls.specs.Calls.{Level, stored_undo, undo_once, agrees, booked, numbers_fit}
use Rattle.level_items.specs.Items.{ranged_items}

-- the items that level leaves where the gains will have this range
abbrev pub tagged_items : Level → Range → List Item → List Item
tagged_items l range ts = ranged_items l (booked l ts) range ts

-- refusals 8, 14, 9, 11, 6, 5, of these new items
abbrev pub tagged_tests : List ℕ → Level → List Item → ℕ → List Test
tagged_tests file l new room =
    need NotEditable (passes_gate file) ∷ need SecondUndo (undo_once (items_of file))
    ∷ need FlagDiffers (found (stored_undo (items_of file)) true (agrees l.mode))
    ∷ need UndoOutOfRange (numbers_fit (booked l (items_of file))) ∷ need TagTooLarge (tag_fits new) ∷ room_for room (replaced file new) ∷ []

-- the file with these items
unfoldable pub tagged_plan : List ℕ → Level → Range → ℕ → Plan (List ℕ)
tagged_plan file l range room =
    let new = tagged_items l range (items_of file) in
    planned (refusal_of (tagged_tests file l new room)) (replaced file new)
