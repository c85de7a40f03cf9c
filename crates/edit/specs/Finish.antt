-- The last tests of a call that edits a file.
use Rattle.std.specs.Prelude.{ℕ, List, [], ◌∷◌}
use Rattle.replies.specs.Refusal.{need, refusal_of, Plan, planned}
use Rattle.replies.specs.declared.Refusal.TheVariants.{TagTooLarge}
use Rattle.items.specs.Items.{Item}
use Rattle.ape.specs.Tag.{replaced}
use Rattle.ape.specs.Answers.{room_for}
use Rattle.calls.specs.Gate.{tag_fits}

-- the last tests of set, remove and level on a file: refusals 6 and 5 (undo takes the same way, where 6 cannot occur)
unfoldable pub tag_plan : List ℕ → List Item → ℕ → Plan (List ℕ)
tag_plan file ts room = planned (refusal_of (need TagTooLarge (tag_fits ts) ∷ room_for room (replaced file ts) ∷ [])) (replaced file ts)
