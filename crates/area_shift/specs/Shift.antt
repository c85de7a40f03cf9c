-- The shift of the stored values of a lent item area (document 01, "Numbers in tags").
use Rattle.std.specs.Prelude.{ℕ, ◌+◌, Bool, false, List, [], ◌∷◌, ℤ}
use Rattle.lists.specs.Choice.{found}
use Rattle.lists.specs.Write.{part}
use Rattle.replies.specs.Refusal.{need, Plan}
use Rattle.replies.specs.declared.Refusal.TheVariants.{StepOutOfRange}
use Rattle.frame.specs.declared.GainMode.{GainMode}
use Rattle.frame.specs.declared.GainMode.TheVariants.{Saturating, Wrapping}
use Rattle.values.specs.Stored.{range_wraps_out, shift_stored}
use Rattle.slip.specs.Slip.{is_step}
use Rattle.items.specs.Items.{Item}
use Rattle.area_edit.specs.Edits.{edited, changed}
use Rattle.calls.specs.Calls.{shift_stored_gain}

-- does an item go before the shift? Under W a range of which a number leaves 0..255
abbrev pub goes : GainMode → ℤ → List ℕ → List ℕ → Bool
goes Saturating steps key value = false
goes Wrapping steps key value = range_wraps_out key value steps

-- the bytes of the item of s from a to e, whose key ends at k, with its new text or as found
unfoldable pub shifted_bytes : ℤ → List ℕ → ℕ → ℕ → ℕ → List ℕ
shifted_bytes steps s a k e =
    found (shift_stored (part (a + 8) k s) (part (k + 1) e s) steps) (part a e s) (changed s a k)

-- refusals 12, 2 and 5
abbrev pub shift_plan : GainMode → ℤ → ℕ → List ℕ → ℕ → Plan (List Item)
shift_plan m steps n s room = edited (need StepOutOfRange (is_step steps) ∷ []) (shift_stored_gain m steps) n s room
