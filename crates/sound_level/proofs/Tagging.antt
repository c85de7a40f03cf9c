-- Laws of the tag that level writes: what the check of level says of it.
use Prim.Native.Nat.{ℕ, ◌≤◌}
use mathlib.Core.Path.{◌≡◌, sym, ap, ◌∙◌}
use mathlib.Core.Bool.{Bool, true, false}
use Rattle.std.specs.Prelude.{Option, None, Some}
use mathlib.Core.List.{List, [], ◌∷◌}
use lib.ListN.{length}
use borrow.Author.Tests.{le-leb}
use Rattle.lists.specs.Choice.{found}
use Rattle.replies.specs.Refusal.{no, yes, need, refusal_of, planned}
use Rattle.replies.specs.declared.Refusal.{Refusal}
use Rattle.replies.specs.declared.Refusal.TheVariants.{NotEditable, SecondUndo, FlagDiffers, UndoOutOfRange, TagTooLarge, NoRoom}
use Rattle.slip.specs.Slip.{is_step}
use Rattle.values.specs.declared.UndoValues.{UndoValues}
use Rattle.values.specs.declared.Range.{Range}
use Rattle.items.specs.Items.{Item}
use Rattle.ape.specs.Tag.{replaced}
use Rattle.ape.specs.Answers.{has_room}
use Rattle.calls.specs.Gate.{passes_gate, items_of, tag_fits}
use Rattle.calls.specs.Calls.{Level, stored_undo, undo_once, agrees, booked, numbers_fit}
use Rattle.checks.specs.Checks.{level_check}
use Rattle.checks.proofs.Whole.{done, refused}
use Rattle.edit.specs.Finish.{tag_plan}
use Rattle.sound_level.specs.Tagged.{tagged_items, tagged_plan}

-- the tests of the check come before those of the new file
parts : (gate once flag small fits room : Bool) (o : Option Refusal)
    → refusal_of (need NotEditable gate ∷ need SecondUndo once ∷ need FlagDiffers flag ∷ need UndoOutOfRange small ∷ []) ≡ o
    → refusal_of (need NotEditable gate ∷ need SecondUndo once ∷ need FlagDiffers flag ∷ need UndoOutOfRange small ∷ need TagTooLarge fits ∷ need NoRoom room ∷ [])
    ≡ found o (refusal_of (need TagTooLarge fits ∷ need NoRoom room ∷ [])) Some
parts false once flag small fits room o e = rw (← e)
parts true false flag small fits room o e = rw (← e)
parts true true false small fits room o e = rw (← e)
parts true true true false fits room o e = rw (← e)
parts true true true true fits room o e = rw (← e)

module _ (file : List ℕ) (l : Level) (range : Range) (room : ℕ) (h : length file ≤ 16777216) (s : is_step l.left ≡ true) (t : is_step l.right ≡ true) where
  abbrev flag : Bool
  flag = found (stored_undo (items_of file)) true (agrees l.mode)

  abbrev new : List Item
  new = tagged_items l range (items_of file)

  -- of a file that is not too long, and steps that fit
  checked : level_check file true l
      ≡ planned
      (refusal_of (need NotEditable (passes_gate file) ∷ need SecondUndo (undo_once (items_of file)) ∷ need FlagDiffers flag ∷ need UndoOutOfRange (numbers_fit (booked l (items_of file))) ∷ []))
      (booked l (items_of file))
  unfolding level_check
  checked = rw (le-leb _ _ h, s, t)

  whole : (o : Option Refusal)
      → refusal_of (need NotEditable (passes_gate file) ∷ need SecondUndo (undo_once (items_of file)) ∷ need FlagDiffers flag ∷ need UndoOutOfRange (numbers_fit (booked l (items_of file))) ∷ []) ≡ o
      → tagged_plan file l range room ≡ planned (found o (refusal_of (need TagTooLarge (tag_fits new) ∷ need NoRoom (has_room room (length (replaced file new))) ∷ [])) Some) (replaced file new)
  unfolding tagged_plan
  whole o e =
      ap (λ q. planned q (replaced file new)) (parts (passes_gate file) (undo_once (items_of file)) flag (numbers_fit (booked l (items_of file))) (tag_fits new) (has_room room (length (replaced file new))) o e)

  pub tag-refused : {r : Refusal} → level_check file true l ≡ no r → tagged_plan file l range room ≡ no r
  tag-refused {r} e = whole (Some r) (refused _ (booked l (items_of file)) (sym checked ∙ e))

  pub tag-last : {u : UndoValues} → level_check file true l ≡ yes u → tagged_plan file l range room ≡ tag_plan file new room
  unfolding tag_plan
  tag-last e = whole None (done _ (booked l (items_of file)) (sym checked ∙ e)).0
