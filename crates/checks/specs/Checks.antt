-- What the tests of level and undo answer that come before the new file is measured.
use Rattle.std.specs.Prelude.{ℕ, ℤ, Bool, true, List, [], ◌∷◌}
use Rattle.std.specs.Prelude.{unwrap_or, Result, Ok, Err}
use Rattle.lists.specs.Choice.{found}
use Rattle.replies.specs.Refusal.{Plan, no, yes, need, refusal_of, planned}
use Rattle.replies.specs.declared.Refusal.{Refusal}
use Rattle.replies.specs.declared.Refusal.TheVariants.{FlagDiffers, UndoOutOfRange, SecondUndo}
use Rattle.values.specs.declared.UndoValues.{UndoValues}
use Rattle.values.specs.Undo.{accumulated}
use Rattle.items.specs.Items.{Item}
use Rattle.calls.specs.Gate.{items_of}
use Rattle.calls.specs.Calls.{Level, stored_undo, undo_once, agrees, booked, numbers_fit, level_checks, undo_checks}
use Rattle.gate.specs.declared.TagArea.{TagArea}
use Rattle.checks.specs.declared.LevelReady.{LevelReady}
use Rattle.checks.specs.declared.UndoReady.{UndoReady}
use Rattle.checks.specs.Stored.{said}

-- the tests of level that the stored undo item decides: refusals 14, 9 and 11
unfoldable pub next_undo_plan : Level → List Item → Plan UndoValues
next_undo_plan l ts =
    planned
    (refusal_of (need SecondUndo (undo_once ts) ∷ need FlagDiffers (found (stored_undo ts) true (agrees l.mode)) ∷ need UndoOutOfRange (numbers_fit (booked l ts)) ∷ []))
    (booked l ts)

-- the last of them, from the text that is stored: refusal 11
unfoldable pub numbers_plan : List ℕ → ℤ → ℤ → Plan UndoValues
numbers_plan text left right =
    let u = accumulated text left right in
    planned (refusal_of (need UndoOutOfRange (numbers_fit u) ∷ [])) u

-- the numbers to store, or the refusal
abbrev pub next_undo_answer : Plan UndoValues → Result UndoValues Refusal
next_undo_answer (no r) = Err r
next_undo_answer (yes u) = Ok u

-- level as far as the numbers that it stores
unfoldable pub level_check : List ℕ → Bool → Level → Plan UndoValues
level_check file gains l = planned (refusal_of (level_checks file gains l)) (booked l (items_of file))

-- where the items stand, and the numbers to store; or the refusal
abbrev pub level_check_answer : TagArea → Plan UndoValues → Result LevelReady Refusal
level_check_answer p (no r) = Err r
level_check_answer p (yes u) = Ok (record { area = p; undo = u })

-- undo as far as the stored text
unfoldable pub undo_check : List ℕ → Bool → Plan (List ℕ)
undo_check file gains = planned (refusal_of (undo_checks file gains)) (unwrap_or (stored_undo (items_of file)) [])

-- where the items stand, and what the text says; or the refusal
abbrev pub undo_check_answer : TagArea → Plan (List ℕ) → Result UndoReady Refusal
undo_check_answer p (no r) = Err r
undo_check_answer p (yes s) = Ok (record { area = p; undo = said s })
