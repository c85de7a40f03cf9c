-- Demand 3, sentence by sentence: a list of level, set and remove calls, and the undo after it.
use Rattle.std.specs.Prelude.{ℕ, ◌≤◌, ◌<◌, ◌≡◌, ◌↔◌, ◌⊎◌, true, false, List, [], ◌∷◌, length, get_or}
use Rattle.lists.specs.Bytes.{Small}
use Rattle.replies.specs.Refusal.{Plan, yes}
use Rattle.keys.specs.Keys.{is_mp3gain_key}
use Rattle.items.specs.Items.{count_of}
use Rattle.calls.specs.Gate.{items_of}
use Rattle.calls.specs.Calls.{Levelled, undo_plan}
use Rattle.book.specs.Book.{settled, book_file}
use Rattle.reversal.specs.Run.{key_of, Call, level, edit, State, Side, on_left, on_right, gains_on, run, accepted_levels, accepted_edits, edits_alone, book_after, Wrapped, Landed}

-- the list's edits name none of the eight keys in any letter case
unfoldable pub Apart : List Call → Type 0
Apart [] = Unit {0}
Apart (level l room ∷ cs) = Apart cs
Apart (edit e ∷ cs) = (is_mp3gain_key (key_of e) ≡ false) × Apart cs

-- the undo after the list, which gets the file and the gains that the list left
abbrev pub undo_after : State → List Call → ℕ → Plan Levelled
undo_after s cs room = undo_plan (run s cs).file (run s cs).left (run s cs).right room

-- the gains of a side that it leaves
abbrev pub undone_on : Side → Levelled → List ℕ
undone_on on_left o = o.left
undone_on on_right o = o.right

-- "any list of level, set and remove calls, refused ones included, that starts from any gain lists and a settled file":
-- s is the first state, cs the list, room the length of the undo's output
pub record Given (s : State) (cs : List Call) (room : ℕ) : Type 0 where
  -- "a settled file"
  pub settled-file : settled s.file ≡ true
  -- "with none of the eight mp3gain keys"
  pub none-of-eight : count_of is_mp3gain_key (items_of s.file) ≡ 0
  -- gains are bytes
  pub bytes : (side : Side) → Small (gains_on side s)
  -- "the list's edits name none of those keys in any letter case"
  pub apart : Apart cs
  -- "at least one level call is accepted"
  pub some_level : ¬ (accepted_levels s cs ≡ [])
  -- "an undo after it, lent an output at least as long as its file"
  pub long : length (run s cs).file ≤ room

-- what the demand says of that undo, of the accepted edits alone, and of each gain
pub record Restored (s : State) (cs : List Call) (room : ℕ) : Type 0 where
  -- "is accepted"
  pub undone : Levelled
  pub accepted : undo_after s cs room ≡ yes undone
  -- "and gives, byte for byte, the file that the accepted edits alone give": the book's file
  pub file : undone.out ≡ book_file (book_after s cs)
  -- the accepted edits, called alone from the first file with the same output lengths, are all accepted and end at the book's file too
  pub alone-accepted : accepted_edits s (edits_alone s cs) ≡ accepted_edits s cs
  pub alone-file : (run s (edits_alone s cs)).file ≡ book_file (book_after s cs)
  -- no gain comes or goes
  pub lengths : (side : Side) → length (undone_on side undone) ≡ length (gains_on side s)
  -- "each gain is back at its first number exactly when the accepted level calls wrapped, or it began at 0, or every accepted level call took it,
  -- before clamping, to 1 through 255"
  pub gain : (side : Side) (i : ℕ) → i < length (gains_on side s)
      → (get_or (undone_on side undone) i 0 ≡ get_or (gains_on side s) i 0)
      ↔ (Wrapped s cs ⊎ (get_or (gains_on side s) i 0 ≡ 0) ⊎ Landed side i s cs)

-- the whole demand
unfoldable pub Demand3 : Type 0
Demand3 = (s : State) (cs : List Call) (room : ℕ) → Given s cs room → Restored s cs room
