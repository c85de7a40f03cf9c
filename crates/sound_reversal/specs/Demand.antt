-- Document 02, request 5, sentence by sentence: a list of level calls on an MP3, and the undo after it.
use Rattle.std.specs.Prelude.{ℕ, ◌-◌, ◌≤◌, ◌<◌, ◌≡◌, ◌↔◌, ◌⊎◌, true, List, [], length, get_or}
use Rattle.lists.specs.Bytes.{Small}
use Rattle.replies.specs.Refusal.{yes}
use Rattle.keys.specs.Keys.{is_mp3gain_key}
use Rattle.layer3.specs.Fields.{Before}
use Rattle.layer3.specs.Walk.{fields_in}
use Rattle.calls.specs.Gate.{items_of}
use Rattle.items.specs.Items.{count_of}
use Rattle.calls.specs.Calls.{Levelled}
use Rattle.book.specs.Book.{settled}
use Rattle.reversal.specs.Run.{Side}
use Rattle.reversal.specs.Demand.{undone_on}
use Rattle.sound_calls.specs.Sound.{audio_of, gains_written, undo_mp3_plan}
use Rattle.sound_reversal.specs.Run.{Asked, sound_on, run, accepted, Wrapped, Landed}

-- the condition on gain i of a side
abbrev pub Held : Side → ℕ → List ℕ → List Asked → Type 0
Held side i file as' = Wrapped file as' ⊎ (get_or (sound_on side file) i 0 ≡ 0) ⊎ Landed side i file as'

-- file is the MP3 at the start, as' the list, room the length of the undo's output
pub record Given (file : List ℕ) (as' : List Asked) (room : ℕ) : Type 0 where
  -- "a whole MP3 that is settled"
  pub settled-file : settled file ≡ true
  -- "and free of the eight keys"
  pub none-of-eight : count_of is_mp3gain_key (items_of file) ≡ 0
  -- a file is bytes
  pub bytes : Small file
  -- "where no gain field reaches into the last 160 audio bytes"
  pub clear : Before (length (audio_of file) - 160) (fields_in (audio_of file))
  -- "a list of level calls, at least one accepted"
  pub some_level : ¬ (accepted file as' ≡ [])
  -- "and an undo lent an output as long as the file now"
  pub long : length (run file as') ≤ room

pub record Restored (file : List ℕ) (as' : List Asked) (room : ℕ) : Type 0 where
  -- the undo is accepted
  pub undone : Levelled
  pub undo-accepted : undo_mp3_plan (run file as') room ≡ yes undone
  -- "only the gain bits may change": it gives the first file with the gains that it leaves
  pub only-gains : undone.out ≡ gains_written file undone.left undone.right file
  -- no gain comes or goes, and they stand in the file that it gives
  pub lengths : (side : Side) → length (undone_on side undone) ≡ length (sound_on side file)
  pub there : (side : Side) → sound_on side undone.out ≡ undone_on side undone
  -- "under the same condition on each gain"
  pub gain : (side : Side) (i : ℕ) → i < length (sound_on side file)
      → (get_or (undone_on side undone) i 0 ≡ get_or (sound_on side file) i 0) ↔ Held side i file as'
  -- "restores a whole MP3": where it holds of each gain, byte for byte
  pub whole : ((side : Side) (i : ℕ) → i < length (sound_on side file) → Held side i file as') → undone.out ≡ file

-- the whole claim
unfoldable pub Claim : Type 0
Claim = (file : List ℕ) (as' : List Asked) (room : ℕ) → Given file as' room → Restored file as' room
