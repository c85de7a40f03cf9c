-- The calls on the gains that stand in the sound of an MP3 (document 02, request 5): read_gains; level and undo, which do what level and undo do with lists of
-- gains, with the lists read from the file and the new gains written into its sound.
use Rattle.std.specs.Prelude.{ℕ, not, List, [], ◌∷◌, ◌++◌, length, drop}
use Rattle.replies.specs.Refusal.{Test, need, refusal_of, Plan, planned}
use Rattle.replies.specs.declared.Refusal.TheVariants.{NoFrame, HasChecksum}
use Rattle.slip.specs.declared.Wish.{Wish}
use Rattle.ape.specs.Tag.{split}
use Rattle.ape.specs.Answers.{lent_fits}
use Rattle.layer3.specs.Walk.{frames_in, any_frame, any_checksum, left_gains, right_gains, with_gains}
use Rattle.calls.specs.Calls.{Level, Levelled, level_tests, level_gives, asked, undo_tests, undo_gives}

-- ---- the sound of a file

-- the audio of a file ends where replacement puts the new tag
abbrev pub audio_of : List ℕ → List ℕ
audio_of file = (split file).front

-- the gains of its left side
abbrev pub sound_left : List ℕ → List ℕ
sound_left file = left_gains (audio_of file)

-- and of its right side
abbrev pub sound_right : List ℕ → List ℕ
sound_right file = right_gains (audio_of file)

-- refusals 15 and 16: a frame, and none with a checksum
abbrev pub frame_tests : List ℕ → List Test
frame_tests file = need NoFrame (any_frame (frames_in (audio_of file))) ∷ need HasChecksum (not (any_checksum (frames_in (audio_of file)))) ∷ []

-- ---- read_gains

-- the gains of either side
pub record Gains : Type 0 where
  pub left : List ℕ
  pub right : List ℕ

-- the gains of a file: refusals 1, 15, 16
unfoldable pub read_gains_plan : List ℕ → Plan Gains
read_gains_plan file = planned (refusal_of (lent_fits file ∷ frame_tests file)) (record { left = sound_left file; right = sound_right file })

-- ---- level and undo

-- w, which begins with the audio of a file, with these gains written into that audio
unfoldable pub gains_written : List ℕ → List ℕ → List ℕ → List ℕ → List ℕ
gains_written file ls rs w = with_gains (audio_of file) ls rs ++ drop (length (audio_of file)) w

-- what a call on lists gives, with its gains in the sound of the file that it writes
abbrev pub sound_gives : List ℕ → Levelled → Levelled
sound_gives file o = record { out = gains_written file o.left o.right o.out; left = o.left; right = o.right; peaks = o.peaks }

-- level on the sound: refusals 1, 2, 15, 16, 8, 14, 9, 11, 6, 5; there is no 7, as every frame has a left gain
unfoldable pub level_sound_plan : List ℕ → Level → ℕ → Plan Levelled
level_sound_plan file l room =
    let ls = sound_left file in
    let rs = sound_right file in
    planned (refusal_of (frame_tests file ++ level_tests file ls rs l room)) (sound_gives file (level_gives file ls rs l))

-- level_mp3: by two steps and a mode that is named, or resolved for the file
abbrev pub level_mp3_plan : List ℕ → Wish → ℕ → Plan Levelled
level_mp3_plan file w room = level_sound_plan file (asked w file) room

-- undo_mp3: refusals 1, 15, 16, 8, 14, 10, 5
unfoldable pub undo_mp3_plan : List ℕ → ℕ → Plan Levelled
undo_mp3_plan file room =
    let ls = sound_left file in
    let rs = sound_right file in
    planned (refusal_of (frame_tests file ++ undo_tests file ls room)) (sound_gives file (undo_gives file ls rs))
