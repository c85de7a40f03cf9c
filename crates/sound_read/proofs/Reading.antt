-- Laws of `read_gains_plan`, by the tests of the code.
use Prim.Native.Nat.{ℕ, ◌≤◌, ◌<◌}
use mathlib.Core.Path.{◌≡◌}
use mathlib.Core.Bool.{true, false}
use mathlib.Core.List.{List}
use lib.ListN.{length}
use borrow.Author.Tests.{le-leb, lt-leb}
use Rattle.replies.specs.Limits.{file_limit}
use Rattle.replies.specs.Refusal.{no, yes}
use Rattle.replies.specs.declared.Refusal.TheVariants.{FileTooLong, NoFrame, HasChecksum}
use Rattle.layer3.specs.Walk.{frames_in, any_frame, any_checksum}
use Rattle.sound_calls.specs.Sound.{audio_of, sound_left, sound_right, read_gains_plan}

module _ (file : List ℕ) where
  pub read-1 : file_limit < length file → read_gains_plan file ≡ no FileTooLong
  unfolding read_gains_plan
  read-1 h = rw (lt-leb (length file) file_limit h)

  module _ (h : length file ≤ file_limit) where
    pub read-15 : any_frame (frames_in (audio_of file)) ≡ false → read_gains_plan file ≡ no NoFrame
    unfolding read_gains_plan
    read-15 f = rw (le-leb (length file) file_limit h, f)

    module _ (f : any_frame (frames_in (audio_of file)) ≡ true) where
      pub read-16 : any_checksum (frames_in (audio_of file)) ≡ true → read_gains_plan file ≡ no HasChecksum
      unfolding read_gains_plan
      read-16 u = rw (le-leb (length file) file_limit h, f, u)

      pub read_done : any_checksum (frames_in (audio_of file)) ≡ false → read_gains_plan file ≡ yes (record { left = sound_left file; right = sound_right file })
      unfolding read_gains_plan
      read_done u = rw (le-leb (length file) file_limit h, f, u)
