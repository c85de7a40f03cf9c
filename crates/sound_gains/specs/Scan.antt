-- What a scan of audio answers, and what one under way has found: up to its place, and what is left from there.
use Rattle.std.specs.Prelude.{ℕ, min, max, Bool, ◌||◌, List, ◌++◌, length, ℤ}
use Rattle.frame.specs.declared.GainMode.{GainMode}
use Rattle.layer3.specs.Fields.{moved_gains}
use Rattle.layer3.specs.Walk.{walk, frames_in, fields_of, left_gains, right_gains, any_frame, any_checksum}
use Rattle.calls.specs.Calls.{adjusted, least, greatest, range_of}
use Rattle.sound_gains.specs.declared.Scan.{Scan}
use Rattle.sound_gains.specs.declared.Progress.{Progress}

-- is there a frame, does one have a checksum, and the range of the gains after left and right steps
abbrev pub scanned : GainMode → ℤ → ℤ → List ℕ → Scan
scanned m l r s = record {
  frames = any_frame (frames_in s);
  checksum = any_checksum (frames_in s);
  range = range_of (adjusted m l (left_gains s) ++ adjusted m r (right_gains s));
}

-- ---- a scan under way

-- a frame
abbrev pub frames_found : List ℕ → Progress → Bool
frames_found s x = x.found.frames || any_frame (walk (length s) s x.at)

-- a frame with a checksum
abbrev pub checksum_found : List ℕ → Progress → Bool
checksum_found s x = x.found.checksum || any_checksum (walk (length s) s x.at)

-- the least gain, f and g being how a left and a right one move
abbrev pub least_found : (ℕ → ℕ) → (ℕ → ℕ) → List ℕ → Progress → ℕ
least_found f g s x = min x.found.range.least (least (moved_gains f g (fields_of (walk (length s) s x.at)) s))

-- the greatest
abbrev pub greatest_found : (ℕ → ℕ) → (ℕ → ℕ) → List ℕ → Progress → ℕ
greatest_found f g s x = max x.found.range.greatest (greatest (moved_gains f g (fields_of (walk (length s) s x.at)) s))
