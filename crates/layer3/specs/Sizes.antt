-- What the functions of a walk ask for: a table of frame lengths, and a frame with room for its gain fields.
use Rattle.std.specs.Prelude.{ℕ, ◌+◌, ◌/◌, ◌%◌, ◌≤◌, ◌<◌, ◌≡◌, true, false, ◌&&◌, cond, List, get_or}
use Rattle.layer3.specs.declared.Frame.{Frame}
use Rattle.layer3.specs.Header.{has_rate, has_sampling, unpadded_size}

-- t has the length without padding for each third byte c of a header, 0 where a rate is free or reserved: of 13818-3 at c / 4, and of 11172-3 64 places on
pub record SizeTable (t : List ℕ) : Type 0 where
  pub in-first : (c : ℕ) → c < 256 → get_or t (64 + c / 4) 0 ≡ cond (has_rate c && has_sampling c) (unpadded_size true (c / 16) (c / 4 % 4)) 0
  pub in-second : (c : ℕ) → c < 256 → get_or t (c / 4) 0 ≡ cond (has_rate c && has_sampling c) (unpadded_size false (c / 16) (c / 4 % 4)) 0
  pub small : (k : ℕ) → k < 128 → get_or t k 0 ≤ 1440

-- no frame of a valid header is shorter, so its gain fields stand in it
abbrev pub LongFrame : Frame → Type 0
LongFrame h = cond h.mpeg1 96 24 ≤ h.size
