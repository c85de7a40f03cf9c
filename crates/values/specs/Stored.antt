-- Stored values, by the key of their item (document 01, "Numbers in tags").
use Rattle.std.specs.Prelude.{ℕ, Bool, false, ◌||◌, cond, List, eqb, ℤ}
use Rattle.std.specs.Prelude.{Option, None}
use Rattle.lists.specs.Choice.{found}
use Rattle.decibels.specs.Gain.{shift_gain}
use Rattle.peaks.specs.Peak.{shift_peak}
use Rattle.keys.specs.Keys.{which_key}
use Rattle.values.specs.Range.{shift_range, wraps_out}
use Rattle.values.specs.declared.Kind as k

-- MP3GAIN_MINMAX and MP3GAIN_ALBUM_MINMAX, by their places among the eight keys
abbrev pub is_range : ℕ → Bool
is_range i = eqb i 1 || eqb i 2

-- REPLAYGAIN_TRACK_GAIN and REPLAYGAIN_ALBUM_GAIN
abbrev pub is_gain : ℕ → Bool
is_gain i = eqb i 3 || eqb i 5

-- REPLAYGAIN_TRACK_PEAK and REPLAYGAIN_ALBUM_PEAK
abbrev pub is_peak : ℕ → Bool
is_peak i = eqb i 4 || eqb i 6

-- what kind of value an item with this key holds
unfoldable pub kind_of : List ℕ → k.Kind
kind_of key =
    found (which_key key) k.TheVariants.Other (λ i. cond (is_range i) k.TheVariants.Range (cond (is_gain i) k.TheVariants.Gain (cond (is_peak i) k.TheVariants.Peak k.TheVariants.Other)))

-- a range of which a number leaves 0..255
abbrev pub wraps_out_by : k.Kind → List ℕ → ℤ → Bool
wraps_out_by k.TheVariants.Range value steps = wraps_out steps value
wraps_out_by k.TheVariants.Gain value steps = false
wraps_out_by k.TheVariants.Peak value steps = false
wraps_out_by k.TheVariants.Other value steps = false

-- is this item a range of which a number leaves 0..255?
unfoldable pub range_wraps_out : List ℕ → List ℕ → ℤ → Bool
range_wraps_out key value steps = wraps_out_by (kind_of key) value steps

-- the new text of a stored value, or none where it stays as found, as all others do
abbrev pub shift_by : k.Kind → List ℕ → ℤ → Option (List ℕ)
shift_by k.TheVariants.Range value steps = shift_range steps value
shift_by k.TheVariants.Gain value steps = shift_gain steps value
shift_by k.TheVariants.Peak value steps = shift_peak steps value
shift_by k.TheVariants.Other value steps = None

-- the same by the item's key
unfoldable pub shift_stored : List ℕ → List ℕ → ℤ → Option (List ℕ)
shift_stored key value steps = shift_by (kind_of key) value steps
