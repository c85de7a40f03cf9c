-- The table of eight keys: what the constant MP3GAIN_VALUE_KEYS of the code holds, row by row.
use Prim.Native.Nat.{ℕ, ◌<◌}
use mathlib.Core.Path.{◌≡◌, refl, ap}
use mathlib.Core.List.{List, [], ◌∷◌}
use lib.ListN.{get_or}
use Rattle.lists.specs.Bytes.{ascii}
use Rattle.keys.specs.Keys.{keys}

-- the constant MP3GAIN_VALUE_KEYS of the code
abbrev pub table : List (List ℕ)
table =
    ascii "MP3GAIN_UNDO" ∷ ascii "MP3GAIN_MINMAX" ∷ ascii "MP3GAIN_ALBUM_MINMAX"
    ∷ ascii "REPLAYGAIN_TRACK_GAIN" ∷ ascii "REPLAYGAIN_TRACK_PEAK"
    ∷ ascii "REPLAYGAIN_ALBUM_GAIN" ∷ ascii "REPLAYGAIN_ALBUM_PEAK" ∷ ascii "REPLAYGAIN_ALGORITHM" ∷ []

-- it holds the eight keys, in their order
pub table-keys : table ≡ keys
unfolding keys
table-keys = refl

-- each row is the key of its place
pub row : (k : ℕ) → k < 8 → get_or table k [] ≡ get_or keys k []
row k h = ap (λ (ns : List (List ℕ)). get_or ns k []) table-keys
