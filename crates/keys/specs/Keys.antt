-- Keys of items (document 01, "Editing and writing", and refusal 3).
use Rattle.std.specs.Prelude.{ℕ, suc, ◌-◌, Bool, false, not, ◌&&◌, cond, List, [], ◌∷◌, map, length, leb, Option, None, Some, option_map}
use Rattle.lists.specs.Bytes.{ascii, among, all, same}
use Rattle.lists.specs.Choice.{found, is_some}
use Rattle.keys.specs.declared.Key as n

-- the capital of a small letter in ASCII, and any other byte as it is
unfoldable pub upper : ℕ → ℕ
upper x = cond (among 0x61 0x7A x) (x - 32) x

-- each byte of a text so
unfoldable pub upper_all : List ℕ → List ℕ
upper_all s = map upper s

-- equal with ASCII case folded
unfoldable pub same_key : List ℕ → List ℕ → Bool
same_key a b = same (upper_all a) (upper_all b)

-- the place of the first name that is the key with case folded
unfoldable pub which_of : List (List ℕ) → List ℕ → Option ℕ
which_of [] k = None
which_of (n ∷ ns) k = cond (same_key k n) (Some 0) (option_map suc (which_of ns k))

-- the eight keys: MP3GAIN_VALUE_KEYS
unfoldable pub keys : List (List ℕ)
keys =
    ascii "MP3GAIN_UNDO" ∷ ascii "MP3GAIN_MINMAX" ∷ ascii "MP3GAIN_ALBUM_MINMAX"
    ∷ ascii "REPLAYGAIN_TRACK_GAIN" ∷ ascii "REPLAYGAIN_TRACK_PEAK"
    ∷ ascii "REPLAYGAIN_ALBUM_GAIN" ∷ ascii "REPLAYGAIN_ALBUM_PEAK" ∷ ascii "REPLAYGAIN_ALGORITHM" ∷ []

-- which of the eight a key is
unfoldable pub which_key : List ℕ → Option ℕ
which_key k = which_of keys k

-- the place of each of the eight keys
abbrev pub place_of : n.Key → ℕ
place_of n.TheVariants.Undo = 0
place_of n.TheVariants.Minmax = 1
place_of n.TheVariants.AlbumMinmax = 2
place_of n.TheVariants.TrackGain = 3
place_of n.TheVariants.TrackPeak = 4
place_of n.TheVariants.AlbumGain = 5
place_of n.TheVariants.AlbumPeak = 6
place_of n.TheVariants.Algorithm = 7

-- one of the eight, in any letter case, from the one at a place on
unfoldable pub is_from : ℕ → List ℕ → Bool
is_from n k = found (which_key k) false (λ i. leb n i)

-- one of the eight
abbrev pub is_mp3gain_key : List ℕ → Bool
is_mp3gain_key k = is_from 0 k

-- UNDONE_KEYS: all but MP3GAIN_UNDO and MP3GAIN_MINMAX
abbrev pub is_undone : List ℕ → Bool
is_undone k = is_from 2 k

-- REPLAYGAIN_KEYS: the last five
abbrev pub is_replay_gain : List ℕ → Bool
is_replay_gain k = is_from 3 k

-- the key of the undo numbers
unfoldable pub undo_key : List ℕ
undo_key = ascii "MP3GAIN_UNDO"

-- the key of the range of gains
unfoldable pub minmax_key : List ℕ
minmax_key = ascii "MP3GAIN_MINMAX"

-- a byte of hex 20..7E
abbrev pub printable : ℕ → Bool
printable x = among 0x20 0x7E x

-- ID3, TAG, OggS or MP+ in any letter case
unfoldable pub is_reserved : List ℕ → Bool
is_reserved k = is_some (which_of (ascii "ID3" ∷ ascii "TAG" ∷ ascii "OggS" ∷ ascii "MP+" ∷ []) k)

-- what refusal 3 lets pass
unfoldable pub is_key : List ℕ → Bool
is_key k = among 2 255 (length k) && (all printable k && not (is_reserved k))
