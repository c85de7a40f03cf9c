-- The frames of an MP3 (document 02, request 5): audio is a file up to its audio end.
use Rattle.std.specs.Prelude.{ℕ, zero, suc, ◌+◌, ◌*◌, ◌/◌, ◌%◌, Bool, true, false, ◌||◌, cond, List, [], ◌∷◌, ◌++◌, length, get_or, leb, eqb}
use Rattle.lists.specs.Bytes.{ascii, starts_with}
use Rattle.lists.specs.Choice.{found, provided}
use Rattle.layer3.specs.declared.Frame.{Frame}
use Rattle.std.specs.Prelude.{Option}
use Rattle.layer3.specs.Header.{header_of}
use Rattle.layer3.specs.Fields.{Field, fields_from, read_left, read_right, write_fields}

-- ---- where the walk begins

-- the size in an ID3v2 header: the low seven bits of bytes 6 to 9
abbrev pub id3_size : List ℕ → ℕ
id3_size s = ((get_or s 6 0 % 128 * 128 + get_or s 7 0 % 128) * 128 + get_or s 8 0 % 128) * 128 + get_or s 9 0 % 128

-- bit 4 of byte 5: ten more bytes follow the tag
abbrev pub id3_footer : List ℕ → ℕ
id3_footer s = cond (eqb (get_or s 5 0 / 16 % 2) 1) 10 0

-- the end of an ID3v2 tag at byte 0, known by `ID3` alone; a byte past the end counts as 0
unfoldable pub walk_start : List ℕ → ℕ
walk_start s = cond (starts_with (ascii "ID3") s) (10 + id3_size s + id3_footer s) 0

-- ---- the walk

-- the header at a place; a byte past the end counts as 0
abbrev pub header_at : List ℕ → ℕ → Option Frame
header_at s at = header_of (get_or s at 0) (get_or s (at + 1) 0) (get_or s (at + 2) 0) (get_or s (at + 3) 0)

-- a frame counts if it ends by the audio end
unfoldable pub frame_at : List ℕ → ℕ → Option Frame
frame_at s at = provided (λ h. leb (at + h.size) (length s)) (header_at s at)

-- a frame: where it starts, and its shape
pub record Placed : Type 0 where
  pub at : ℕ
  pub frame : Frame

-- at most n steps from a place: over a frame, or past one byte that begins none
unfoldable pub walk : ℕ → List ℕ → ℕ → List Placed
walk zero s at = []
walk (suc n) s at = found (frame_at s at) (walk n s (at + 1)) (λ h. record { at = at; frame = h } ∷ walk n s (at + h.size))

-- all frames: no walk takes more steps than there are bytes
unfoldable pub frames_in : List ℕ → List Placed
frames_in s = walk (length s) s (walk_start s)

-- ---- the gains

-- the gain fields of frames, in order
unfoldable pub fields_of : List Placed → List Field
fields_of [] = []
fields_of (f ∷ fs) = fields_from (8 * f.at) f.frame ++ fields_of fs

-- is there a frame?
abbrev pub any_frame : List Placed → Bool
any_frame [] = false
any_frame (f ∷ fs) = true

-- does a frame have a checksum?
unfoldable pub any_checksum : List Placed → Bool
any_checksum [] = false
any_checksum (f ∷ fs) = f.frame.checksum || any_checksum fs

-- the gain fields of audio
abbrev pub fields_in : List ℕ → List Field
fields_in s = fields_of (frames_in s)

-- its gains on the left
abbrev pub left_gains : List ℕ → List ℕ
left_gains s = read_left (fields_in s) s

-- and on the right
abbrev pub right_gains : List ℕ → List ℕ
right_gains s = read_right (fields_in s) s

-- audio with these gains: nothing else changes
abbrev pub with_gains : List ℕ → List ℕ → List ℕ → List ℕ
with_gains s ls rs = write_fields (fields_in s) ls rs s
