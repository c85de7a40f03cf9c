-- The gain fields of a frame (ISO/IEC 11172-3 and 13818-3, 2.4.1.7: the side information of Layer III), and lists of them in a file.
use Rattle.std.specs.Prelude.{ℕ, ◌+◌, ◌*◌, ◌/◌, ◌<◌, cond, List, [], ◌∷◌}
use Rattle.layer3.specs.declared.Frame.{Frame}
use Rattle.layer3.specs.Bits.{read_bits, write_bits}

-- a gain field: channel 0 is left, channel 1 right; the bit where it begins
pub data Field : Type 0 where
  left : ℕ → Field
  right : ℕ → Field

-- its bit
abbrev pub place_of : Field → ℕ
place_of (left o) = o
place_of (right o) = o

-- ---- side information

-- bits from a frame's start to its side information: the header, and a checksum of two bytes
abbrev pub side_start : Frame → ℕ
side_start h = cond h.checksum 48 32

-- bits before the first granule: main_data_begin, private_bits, and in 11172-3 scfsi, four bits for each channel
abbrev pub before_granules : Frame → ℕ
before_granules h = cond h.mpeg1 (cond h.mono (9 + 5 + 4) (9 + 3 + 8)) (cond h.mono (8 + 1) (8 + 2))

-- bits of a channel in a granule: part2_3_length, big_values, global_gain, scalefac_compress, window_switching_flag, the 22 bits behind it, in 11172-3 preflag, then
-- scalefac_scale and count1table_select
abbrev pub channel_bits : Frame → ℕ
channel_bits h = cond h.mpeg1 (12 + 9 + 8 + 4 + 1 + 22 + 1 + 1 + 1) (12 + 9 + 8 + 9 + 1 + 22 + 1 + 1)

-- of these, the bits before global_gain
abbrev pub before_gain : ℕ
before_gain = 12 + 9

-- the bit of a gain, counted from the frame's start: n channels of this frame's granules stand before it
abbrev pub gain_at : Frame → ℕ → ℕ
gain_at h n = side_start h + before_granules h + n * channel_bits h + before_gain

-- the gain fields of a frame that starts at bit o: two granules in 11172-3, one in 13818-3, each with one channel or two
unfoldable pub fields_from : ℕ → Frame → List Field
fields_from o h =
    cond h.mono
    (left (o + gain_at h 0) ∷ cond h.mpeg1 (left (o + gain_at h 1) ∷ []) [])
    (left (o + gain_at h 0) ∷ right (o + gain_at h 1) ∷ cond h.mpeg1 (left (o + gain_at h 2) ∷ right (o + gain_at h 3) ∷ []) [])

-- ---- a list of fields in a file

-- the gains of the left side, in order
unfoldable pub read_left : List Field → List ℕ → List ℕ
read_left [] s = []
read_left (left o ∷ fs) s = read_bits s o ∷ read_left fs s
read_left (right o ∷ fs) s = read_left fs s

-- those of the right side
unfoldable pub read_right : List Field → List ℕ → List ℕ
read_right [] s = []
read_right (left o ∷ fs) s = read_right fs s
read_right (right o ∷ fs) s = read_bits s o ∷ read_right fs s

-- these gains written into the fields, in order: each takes the next gain of its side, and one for which none is left stays
unfoldable pub write_fields : List Field → List ℕ → List ℕ → List ℕ → List ℕ
write_fields [] ls rs s = s
write_fields (left o ∷ fs) [] rs s = write_fields fs [] rs s
write_fields (left o ∷ fs) (g ∷ ls) rs s = write_fields fs ls rs (write_bits s o g)
write_fields (right o ∷ fs) ls [] s = write_fields fs ls [] s
write_fields (right o ∷ fs) ls (g ∷ rs) s = write_fields fs ls rs (write_bits s o g)

-- every gain moved where it stands, one field after another
unfoldable pub moved_by : (ℕ → ℕ) → (ℕ → ℕ) → List Field → List ℕ → List ℕ
moved_by f g [] s = s
moved_by f g (left o ∷ fs) s = moved_by f g fs (write_bits s o (f (read_bits s o)))
moved_by f g (right o ∷ fs) s = moved_by f g fs (write_bits s o (g (read_bits s o)))

-- the gains of both sides as they will be, field by field
unfoldable pub moved_gains : (ℕ → ℕ) → (ℕ → ℕ) → List Field → List ℕ → List ℕ
moved_gains f g [] s = []
moved_gains f g (left o ∷ fs) s = f (read_bits s o) ∷ moved_gains f g fs s
moved_gains f g (right o ∷ fs) s = g (read_bits s o) ∷ moved_gains f g fs s

-- every field ends before byte m: the byte of its last bit
unfoldable pub Before : ℕ → List Field → Type 0
Before m [] = Unit {0}
Before m (f ∷ fs) = ((place_of f + 7) / 8 < m) × Before m fs
