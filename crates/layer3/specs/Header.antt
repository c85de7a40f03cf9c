-- Headers of Layer III frames (document 02, request 5; ISO/IEC 11172-3 and 13818-3, 2.4.1.3 and 2.4.2.3): four bytes a, b, c, d.
use Rattle.std.specs.Prelude.{ℕ, ◌+◌, ◌*◌, ◌/◌, ◌%◌, Bool, true, false, not, ◌&&◌, cond, [], ◌∷◌, get_or, eqb}
use Rattle.lists.specs.Bytes.{among}
use Rattle.layer3.specs.declared.Frame.{Frame}
use Rattle.std.specs.Prelude.{Option, None, Some}

-- ---- the fields of a header

-- syncword: all twelve bits are set
abbrev pub has_sync : ℕ → ℕ → Bool
has_sync a b = eqb a 255 && eqb (b / 16) 15

-- ID: 1 in 11172-3 (MPEG-1), 0 in 13818-3 (MPEG-2)
abbrev pub is_mpeg1 : ℕ → Bool
is_mpeg1 b = eqb (b / 8 % 2) 1

-- layer: 1 is Layer III
abbrev pub is_layer3 : ℕ → Bool
is_layer3 b = eqb (b / 2 % 4) 1

-- protection_bit: 0 where a checksum follows the header
abbrev pub has_checksum : ℕ → Bool
has_checksum b = eqb (b % 2) 0

-- bitrate_index: 0 is the free format, 15 is reserved
abbrev pub has_rate : ℕ → Bool
has_rate c = among 1 14 (c / 16)

-- sampling_frequency: 3 is reserved
abbrev pub has_sampling : ℕ → Bool
has_sampling c = not (eqb (c / 4 % 4) 3)

-- mode: 3 is a single channel
abbrev pub is_mono : ℕ → Bool
is_mono d = eqb (d / 64) 3

-- emphasis: 2 is reserved
abbrev pub has_emphasis : ℕ → Bool
has_emphasis d = not (eqb (d % 4) 2)

-- ---- the length of a frame

-- kilobits a second, by bitrate_index
abbrev pub kilobits : Bool → ℕ → ℕ
kilobits true i = get_or (0 ∷ 32 ∷ 40 ∷ 48 ∷ 56 ∷ 64 ∷ 80 ∷ 96 ∷ 112 ∷ 128 ∷ 160 ∷ 192 ∷ 224 ∷ 256 ∷ 320 ∷ []) i 0
kilobits false i = get_or (0 ∷ 8 ∷ 16 ∷ 24 ∷ 32 ∷ 40 ∷ 48 ∷ 56 ∷ 64 ∷ 80 ∷ 96 ∷ 112 ∷ 128 ∷ 144 ∷ 160 ∷ []) i 0

-- samples a second, by sampling_frequency
abbrev pub hertz : Bool → ℕ → ℕ
hertz true i = get_or (44100 ∷ 48000 ∷ 32000 ∷ []) i 1
hertz false i = get_or (22050 ∷ 24000 ∷ 16000 ∷ []) i 1

-- samples in a frame: a granule has 576
abbrev pub samples : Bool → ℕ
samples mpeg1 = cond mpeg1 1152 576

-- whole bytes, rounded down, without padding: how many bits the samples of a frame take, at eight bits a byte
unfoldable pub unpadded_size : Bool → ℕ → ℕ → ℕ
unpadded_size mpeg1 rate sampling = samples mpeg1 / 8 * (kilobits mpeg1 rate * 1000) / hertz mpeg1 sampling

-- one byte more where padding_bit is set
abbrev pub frame_size : Bool → ℕ → ℕ
frame_size mpeg1 c = unpadded_size mpeg1 (c / 16) (c / 4 % 4) + c / 2 % 2

-- ---- the header

-- all that is asked of the four bytes
unfoldable pub is_valid : ℕ → ℕ → ℕ → ℕ → Bool
is_valid a b c d = has_sync a b && (is_layer3 b && (has_rate c && (has_sampling c && has_emphasis d)))

-- what a valid header says of its frame
abbrev pub frame_of : ℕ → ℕ → ℕ → Frame
frame_of b c d = record { size = frame_size (is_mpeg1 b) c; mpeg1 = is_mpeg1 b; mono = is_mono d; checksum = has_checksum b }

-- a valid header, or none
unfoldable pub header_of : ℕ → ℕ → ℕ → ℕ → Option Frame
header_of a b c d = cond (is_valid a b c d) (Some (frame_of b c d)) None
