-- Headers, gain fields and walks as examples. The four whole frames are worked out by hand from the tables of the standards.
use Rattle.std.specs.Prelude.{ℕ, ◌≡◌, Bool, true, false, List, [], ◌∷◌, ◌++◌, replicate}
use Rattle.layer3.specs.declared.Frame.{Frame}
use Rattle.std.specs.Prelude.{None, Some}
use Rattle.layer3.specs.Header.{header_of}
use Rattle.layer3.specs.Bits.{read_bits, write_bits}
use Rattle.layer3.specs.Fields.{left, right, fields_from}
use Rattle.layer3.specs.Walk.{walk_start, frames_in, fields_in, left_gains, right_gains, with_gains}

-- a frame in one line
abbrev pub framed : ℕ → Bool → Bool → Bool → Frame
framed size mpeg1 mono checksum = record { size = size; mpeg1 = mpeg1; mono = mono; checksum = checksum }

-- MPEG-1, 128 kilobits, 44,100 Hz, joint stereo: 144 * 128,000 / 44,100 = 417.9 bytes. Its gains begin at bits 32 + 20 + 21 = 73, 132, 191 and 250, with
-- the given bytes at 9, 16, 23 and 31, two for each
abbrev pub joint_of : ℕ → ℕ → ℕ → ℕ → ℕ → ℕ → ℕ → ℕ → List ℕ
joint_of a b c d e f g h =
    (0xFF ∷ 0xFB ∷ 0x90 ∷ 0x64 ∷ []) ++ replicate 5 0 ++ (a ∷ b ∷ []) ++ replicate 5 0xFF ++ (c ∷ d ∷ []) ++ replicate 5 0 ++ (e ∷ f ∷ []) ++ replicate 6 0 ++ (g ∷ h ∷ [])
    ++ replicate 384 0

-- gains 170 and 195 on the left, 85 and 60 on the right
abbrev pub joint1 : List ℕ
joint1 = joint_of 0x55 0 0x05 0x50 0x01 0x86 0x0F 0

-- the same frame with gains 255, 0 and 1, 254
abbrev pub joint1-written : List ℕ
joint1-written = joint_of 0x7F 0x80 0 0x10 0 0 0x3F 0x80

-- MPEG-1, 64 kilobits, 48,000 Hz, one channel: 144 * 64,000 / 48,000 = 192 bytes. Its gains begin at bits 32 + 18 + 21 = 71 and 130, and are 129 and 200
abbrev pub mono1 : List ℕ
mono1 = (0xFF ∷ 0xFB ∷ 0x54 ∷ 0xC4 ∷ []) ++ replicate 4 0 ++ (0x01 ∷ 0x02 ∷ []) ++ replicate 6 0 ++ (0x32 ∷ 0 ∷ []) ++ replicate 174 0

-- MPEG-2, 64 kilobits, 22,050 Hz, joint stereo, with padding: 72 * 64,000 / 22,050 = 208.9, and 1. Its gains begin at bits 32 + 10 + 21 = 63 and 126, and are 100 and 99
abbrev pub joint2 : List ℕ
joint2 = (0xFF ∷ 0xF3 ∷ 0x82 ∷ 0x44 ∷ []) ++ replicate 3 0 ++ (0 ∷ 0xC8 ∷ []) ++ replicate 6 0 ++ (0x01 ∷ 0x8C ∷ []) ++ replicate 192 0

-- MPEG-2, 8 kilobits, 24,000 Hz, one channel, the shortest frame: 72 * 8,000 / 24,000 = 24 bytes. Its gain begins at bit 32 + 9 + 21 = 62, and is 80
abbrev pub mono2 : List ℕ
mono2 = (0xFF ∷ 0xF3 ∷ 0x14 ∷ 0xC0 ∷ []) ++ replicate 3 0 ++ (0x01 ∷ 0x40 ∷ []) ++ replicate 15 0

-- each field is an example
pub record Figures : Type 0 where
  -- the four frames: what their headers say, where their gains stand, and which they are
  pub joint1-is : header_of 0xFF 0xFB 0x90 0x64 ≡ Some (framed 417 true false false)
  pub joint1-fields : fields_in joint1 ≡ left 73 ∷ right 132 ∷ left 191 ∷ right 250 ∷ []
  pub joint1-left : left_gains joint1 ≡ 170 ∷ 195 ∷ []
  pub joint1-right : right_gains joint1 ≡ 85 ∷ 60 ∷ []
  pub joint1-moved : with_gains joint1 (255 ∷ 0 ∷ []) (1 ∷ 254 ∷ []) ≡ joint1-written
  pub mono1-is : header_of 0xFF 0xFB 0x54 0xC4 ≡ Some (framed 192 true true false)
  pub mono1-fields : fields_in mono1 ≡ left 71 ∷ left 130 ∷ []
  pub mono1-left : left_gains mono1 ≡ 129 ∷ 200 ∷ []
  pub mono1-right : right_gains mono1 ≡ []
  pub joint2-is : header_of 0xFF 0xF3 0x82 0x44 ≡ Some (framed 209 false false false)
  pub joint2-fields : fields_in joint2 ≡ left 63 ∷ right 126 ∷ []
  pub joint2-left : left_gains joint2 ≡ 100 ∷ []
  pub joint2-right : right_gains joint2 ≡ 99 ∷ []
  pub mono2-is : header_of 0xFF 0xF3 0x14 0xC0 ≡ Some (framed 24 false true false)
  pub mono2-fields : fields_in mono2 ≡ left 62 ∷ []
  pub mono2-left : left_gains mono2 ≡ 80 ∷ []
  pub mono2-right : right_gains mono2 ≡ []
  -- the longest frame, and one with a checksum, whose fields stand two bytes later
  pub longest : header_of 0xFF 0xFB 0xEA 0 ≡ Some (framed 1441 true false false)
  pub checked : header_of 0xFF 0xFA 0x90 0x64 ≡ Some (framed 417 true false true)
  pub checked-fields : fields_from 800 (framed 24 false true true) ≡ left 878 ∷ []
  -- eleven sync bits (MPEG 2.5), Layer II, free format, reserved bit rate, sampling rate, emphasis
  pub eleven : header_of 0xFF 0xE3 0x90 0x64 ≡ None
  pub layer2 : header_of 0xFF 0xFD 0x90 0x64 ≡ None
  pub free : header_of 0xFF 0xFB 0 0x64 ≡ None
  pub rate : header_of 0xFF 0xFB 0xF0 0x64 ≡ None
  pub sampling : header_of 0xFF 0xFB 0x9C 0x64 ≡ None
  pub emphasis : header_of 0xFF 0xFB 0x90 0x66 ≡ None
  -- bits of two bytes: 0x01 0x44 from bit 6 on holds 81; the bits beside a field stay
  pub bits : read_bits (0x01 ∷ 0x44 ∷ []) 6 ≡ 81
  pub written : write_bits (0xFD ∷ 0x03 ∷ []) 6 80 ≡ 0xFD ∷ 0x43 ∷ []
  -- an ID3v2 tag of 257 bytes, with a footer; `ID3` alone
  pub id3 : walk_start (0x49 ∷ 0x44 ∷ 0x33 ∷ 4 ∷ 0 ∷ 0x10 ∷ 0 ∷ 0 ∷ 2 ∷ 1 ∷ []) ≡ 277
  pub id3-alone : walk_start (0x49 ∷ 0x44 ∷ 0x33 ∷ []) ≡ 10
  -- a stray byte, a frame, and a header whose frame would pass the end
  pub walked : frames_in (0xFF ∷ mono2 ++ (0xFF ∷ 0xF3 ∷ 0x14 ∷ 0xC0 ∷ [])) ≡ record { at = 1; frame = framed 24 false true false } ∷ []
