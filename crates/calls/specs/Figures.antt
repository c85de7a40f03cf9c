-- Document 01's bench figures marked P, and the small examples of its table of replies with those of document 02's requests, over the definitions that the contracts cite.
use Rattle.std.specs.Prelude.{ℕ, ◌≡◌, true, false, List, [], ◌∷◌, ◌++◌, length, replicate, ℤ, pos, negsuc}
use Rattle.std.specs.Prelude.{Option, None, Some}
use Rattle.lists.specs.Bytes.{ascii}
use Rattle.lists.specs.Le.{u32le}
use Rattle.replies.specs.Refusal.{no, yes}
use Rattle.replies.specs.declared.Refusal.TheVariants.{
  StepOutOfRange,
  BadKey,
  NotUtf8,
  NoRoom,
  TagTooLarge,
  NoLeftGains,
  NotEditable,
  FlagDiffers,
  NoUndo,
  UndoOutOfRange,
  MalformedSlip,
  SecondUndo,
}
use Rattle.frame.specs.declared.GainMode.{GainMode}
use Rattle.frame.specs.declared.GainMode.TheVariants.{Saturating, Wrapping}
use Rattle.frame.specs.Tail.{preamble}
use Rattle.frame.specs.Gain.{adjust}
use Rattle.lossy.specs.Lossy.{mark, lossy}
use Rattle.values.specs.Undo.{format_undo, parse_undo}
use Rattle.values.specs.Stored.{shift_stored, range_wraps_out}
use Rattle.decibels.specs.Gain.{shift_gain}
use Rattle.items.specs.Items.{Item, area_bytes, text_item}
use Rattle.ape.specs.Tag.{header_flags, footer_flags, size_at, serialize, read_tag, replaced}
use Rattle.calls.specs.Calls.{Level, set_plan, remove_plan, shift_stored_gain, resolved, peaks_kept, level_plan, slip_plan, undo_plan}

-- ---- what the figures are about

-- an item of these flags
abbrev pub flagged : ℕ → List ℕ → List ℕ → Item
flagged flags key value = record { key = key; value = value; flags = flags }

-- a text item of a quoted key and a quoted value
abbrev pub item : List ℕ → List ℕ → Item
item key value = text_item key value

-- key `AB`, value `c`
abbrev pub ab : List Item
ab = item (ascii "AB") (ascii "c") ∷ []

-- a range item
abbrev pub ranged : List ℕ → Item
ranged text = item (ascii "MP3GAIN_MINMAX") text

-- an undo item alone
abbrev pub undo_item : List ℕ → List Item
undo_item text = item (ascii "MP3GAIN_UNDO") text ∷ []

-- the two items that level sets
abbrev pub level_pair : List ℕ → List ℕ → List Item
level_pair undo range = item (ascii "MP3GAIN_UNDO") undo ∷ ranged range ∷ []

-- a level call of these steps
abbrev pub by : ℤ → ℤ → GainMode → Level
by left right mode = record { left = left; right = right; mode = mode }

-- both steps 5, N
abbrev pub fives : Level
fives = by (pos 5) (pos 5) Saturating

-- ---- the figures marked P, row by row

-- each field is a figure, under the row that has it
pub record Figures : Type 0 where
  -- undo 3, -12, N; 0, 1000, W
  pub undo-n : format_undo (pos 3) (negsuc 11) false ≡ ascii "+003,-012,N"
  pub undo-w : format_undo (pos 0) (pos 1000) true ≡ ascii "+000,+1000,W"
  -- `-3,junk` gives -3, -3; `junk,7` gives 0, 7
  pub right-junk : parse_undo (ascii "-3,junk") ≡ record { left = negsuc 2; right = negsuc 2 }
  pub left-junk : parse_undo (ascii "junk,7") ≡ record { left = pos 0; right = pos 7 }
  -- N: 0+9=0, 250+10=255, 3-9=0; W: 250+10=4, 3-9=250
  pub n-zero : adjust Saturating (pos 9) 0 ≡ 0
  pub n-high : adjust Saturating (pos 10) 250 ≡ 255
  pub n-low : adjust Saturating (negsuc 8) 3 ≡ 0
  pub w-high : adjust Wrapping (pos 10) 250 ≡ 4
  pub w-low : adjust Wrapping (negsuc 8) 3 ≡ 250
  -- `094,168` by 100: `194,255`; under W dropped
  pub range-text : shift_stored (ascii "MP3GAIN_MINMAX") (ascii "094,168") (pos 100) ≡ Some (ascii "194,255")
  pub range-out : range_wraps_out (ascii "MP3GAIN_MINMAX") (ascii "094,168") (pos 100) ≡ true
  pub range-n : shift_stored_gain Saturating (pos 100) (ranged (ascii "094,168") ∷ []) ≡ ranged (ascii "194,255") ∷ []
  pub range-w : shift_stored_gain Wrapping (pos 100) (ranged (ascii "094,168") ∷ []) ≡ []
  -- `-3.500000 dB` by 2; `+1.505150 dB` by 1; `-1.505150 dB` by -1
  pub gain-two : shift_gain (pos 2) (ascii "-3.500000 dB") ≡ Some (ascii "-6.510300 dB")
  pub gain-one : shift_gain (pos 1) (ascii "+1.505150 dB") ≡ Some (ascii "+0.000000 dB")
  pub gain-minus : shift_gain (negsuc 0) (ascii "-1.505150 dB") ≡ Some (ascii "-0.000000 dB")
  -- hex E2 82 41 reads EF BF BD 41; F0 80 gives two marks
  pub one-mark : lossy (0xE2 ∷ 0x82 ∷ 0x41 ∷ []) ≡ 0xEF ∷ 0xBF ∷ 0xBD ∷ 0x41 ∷ []
  pub two-marks : lossy (0xF0 ∷ 0x80 ∷ []) ≡ mark ++ mark
  -- `AB`, `c`: 12 item bytes, size 44 (in the header, and in the footer, which stands at 44), 76 in all
  pub item-bytes : length (area_bytes ab) ≡ 12
  pub header-size : size_at (serialize ab) 0 ≡ 44
  pub footer-size : size_at (serialize ab) 44 ≡ 44
  pub tag-bytes : length (serialize ab) ≡ 76
  -- left 10, 0, no right gains, both steps 5, N: 15, 0, `-005,-005,N`, `000,015`; undo gives 10, 0
  pub level-ten : level_plan [] (10 ∷ 0 ∷ []) [] fives 1000
      ≡ yes (record { out = serialize (level_pair (ascii "-005,-005,N") (ascii "000,015")); left = 15 ∷ 0 ∷ []; right = []; peaks = 0 })
  pub undo-ten : undo_plan (serialize (level_pair (ascii "-005,-005,N") (ascii "000,015"))) (15 ∷ 0 ∷ []) [] 1000
      ≡ yes (record { out = []; left = 10 ∷ 0 ∷ []; right = []; peaks = 0 })
  -- left 252 likewise: 255; undo gives 250
  pub level-high : level_plan [] (252 ∷ []) [] fives 1000
      ≡ yes (record { out = serialize (level_pair (ascii "-005,-005,N") (ascii "255,255")); left = 255 ∷ []; right = []; peaks = 0 })
  pub undo-high : undo_plan (serialize (level_pair (ascii "-005,-005,N") (ascii "255,255"))) (255 ∷ []) [] 1000
      ≡ yes (record { out = []; left = 250 ∷ []; right = []; peaks = 0 })

-- ---- the small examples of the table of replies that these calls give

-- a header or a footer: version, size, count, flags
abbrev pub block : ℕ → ℕ → ℕ → ℕ → List ℕ
block version size count flags = preamble ++ (u32le version ++ (u32le size ++ (u32le count ++ (u32le flags ++ replicate 8 0))))

-- a footer of another version, alone
abbrev pub version1000 : List ℕ
version1000 = block 1000 32 0 0

-- these bytes, an item, and a footer whose flag bit 31 is set
abbrev pub headed_by : List ℕ → List ℕ
headed_by header = header ++ (area_bytes ab ++ block 2000 44 1 footer_flags)

-- two undo items
abbrev pub twice : List Item
twice = item (ascii "MP3GAIN_UNDO") (ascii "+003,+003,N") ∷ item (ascii "mp3gain_undo") (ascii "+001,+001,N") ∷ []

-- 32 bytes of sound
abbrev pub sound : List ℕ
sound = replicate 32 0x55

-- so many items, all alike
abbrev pub many : ℕ → List Item
many n = replicate n (item (ascii "AB") (ascii "c"))

-- two items that unequal steps drop
abbrev pub undone_pair : List Item
undone_pair = item (ascii "REPLAYGAIN_TRACK_GAIN") (ascii "-3.500000 dB") ∷ item (ascii "Mp3gain_Album_MinMax") (ascii "010,200") ∷ []

-- a tag of a peak, a range and an undo item, its keys as someone spelled them
abbrev pub peaked : List Item
peaked = item (ascii "replaygain_track_peak") (ascii "0.9") ∷ item (ascii "Mp3gain_MinMax") (ascii "010,200") ∷ item (ascii "MP3GAIN_undo") (ascii "+001,-002,W") ∷ []

-- a peak text after so many steps, none where it stays as found
abbrev pub peak_by : ℤ → List ℕ → Option (List ℕ)
peak_by steps text = shift_stored (ascii "REPLAYGAIN_TRACK_PEAK") text steps

-- a peak that a shift moves and one that it leaves, both read-only and binary
abbrev pub two_peaks : List Item
two_peaks = flagged 3 (ascii "REPLAYGAIN_TRACK_PEAK") (ascii "1.000000") ∷ flagged 3 (ascii "replaygain_album_peak") (ascii "0.9") ∷ []

-- each field is a call and what it gives
pub record Examples : Type 0 where
  -- 2: left 256
  pub two : level_plan [] (10 ∷ []) [] (by (pos 256) (pos 0) Saturating) 1000 ≡ no StepOutOfRange
  -- 3: key `A`
  pub three : set_plan [] (ascii "A") (ascii "c") 1000 ≡ no BadKey
  -- 4: hex FF
  pub four : set_plan [] (ascii "AB") (0xFF ∷ []) 1000 ≡ no NotUtf8
  -- 5: 75 bytes for a 76-byte tag; 76 are enough, and the key is spelled in upper case
  pub five : set_plan [] (ascii "ab") (ascii "c") 75 ≡ no NoRoom
  pub five-not : set_plan [] (ascii "ab") (ascii "c") 76 ≡ yes (serialize ab)
  -- 6: a 42nd item; a 41st is within the limit
  pub six : set_plan (serialize (many 41)) (ascii "CD") (ascii "e") 10000 ≡ no TagTooLarge
  pub six-not : set_plan (serialize (many 40)) (ascii "cd") (ascii "e") 10000 ≡ yes (serialize (many 40 ++ (item (ascii "CD") (ascii "e") ∷ [])))
  -- 6: level sets two items; where it drops two of 41 it is accepted
  pub six-level : level_plan (serialize (many 40)) (10 ∷ []) [] fives 10000 ≡ no TagTooLarge
  pub six-level-not : level_plan (serialize (many 39 ++ undone_pair)) (10 ∷ []) [] (by (pos 1) (pos 2) Saturating) 10000
      ≡ yes (record { out = serialize (many 39 ++ level_pair (ascii "-001,-002,N") (ascii "011,011")); left = 11 ∷ []; right = []; peaks = 0 })
  -- 7: left list empty
  pub seven : level_plan [] [] (10 ∷ []) fives 1000 ≡ no NoLeftGains
  -- 8: footer version 1000
  pub eight : remove_plan version1000 (ascii "AB") 1000 ≡ no NotEditable
  pub eight-utf8 : remove_plan (serialize (item (ascii "AB") (0xFF ∷ []) ∷ [])) (ascii "CD") 1000 ≡ no NotEditable
  -- 8: a value that is not UTF-8, which a binary one may be; a key may not; a reserved type; a stray bit
  pub eight-binary : remove_plan (serialize (flagged 2 (ascii "AB") (0xFF ∷ []) ∷ [])) (ascii "CD") 1000 ≡ yes (serialize (flagged 2 (ascii "AB") (0xFF ∷ []) ∷ []))
  pub eight-key : remove_plan (serialize (flagged 2 (0xFF ∷ []) (ascii "c") ∷ [])) (ascii "CD") 1000 ≡ no NotEditable
  pub eight-external : remove_plan (serialize (flagged 5 (ascii "AB") (0xFF ∷ []) ∷ [])) (ascii "CD") 1000 ≡ no NotEditable
  pub eight-reserved : remove_plan (serialize (flagged 6 (ascii "AB") (ascii "c") ∷ [])) (ascii "CD") 1000 ≡ no NotEditable
  pub eight-stray : remove_plan (serialize (flagged 8 (ascii "AB") (ascii "c") ∷ [])) (ascii "CD") 1000 ≡ no NotEditable
  -- set keeps bit 0 and clears all other bits; a shifted value counts as set, and one that stays keeps its flags
  pub set-flags : set_plan (serialize (flagged 3 (ascii "AB") (0xFF ∷ []) ∷ [])) (ascii "ab") (ascii "c") 1000 ≡ yes (serialize (flagged 1 (ascii "AB") (ascii "c") ∷ []))
  pub shift-flags : shift_stored_gain Saturating (pos 100) (flagged 3 (ascii "MP3GAIN_MINMAX") (ascii "094,168") ∷ flagged 3 (ascii "MP3GAIN_MINMAX") (ascii "x") ∷ [])
      ≡ flagged 1 (ascii "MP3GAIN_MINMAX") (ascii "194,255") ∷ flagged 3 (ascii "MP3GAIN_MINMAX") (ascii "x") ∷ []
  -- peaks move to the nearest millionth; a needless zero goes, by 0 steps too
  pub peak-up : peak_by (pos 1) (ascii "1.000000") ≡ Some (ascii "1.189207")
  pub peak-down : peak_by (negsuc 0) (ascii "1.000000") ≡ Some (ascii "0.840896")
  pub peak-still : peak_by (pos 0) (ascii "00.500000") ≡ Some (ascii "0.500000")
  pub peak-tens : peak_by (pos 4) (ascii "09.500000") ≡ Some (ascii "19.000000")
  -- a half goes up: 1/2, 3/2, 1/2 and 7812 1/2 millionths
  pub half-of-1 : peak_by (negsuc 3) (ascii "0.000001") ≡ Some (ascii "0.000001")
  pub half-of-3 : peak_by (negsuc 3) (ascii "0.000003") ≡ Some (ascii "0.000002")
  pub part-of-16 : peak_by (negsuc 19) (ascii "0.000016") ≡ Some (ascii "0.000001")
  pub part-of-million : peak_by (negsuc 27) (ascii "1.000000") ≡ Some (ascii "0.007813")
  -- the greatest is 99.999999: a text that would have 100,000,000 millionths or more stays; 0 always moves
  pub peak-most : peak_by (pos 0) (ascii "99.999999") ≡ Some (ascii "99.999999")
  pub peak-over : peak_by (pos 1) (ascii "99.999999") ≡ None
  pub peak-hundred : peak_by (pos 4) (ascii "50.000000") ≡ None
  pub peak-106 : peak_by (pos 106) (ascii "0.000001") ≡ Some (ascii "94.906266")
  pub peak-107 : peak_by (pos 107) (ascii "0.000001") ≡ None
  pub peak-least : peak_by (negsuc 254) (ascii "99.999999") ≡ Some (ascii "0.000000")
  pub peak-zero : peak_by (pos 255) (ascii "0.000000") ≡ Some (ascii "0.000000")
  -- a text of another form stays: a sign, 5 or 7 digits behind the point, 3 or none before it
  pub peak-sign : peak_by (pos 1) (ascii "+1.000000") ≡ None
  pub peak-five : peak_by (pos 1) (ascii "1.00000") ≡ None
  pub peak-seven : peak_by (pos 1) (ascii "1.0000000") ≡ None
  pub peak-three : peak_by (pos 1) (ascii "001.000000") ≡ None
  pub peak-bare : peak_by (pos 1) (ascii ".500000") ≡ None
  -- of a peak that moves and one that stays, one is kept; the one that moves counts as set, and the other keeps its flags; unequal steps keep none
  pub peaks-moved : shift_stored_gain Saturating (pos 1) two_peaks
      ≡ flagged 1 (ascii "REPLAYGAIN_TRACK_PEAK") (ascii "1.189207") ∷ flagged 3 (ascii "replaygain_album_peak") (ascii "0.9") ∷ []
  pub one_kept : level_plan (serialize two_peaks) (10 ∷ []) [] (by (pos 1) (pos 1) Saturating) 1000 ≡ yes (record {
    out = serialize (flagged 1 (ascii "REPLAYGAIN_TRACK_PEAK") (ascii "1.189207") ∷ flagged 3 (ascii "replaygain_album_peak") (ascii "0.9") ∷ level_pair (ascii "-001,-001,N") (ascii "011,011"));
    left = 11 ∷ [];
    right = [];
    peaks = 1;
  })
  pub none_kept : peaks_kept (pos 1) (pos 2) two_peaks ≡ 0
  -- a binary value is read as found; one of the reserved type is converted like text
  pub read-binary : read_tag (serialize (flagged 2 (ascii "AB") (0xFF ∷ []) ∷ [])) ≡ Some (flagged 2 (ascii "AB") (0xFF ∷ []) ∷ [])
  pub read-reserved : read_tag (serialize (flagged 6 (ascii "AB") (0xFF ∷ []) ∷ [])) ≡ Some (flagged 6 (ascii "AB") mark ∷ [])
  -- 8: bit 31 is set, and the 32 bytes before the items are no header, or one of another version, size or count, or without bit 29
  pub eight-header : remove_plan (headed_by sound) (ascii "AB") 1000 ≡ no NotEditable
  pub eight-version : remove_plan (headed_by (block 1000 44 1 header_flags)) (ascii "AB") 1000 ≡ no NotEditable
  pub eight-size : remove_plan (headed_by (block 2000 45 1 header_flags)) (ascii "AB") 1000 ≡ no NotEditable
  pub eight-count : remove_plan (headed_by (block 2000 44 2 header_flags)) (ascii "AB") 1000 ≡ no NotEditable
  pub eight-bit : remove_plan (headed_by (block 2000 44 1 footer_flags)) (ascii "AB") 1000 ≡ no NotEditable
  -- its other flags are free; without bit 31 nothing is looked at
  pub headed : remove_plan (headed_by (block 2000 44 1 0x20000000)) (ascii "AB") 1000 ≡ yes []
  pub unheaded : remove_plan (sound ++ (area_bytes ab ++ block 2000 44 1 0)) (ascii "AB") 1000 ≡ yes sound
  -- reading and replacement follow the Rust: they take the 32 bytes of sound for the header
  pub headless-read : read_tag (headed_by sound) ≡ Some ab
  pub headless-replaced : replaced (headed_by sound) ab ≡ serialize ab
  -- 8: a file of 42 items, for remove and undo too; it is read as before
  pub eight-remove : remove_plan (serialize (many 42)) (ascii "AB") 10000 ≡ no NotEditable
  pub eight-undo : undo_plan (serialize (many 41 ++ undo_item (ascii "+003,+003,N"))) (10 ∷ []) [] 10000 ≡ no NotEditable
  pub eight-read : read_tag (serialize (many 42)) ≡ Some (many 42)
  -- every match is removed, and nothing is written for no items
  pub removed : remove_plan (0x11 ∷ serialize (item (ascii "ab") (ascii "1") ∷ item (ascii "CD") (ascii "2") ∷ item (ascii "AB") (ascii "3") ∷ [])) (ascii "aB") 1000
      ≡ yes (0x11 ∷ serialize (item (ascii "CD") (ascii "2") ∷ []))
  pub removed-all : remove_plan (0x11 ∷ serialize ab) (ascii "aB") 1 ≡ yes (0x11 ∷ [])
  -- 9: stored `+003,+003,N`, call W
  pub nine : level_plan (serialize (undo_item (ascii "+003,+003,N"))) (10 ∷ []) [] (by (pos 1) (pos 1) Wrapping) 1000 ≡ no FlagDiffers
  -- 10: empty file
  pub ten : undo_plan [] (10 ∷ []) [] 1000 ≡ no NoUndo
  -- 11: stored `+32767,+000,N`, left -1
  pub eleven : level_plan (serialize (undo_item (ascii "+32767,+000,N"))) (10 ∷ []) [] (by (negsuc 0) (pos 0) Saturating) 1000 ≡ no UndoOutOfRange
  -- 14: a second undo item, in any letter case; it comes before 9 and 10, and behind 8; remove drops both
  pub fourteen : level_plan (serialize twice) (10 ∷ []) [] (by (pos 1) (pos 1) Wrapping) 0 ≡ no SecondUndo
  pub fourteen-undo : undo_plan (serialize twice) (10 ∷ []) [] 0 ≡ no SecondUndo
  pub fourteen-not : remove_plan (serialize twice) (ascii "mp3gain_undo") 1000 ≡ yes []
  -- where several apply: 2 before 7 before 8, and 9 before 11
  pub two-first : level_plan version1000 [] [] (by (pos 0) (negsuc 255) Wrapping) 0 ≡ no StepOutOfRange
  pub seven-first : undo_plan version1000 [] [] 0 ≡ no NoLeftGains
  pub nine-first : level_plan (serialize (undo_item (ascii "+32767,+000,N"))) (10 ∷ []) [] (by (negsuc 0) (pos 0) Wrapping) 0 ≡ no FlagDiffers
  -- a second level call under W adds to the stored numbers, keeps spelling and places, shifts the range and sets it to that of all gains, and counts the peak
  pub again : level_plan (serialize peaked) (250 ∷ 20 ∷ []) (30 ∷ []) (by (pos 3) (pos 3) Wrapping) 1000 ≡ yes (record {
    out = serialize (item (ascii "replaygain_track_peak") (ascii "0.9") ∷ item (ascii "Mp3gain_MinMax") (ascii "023,253") ∷ item (ascii "MP3GAIN_undo") (ascii "-002,-005,W") ∷ []);
    left = 253 ∷ 23 ∷ [];
    right = 33 ∷ [];
    peaks = 1;
  })
  -- a range that leaves 0..255 is dropped under W and then appended; unequal steps drop the peak
  pub out-again : level_plan (serialize peaked) (250 ∷ []) [] (by (pos 56) (pos 56) Wrapping) 1000 ≡ yes (record {
    out = serialize (item (ascii "replaygain_track_peak") (ascii "0.9") ∷ item (ascii "MP3GAIN_undo") (ascii "-055,-058,W") ∷ ranged (ascii "050,050") ∷ []);
    left = 50 ∷ [];
    right = [];
    peaks = 1;
  })
  pub unequal : level_plan (serialize peaked) (250 ∷ []) (7 ∷ []) (by (pos 1) (negsuc 0) Wrapping) 1000 ≡ yes (record {
    out = serialize (item (ascii "Mp3gain_MinMax") (ascii "006,251") ∷ item (ascii "MP3GAIN_undo") (ascii "+000,-001,W") ∷ []);
    left = 251 ∷ [];
    right = 6 ∷ [];
    peaks = 0;
  })
  -- a slip without a mode: the stored flag, W where nothing is stored, and N by a junk text; a written mode is obeyed
  pub unnamed-n : resolved None (undo_item (ascii "+003,+003,N")) ≡ Saturating
  pub unnamed-w : resolved None [] ≡ Wrapping
  pub unnamed-junk : resolved None (undo_item (ascii "junk")) ≡ Saturating
  pub named : resolved (Some Saturating) (undo_item (ascii "+003,+003,W")) ≡ Saturating
  -- level by a slip: 13 first; 2 before 7; a slip without a mode wraps where no undo item is, and keeps a stored N; a written N meets 9 in a W file
  pub thirteen : slip_plan (ascii "left=1\n") version1000 [] [] 0 ≡ no MalformedSlip
  pub slip-two : slip_plan (ascii "left=256\nright=0\n") version1000 [] [] 0 ≡ no StepOutOfRange
  pub slip-unnamed : slip_plan (ascii "left=5\nright=5\n") [] (252 ∷ []) [] 1000 ≡ yes (record {
    out = serialize (level_pair (ascii "-005,-005,W") (ascii "001,001"));
    left = 1 ∷ [];
    right = [];
    peaks = 0;
  })
  pub slip-stored : slip_plan (ascii "left=5\nright=5\n") (serialize (undo_item (ascii "+003,+003,N"))) (252 ∷ []) [] 1000 ≡ yes (record {
    out = serialize (level_pair (ascii "-002,-002,N") (ascii "255,255"));
    left = 255 ∷ [];
    right = [];
    peaks = 0;
  })
  pub slip-nine : slip_plan (ascii "left=5\nright=5\nmode=N\n") (serialize (undo_item (ascii "+003,+003,W"))) (252 ∷ []) [] 1000 ≡ no FlagDiffers
  -- undo by a junk text: 0 and 0 under N
  pub junk : undo_plan (serialize (undo_item (ascii "junk"))) (10 ∷ []) [] 1000 ≡ yes (record { out = []; left = 10 ∷ []; right = []; peaks = 0 })
