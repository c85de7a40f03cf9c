-- What the editing gate says of a file whose tag was being rewritten when power failed; proved in proofs/Torn.antt.
use Rattle.std.specs.Prelude.{ℕ, ◌+◌, ◌≤◌, ◌<◌, ◌≡◌, true, false, ◌&&◌, List, [], ◌∷◌, ◌++◌, length, take, drop, eqb}
use Rattle.std.specs.Prelude.{None, Some}
use Rattle.lists.specs.Bytes.{ascii}
use Rattle.lists.specs.Le.{read_u32}
use Rattle.frame.specs.Tail.{has_header, tag_start}
use Rattle.items.specs.Items.{Item, text_item, area_bytes}
use Rattle.ape.specs.Tag.{serialize, find_footer, size_at, count_at}
use Rattle.calls.specs.Gate.{gate_items}
use Rattle.tail_write.specs.Rewrite.{Tail, tail_of, length_of}

-- the file that is found after k bytes of a tail, and before the length is set
abbrev pub found_after : List ℕ → Tail → ℕ → List ℕ
found_after s t k = take t.end s ++ (take k t.bytes ++ drop (t.end + k) s)

-- the file s while its tag is rewritten by these items
pub record Torn (s : List ℕ) (ts : List Item) : Type 0 where
  -- before the first byte it is the old file
  pub untouched : found_after s (tail_of s ts) 0 ≡ s
  -- behind the last byte it is the new file, with what is left of a longer old one behind it until the length is set
  pub all-written : let t = tail_of s ts in found_after s t (length t.bytes) ≡ (take t.end s ++ t.bytes) ++ drop (length_of t) s
  -- as long as the old footer is not reached, it is the one that is found: so it is to the end where the new tail ends before it
  pub old-footer : (f k : ℕ) → let t = tail_of s ts in find_footer s ≡ Some f → k ≤ length t.bytes → t.end + k ≤ f → find_footer (found_after s t k) ≡ Some f
  -- from the new header's count on up to there the gate refuses the file, if the old tag has a header, and another size or another count
  pub refused : (f a k : ℕ) → let t = tail_of s ts in find_footer s ≡ Some f → tag_start s f ≡ Some a → has_header (read_u32 s (f + 20)) ≡ true
      → 0 < length ts → length (area_bytes ts) ≤ 16777216 → (eqb (length (area_bytes ts) + 32) (size_at s f) && eqb (length ts) (count_at s f)) ≡ false
      → 20 ≤ k → k ≤ length t.bytes → t.end + k ≤ f → gate_items (found_after s t k) ≡ None

-- an undo item with this text
abbrev undo_item : List ℕ → Item
undo_item text = text_item (ascii "MP3GAIN_UNDO") text

-- the item AB = c, and a binary item that holds its tag
abbrev small : Item
small = text_item (ascii "AB") (ascii "c")

abbrev holder : Item
holder = record { key = ascii "AB"; value = serialize (small ∷ []); flags = 2 }

-- the items that the gate finds in the tag of these, rewritten by those, after k bytes
abbrev gated : List Item → List Item → ℕ → List Item → Type 0
gated old new k found = gate_items (found_after (serialize old) (tail_of (serialize old) new) k) ≡ Some found

-- where the gate passes what was never stored: no law tells such files from others
pub record TornFigures : Type 0 where
  -- the same size and count: a text of old and new bytes
  pub mixed : gated (undo_item (ascii "+003,+003,W") ∷ []) (undo_item (ascii "-015,-015,W") ∷ []) 56 (undo_item (ascii "-013,+003,W") ∷ [])
  -- a longer tag, and a byte of the old footer gone: no footer, so no items, and no undo item
  pub lost : gated (undo_item (ascii "+003,+003,W") ∷ []) (undo_item (ascii "+003,+003,W") ∷ small ∷ []) 65 []
  -- a value that holds a tag: that tag
  pub held : gated [] (holder ∷ []) 119 (small ∷ [])
