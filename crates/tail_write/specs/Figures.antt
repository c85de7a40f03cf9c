-- Small files rewritten, one for each case. Proved together in proofs/Figures.antt.
use Rattle.std.specs.Prelude.{Ok, ℕ, ◌≡◌, List, [], ◌∷◌, ◌++◌, replicate}
use Rattle.lists.specs.Bytes.{ascii}
use Rattle.replies.specs.Refusal.{no, yes}
use Rattle.replies.specs.declared.Refusal.TheVariants.{NoRoom, MalformedArea}
use Rattle.items.specs.Items.{Item, text_item, area_bytes}
use Rattle.ape.specs.Tag.{block_bytes, serialize}
use Rattle.tail_write.specs.Rewrite.{tail}
use Rattle.tail_write.specs.Answers.{rewrite_plan, rewrite_answer}
use Rattle.tail_write.specs.declared.Rewritten.TheVariants.{Done, Stopped}

-- the one item AB = c, and its area
abbrev item : List Item
item = text_item (ascii "AB") (ascii "c") ∷ []

abbrev area : List ℕ
area = area_bytes item

-- a footer of this size, of no items and without a header
abbrev bare : ℕ → List ℕ
bare size = block_bytes size 0 0

-- an ID3v1 block, and one whose last 32 bytes are a footer of size 0
abbrev block : List ℕ
block = ascii "TAG" ++ replicate 125 0

abbrev trap : List ℕ
trap = ascii "TAG" ++ (replicate 93 0 ++ (ascii "APETAGEX" ++ replicate 24 0))

-- room behind a file
abbrev room : ℕ → List ℕ
room n = replicate n 0

pub record Figures : Type 0 where
  -- an empty file: 76 bytes, and 5 with one byte less
  pub empty : rewrite_plan (room 76) 0 area 1 ≡ yes (tail 0 (serialize item))
  pub short : rewrite_plan (room 75) 0 area 1 ≡ no NoRoom
  -- a length past the buffer comes before 12
  pub length-first : rewrite_plan (room 1) 2 (room 5) 1 ≡ no NoRoom
  pub malformed : rewrite_plan (room 1) 1 (room 5) 1 ≡ no MalformedArea
  -- no tag and no items: not written
  pub unwritten : rewrite_plan (block ++ room 1) 128 [] 0 ≡ yes (tail 128 [])
  -- an ID3v1 block alone goes behind the new tag
  pub alone : rewrite_plan (block ++ room 76) 128 area 1 ≡ yes (tail 0 (serialize item ++ block))
  -- behind a tag it stays behind, and moves up where the tag goes
  pub behind-tag : rewrite_plan (bare 32 ++ (block ++ room 44)) 160 area 1 ≡ yes (tail 0 (serialize item ++ block))
  pub removed : rewrite_plan (bare 32 ++ block) 160 [] 0 ≡ yes (tail 0 block)
  -- before a tag it stays there
  pub before-tag : rewrite_plan (block ++ (bare 32 ++ room 44)) 160 area 1 ≡ yes (tail 128 (serialize item))
  -- so it does where the tag has size 0, no header, and lies in the block
  pub size-0 : rewrite_plan (trap ++ room 76) 128 area 1 ≡ yes (tail 128 (serialize item))
  -- the same after so many writes: with an ID3v1 block alone, the length that is found grows only behind the old one, and is set by the write behind the last
  pub found-76 : rewrite_answer 128 76 (rewrite_plan (block ++ room 76) 128 area 1) ≡ Ok (Stopped 0 128)
  pub found-130 : rewrite_answer 128 130 (rewrite_plan (block ++ room 76) 128 area 1) ≡ Ok (Stopped 0 130)
  pub found-204 : rewrite_answer 128 204 (rewrite_plan (block ++ room 76) 128 area 1) ≡ Ok (Stopped 0 204)
  pub found-205 : rewrite_answer 128 205 (rewrite_plan (block ++ room 76) 128 area 1) ≡ Ok (Done 0 204)
  -- a shorter file keeps its old length until then
  pub found-longer : rewrite_answer 160 128 (rewrite_plan (bare 32 ++ block) 160 [] 0) ≡ Ok (Stopped 0 160)
  pub found-shorter : rewrite_answer 160 129 (rewrite_plan (bare 32 ++ block) 160 [] 0) ≡ Ok (Done 0 128)
