-- Small probes, one for each case. Proved together in proofs/Figures.antt.
use Rattle.std.specs.Prelude.{ℕ, ◌≡◌, List, [], ◌∷◌, ◌++◌, replicate}
use Rattle.std.specs.Prelude.{Some}
use Rattle.lists.specs.Bytes.{ascii}
use Rattle.replies.specs.Refusal.{no, yes}
use Rattle.replies.specs.declared.Refusal.TheVariants.{FileTooLong, NoRoom}
use Rattle.items.specs.Items.{Item, text_item}
use Rattle.ape.specs.Tag.{block_bytes, serialize}
use Rattle.tail_read.specs.Needed.{needed}
use Rattle.tail_read.specs.Answers.{needs_plan, end_plan}

-- a footer of this size, of no items and without a header
abbrev bare : ℕ → List ℕ
bare size = block_bytes size 0 0

-- an ID3v1 block
abbrev block : List ℕ
block = ascii "TAG" ++ replicate 125 0

-- the one item AB = c
abbrev item : List Item
item = text_item (ascii "AB") (ascii "c") ∷ []

pub record Figures : Type 0 where
  -- no footer: the probe
  pub none-long : needed (replicate 160 0) 1000 ≡ 160
  pub none-short : needed (replicate 31 0) 31 ≡ 31
  -- a tag that lies in the probe: 44 + 32 + 32 is less than 160
  pub inside : needed (replicate 128 0 ++ bare 44) 1000 ≡ 160
  -- a longer one: 300 + 32 + 32
  pub longer : needed (replicate 128 0 ++ bare 300) 1000 ≡ 364
  -- the file has no more
  pub whole : needed (replicate 128 0 ++ bare 300) 363 ≡ 363
  -- before an ID3v1 block: 100 + 32 + 160
  pub block-behind : needed (bare 100 ++ block) 1000 ≡ 292
  -- just the file
  pub exact : needed (replicate 128 0 ++ bare 300) 364 ≡ 364
  -- the sum does not wrap at 32 bits
  pub wide : needed (replicate 128 0 ++ bare 0xFFFFFFFF) 5000000000 ≡ 4294967359
  pub beyond : needed (replicate 128 0 ++ bare 0xFFFFFFFF) 1000 ≡ 1000
  -- an empty file
  pub nothing : needed [] 0 ≡ 0
  -- refusal 1 speaks of the file's length
  pub longest : needs_plan (replicate 160 0) 16777216 ≡ yes 160
  pub too_long : needs_plan (replicate 160 0) 16777217 ≡ no FileTooLong
  -- the tag of one item of 12 bytes, read into room for it and into one byte less
  pub read : end_plan (serialize item) 1000 12 ≡ yes (Some item)
  pub no_room : end_plan (serialize item) 1000 11 ≡ no NoRoom
