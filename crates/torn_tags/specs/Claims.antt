-- What document 02 says of the rewriting of a file's end, each claim under its sentence; proved in proofs/After.antt for every plan that is carried out.
use Rattle.std.specs.Prelude.{ℕ, suc, ◌+◌, ◌≤◌, ◌<◌, max, ◌≡◌, true, false, ◌&&◌, List, [], ◌++◌, length, take, drop, get_or, set, eqb}
use Rattle.replies.specs.Refusal.{yes}
use Rattle.frame.specs.Tail.{ends_with_id3v1}
use Rattle.items.specs.Items.{Item, items_in}
use Rattle.ape.specs.Tag.{serialize, split, replaced}
use Rattle.tail_write.specs.Rewrite.{tagless, start_in, block_before, Tail, length_of, after, length_after}
use Rattle.tail_write.specs.Answers.{rewrite_plan}

-- the rewriting t of a file s of n bytes, at the front of a buffer, by these items
pub record Rewrites (buf : List ℕ) (n : ℕ) (s : List ℕ) (ts : List Item) (t : Tail) : Type 0 where
  -- "bytes from the audio end are written in rising order": at first all is old, and each write changes the next place
  pub none_yet : after t 0 buf ≡ buf
  pub one_more : (k : ℕ) → k < length t.bytes → after t (suc k) buf ≡ set (after t k buf) (t.end + k) (get_or t.bytes k 0)
  -- "each old or new, with no junk"
  pub new-byte : (k i : ℕ) → k ≤ length t.bytes → i < k → get_or (after t k buf) (t.end + i) 0 ≡ get_or t.bytes i 0
  pub old-before : (k i : ℕ) → i < t.end → get_or (after t k buf) i 0 ≡ get_or buf i 0
  pub old-behind : (k i : ℕ) → k ≤ length t.bytes → t.end + k ≤ i → get_or (after t k buf) i 0 ≡ get_or buf i 0
  -- "What is found then: every audio byte old, the first k tail bytes new, the rest old, the length the greater of the old one and the audio
  -- end plus k": the file found is made of the old file and the new bytes only
  pub found : (k : ℕ) → k ≤ length t.bytes → take (length_after t k n) (after t k buf) ≡ take t.end s ++ (take k t.bytes ++ drop (t.end + k) s)
  pub found-length : (k : ℕ) → k ≤ length t.bytes → length (take (length_after t k n) (after t k buf)) ≡ max n (t.end + k)
  -- "If all k are written and the length is set, the file equals the whole replacement, except where an ID3v1 block lies before the tag"
  pub whole : block_before s ≡ false → take (length_of t) (after t (length t.bytes) buf) ≡ replaced s ts
  -- "which this writer leaves there"
  pub block : block_before s ≡ true → take (length_of t) (after t (length t.bytes) buf) ≡ take (start_in s) s ++ serialize ts
  pub block-stays : block_before s ≡ true → ends_with_id3v1 (take (start_in s) s) ≡ true
  -- the length is replacement's all the same
  pub same_length : length_of t ≡ length (replaced s ts)
  -- "The audio end is where replacement puts the new tag, or the old tag's start where such a block lies before it"
  pub end_is : (tagless s && eqb (length ts) 0) ≡ false → block_before s ≡ false → t.end ≡ length (split s).front
  pub end-block : block_before s ≡ true → t.end ≡ start_in s
  -- "A tagless file given no items is not written"
  pub unwritten : (tagless s && eqb (length ts) 0) ≡ true → t.bytes ≡ []

-- all of it, for every call that is not refused
abbrev pub Claims : Type 0
Claims = (buf : List ℕ) (n : ℕ) (area : List ℕ) (count : ℕ) (t : Tail) → rewrite_plan buf n area count ≡ yes t → Rewrites buf n (take n buf) (items_in count area) t
