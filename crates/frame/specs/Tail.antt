-- The end of a file: the two marks that stand there, and where a tag starts (document 01, "Footer and tail").
use Rattle.std.specs.Prelude.{ℕ, ◌+◌, ◌-◌, Bool, ◌&&◌, cond, List, length, drop, leb, ltb, Option, None, Some, unwrap_or}
use Rattle.lists.specs.Bytes.{ascii, starts_with}
use Rattle.lists.specs.Le.{read_u32}

-- the eight bytes with which a header and a footer begin
abbrev pub preamble : List ℕ
preamble = ascii "APETAGEX"

-- the three bytes with which an ID3v1 block begins
abbrev pub id3v1_mark : List ℕ
id3v1_mark = ascii "TAG"

-- s has n bytes or more, and p stands at EOF-n
unfoldable pub stands_at : ℕ → List ℕ → List ℕ → Bool
stands_at n p s = leb n (length s) && starts_with p (drop (length s - n) s)

-- s ends in a block of 128 bytes that begins `TAG`
abbrev pub ends_with_id3v1 : List ℕ → Bool
ends_with_id3v1 s = stands_at 128 id3v1_mark s

-- flag bit 31: the tag has a header
abbrev pub has_header : ℕ → Bool
has_header flags = leb 0x80000000 flags

-- how far before the footer's end a tag of this size and these flags starts: 32 more with a header
abbrev pub reach : ℕ → ℕ → ℕ
reach size flags = size + cond (has_header flags) 32 0

-- footer + 32 - size, less 32 with a header; below 0 there is no start
unfoldable pub start_of : ℕ → ℕ → ℕ → Option ℕ
start_of footer size flags = cond (ltb (footer + 32) (reach size flags)) None (Some (footer + 32 - reach size flags))

-- the same of the footer that stands in s, if a whole one fits there
unfoldable pub tag_start : List ℕ → ℕ → Option ℕ
tag_start s footer = cond (leb (footer + 32) (length s)) (start_of footer (read_u32 s (footer + 12)) (read_u32 s (footer + 20))) None

-- where the tag starts whose footer ends at this place of s; the place itself where no preamble stands 32 bytes before it, or no start is given
unfoldable pub tag_before : List ℕ → ℕ → ℕ
tag_before s end = cond (leb 32 end && starts_with preamble (drop (end - 32) s)) (unwrap_or (tag_start s (end - 32)) end) end

-- find_audio_end: an ID3v1 block is taken off first, and then the tag before it
unfoldable pub sound_end : List ℕ → ℕ
sound_end s = tag_before s (length s - cond (ends_with_id3v1 s) 128 0)
