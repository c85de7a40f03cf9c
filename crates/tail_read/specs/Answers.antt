-- What the two stages of reading a file's end answer and write.
use Rattle.std.specs.Prelude.{ℕ, ◌&&◌, List, [], ◌∷◌, length, leb}
use Rattle.std.specs.Prelude.{Option, Result, Ok, Err}
use Rattle.replies.specs.Limits.{file_limit}
use Rattle.replies.specs.Refusal.{Test, need, refusal_of, Plan, no, yes, planned}
use Rattle.replies.specs.declared.Refusal.{Refusal}
use Rattle.replies.specs.declared.Refusal.TheVariants.{FileTooLong}
use Rattle.items.specs.Items.{Item}
use Rattle.ape.specs.Tag.{read_tag}
use Rattle.ape.specs.Answers.{room_for, read_area}
use Rattle.tail_read.specs.Needed.{needed}

-- ---- the first stage, bytes_needed

-- refusal 1: a file of n bytes is not too long
abbrev pub length_fits : ℕ → Test
length_fits n = need FileTooLong (leb n file_limit)

-- a number of bytes, or the refusal
abbrev pub needs_answer : Plan ℕ → Result ℕ Refusal
needs_answer (no r) = Err r
needs_answer (yes k) = Ok k

-- how many final bytes are to be lent to the second stage: refusal 1
abbrev pub needs_plan : List ℕ → ℕ → Plan ℕ
needs_plan probe n = planned (refusal_of (length_fits n ∷ [])) (needed probe n)

-- ---- the second stage, read_end

-- refusal 1: neither the file nor what is lent of it is too long
abbrev pub end_fits : List ℕ → ℕ → Test
end_fits end n = need FileTooLong (leb n file_limit && leb (length end) file_limit)

-- the end of a file of n bytes, read: refusals 1 and 5
unfoldable pub end_plan : List ℕ → ℕ → ℕ → Plan (Option (List Item))
end_plan end n room = planned (refusal_of (end_fits end n ∷ room_for room (read_area (read_tag end)) ∷ [])) (read_tag end)
