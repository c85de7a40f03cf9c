-- The length of a new file by numbers alone.
use Rattle.std.specs.Prelude.{Result, Ok, Err}
use Rattle.std.specs.Prelude.{ℕ, ◌+◌, ◌&&◌, List, [], ◌∷◌, length, leb}
use Rattle.replies.specs.Limits.{file_limit, count_limit, area_limit}
use Rattle.replies.specs.Refusal.{need, refusal_of, Plan, no, yes, planned}
use Rattle.replies.specs.declared.Refusal.{Refusal}
use Rattle.replies.specs.declared.Refusal.TheVariants.{NoRoom, TagTooLarge}
use Rattle.ape.specs.Tag.{split}
use Rattle.ape_write.specs.Answers.{tag_length}

-- the length, or the refusal
abbrev pub length_answer : Plan ℕ → Result ℕ Refusal
length_answer (no r) = Err r
length_answer (yes n) = Ok n

-- how long a file is with so many items of so many bytes in place of its own
unfoldable pub sized : List ℕ → ℕ → ℕ → ℕ
sized file bytes count = length (split file).front + tag_length bytes count + length (split file).back

-- the last tests of a call that edits a file: refusals 6 and 5
unfoldable pub last_length : List ℕ → ℕ → ℕ → Plan ℕ
last_length file bytes count =
    planned
    (refusal_of (need TagTooLarge (leb count count_limit && leb bytes area_limit) ∷ need NoRoom (leb (sized file bytes count) file_limit) ∷ []))
    (sized file bytes count)
