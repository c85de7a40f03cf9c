-- What level and undo answer and leave in what they are lent.
use Rattle.std.specs.Prelude.{Result, Ok, Err}
use Rattle.std.specs.Prelude.{ℕ, List, [], ◌∷◌, length}
use Rattle.replies.specs.Refusal.{Plan, no, yes, need, refusal_of, planned}
use Rattle.replies.specs.declared.Refusal.{Refusal}
use Rattle.replies.specs.declared.Refusal.TheVariants.{TagTooLarge}
use Rattle.ape.specs.Tag.{replaced}
use Rattle.ape.specs.Answers.{room_for}
use Rattle.calls.specs.Gate.{tag_fits}
use Rattle.calls.specs.Calls.{Level, Levelled, new_items, level_gives}
use Rattle.level.specs.declared.Leveled.{Leveled}

-- the length of the file and the count of its peak items, or the refusal
abbrev pub level_answer : Plan Levelled → Result Leveled Refusal
level_answer (no r) = Err r
level_answer (yes x) = Ok (record { length = length x.out; peaks = x.peaks })

-- what is written: nothing when refused
abbrev pub level_bytes : Plan Levelled → List ℕ
level_bytes (no r) = []
level_bytes (yes x) = x.out

-- the gains of the left side: unchanged when refused
abbrev pub left_after : Plan Levelled → List ℕ → List ℕ
left_after (no r) gains = gains
left_after (yes x) gains = x.left

-- those of the right side likewise
abbrev pub right_after : Plan Levelled → List ℕ → List ℕ
right_after (no r) gains = gains
right_after (yes x) gains = x.right

-- the last tests of level: refusals 6 and 5
unfoldable pub last_plan : List ℕ → List ℕ → List ℕ → Level → ℕ → Plan Levelled
last_plan file left right l room =
    let new = new_items file left right l in
    planned (refusal_of (need TagTooLarge (tag_fits new) ∷ room_for room (replaced file new) ∷ [])) (level_gives file left right l)

-- a file that was written, with so many peak items
abbrev pub filed_answer : Plan (List ℕ) → ℕ → Result Leveled Refusal
filed_answer (no r) peaks = Err r
filed_answer (yes out) peaks = Ok (record { length = length out; peaks = peaks })
