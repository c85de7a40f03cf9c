-- What read_gains answers and leaves in the two lists.
use Rattle.std.specs.Prelude.{Result, Ok, Err}
use Rattle.std.specs.Prelude.{ℕ, List, length, take}
use Rattle.lists.specs.Write.{over}
use Rattle.replies.specs.Refusal.{Plan, no, yes}
use Rattle.sound_calls.specs.Sound.{Gains}
use Rattle.replies.specs.declared.Refusal.{Refusal}
use Rattle.sound_lists.specs.declared.Counts.{Counts}

-- how many gains there are, or the refusal
abbrev pub read_answer : Plan Gains → Result Counts Refusal
read_answer (no r) = Err r
read_answer (yes g) = Ok (record { left = length g.left; right = length g.right })

-- a list with these gains at its front, as many as it has room for
abbrev pub into : List ℕ → List ℕ → List ℕ
into gs out = over (take (length out) gs) out

-- the left list afterwards, from what it held: a refusal leaves it
abbrev pub left_read : Plan Gains → List ℕ → List ℕ
left_read (no r) out = out
left_read (yes g) out = into g.left out

-- the right list
abbrev pub right_read : Plan Gains → List ℕ → List ℕ
right_read (no r) out = out
right_read (yes g) out = into g.right out
